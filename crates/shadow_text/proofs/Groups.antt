-- A group of tables that a file can have has at most `RECORDS` records.
use Rattle.std.proofs.Common.{ℕ, ◌<◌, ◌≤◌, length, get_or, arith}
use Rattle.std.proofs.lemmas.List.Folds.{length-flat_map-take}
use Rattle.kmn_base.specs.declared.limits.TheConstants.{RECORDS}
use Rattle.rule_model.specs.declared.tables.Group.{Group}
use Rattle.rule_model.specs.declared.tables.Tables.{Tables}
use Rattle.kmx_format.specs.File.{rules_of, all_rules}

pub few_in_group : (tables : Tables) (n : ℕ) (d : Group) → length (all_rules tables) ≤ RECORDS → n < length tables.groups → length (get_or tables.groups n d).rules ≤ RECORDS
few_in_group tables n d few within = omega (arith, few, length-flat_map-take rules_of tables.groups n d within)
