-- The warnings of tables, by the number of their records.
use Rattle.std.proofs.Common.{◌≡◌, ◌<◌, ◌≤◌, ℕ, true, false, List, [], ◌∷◌, length, arith}
use Rattle.std.specs.Prelude.{nat_lt, if◌then◌else◌}
use Rattle.std.proofs.lemmas.Bool.Decides.{nat_tests}
use Rattle.kmn_base.specs.declared.limits.TheConstants.{SHADOW_RECORDS}
use Rattle.rule_model.specs.declared.tables.Tables.{Tables}
use Rattle.kmx_format.specs.File.{all_rules}
use Rattle.shadow_text.specs.DeadLines.{found_dead}
use Rattle.name_warnings.specs.declared.warning.Warning.{Warning}
use Rattle.dead_rules.specs.DeadRules.{dead_warnings, not_sought, unexplained}

are_many : (n : ℕ) → SHADOW_RECORDS < n → nat_lt SHADOW_RECORDS n ≡ true
are_many n h = grind (arith, nat_tests)

are_few : (n : ℕ) → n ≤ SHADOW_RECORDS → nat_lt SHADOW_RECORDS n ≡ false
are_few n h = grind (arith, nat_tests)

-- too many records have only the note
pub many_noted : (tables : Tables) (found : List Warning) → SHADOW_RECORDS < length (all_rules tables)
    → dead_warnings tables found ≡ not_sought (length (all_rules tables)) ∷ []
unfolding dead_warnings
many_noted tables found many =
    λ j. if are_many (length (all_rules tables)) many j then not_sought (length (all_rules tables)) ∷ [] else unexplained found (found_dead tables)

-- fewer records are searched
pub few_searched : (tables : Tables) (found : List Warning) → length (all_rules tables) ≤ SHADOW_RECORDS
    → dead_warnings tables found ≡ unexplained found (found_dead tables)
unfolding dead_warnings
few_searched tables found few =
    λ j. if are_few (length (all_rules tables)) few j then not_sought (length (all_rules tables)) ∷ [] else unexplained found (found_dead tables)
