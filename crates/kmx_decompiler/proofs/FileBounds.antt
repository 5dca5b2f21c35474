-- A bound on the length of a file by the number of items in its rules: limits keep all other parts small enough.
use Rattle.std.proofs.Common.{◌≡◌, ℕ, ◌+◌, ◌*◌, ◌≤◌, List, [], ◌∷◌, ◌++◌, length, arith, length-append}
use Rattle.std.specs.Prelude.{All, flat_map}
use Rattle.std.specs.List.{sum_by}
use Rattle.std.proofs.lemmas.List.Elements.{All-head, All-tail}
use Rattle.std.proofs.lemmas.List.Sums.{sum_by-cons, sum_by-append}
use Rattle.kmn_base.specs.declared.limits.TheConstants.{FILE_BYTES}
use Rattle.rule_model.specs.declared.tables.Rule.{Rule}
use Rattle.rule_model.specs.declared.tables.Store.{Store}
use Rattle.rule_model.specs.declared.tables.Group.{Group}
use Rattle.rule_model.specs.declared.tables.Tables.{Tables}
use Rattle.kmx_format.specs.FileUnits.{unit_item_of_element, unit_item_of_pattern, unit_item_of_output, element_units, pattern_units, output_units, name_units}
use Rattle.kmx_format.specs.File.{string, store_strings, group_strings, rule_strings, rules_of, all_rules, file_of}
use Rattle.kmx_format.specs.Writable.{elements_of, IsWritableStore, IsWritableGroup, IsWritable}
use Rattle.kmx_format.proofs.FileSize.{string_at_most, items_at_most}
use Rattle.kmx_format.proofs.FileLaw.{length-file_of}

-- the number of items of a record, of the match and nomatch outputs of a group, of a group, and of all groups
abbrev pub rule_size : Rule → ℕ
rule_size rule = length rule.context + length rule.output

abbrev pub match_size : Group → ℕ
match_size group = length group.on_match + length group.on_nomatch

abbrev pub group_size : Group → ℕ
group_size group = sum_by rule_size group.rules + match_size group

abbrev pub table_size : Tables → ℕ
table_size tables = sum_by group_size tables.groups

stores-bound : (stores : List Store) → All IsWritableStore stores → length (flat_map store_strings stores) ≤ 514 * length stores + 10 * length (flat_map elements_of stores)
stores-bound [] h = omega arith
stores-bound (store ∷ stores) h =
    let here : IsWritableStore store = All-head IsWritableStore store stores h in
    omega (
      arith,
      length-append (store_strings store) (flat_map store_strings stores),
      length-append (string (name_units store.name)) (string (element_units store.elements)),
      string_at_most (name_units store.name),
      here.name.units,
      items_at_most unit_item_of_element store.elements,
      length-append store.elements (flat_map elements_of stores),
      stores-bound stores (All-tail IsWritableStore store stores h),
    )

rules-bound : (rules : List Rule) → length (flat_map rule_strings rules) ≤ 4 * length rules + 10 * sum_by rule_size rules
rules-bound [] = omega arith
rules-bound (rule ∷ rules) =
    omega (
      arith,
      length-append (rule_strings rule) (flat_map rule_strings rules),
      length-append (string (pattern_units rule.context)) (string (output_units rule.output)),
      items_at_most unit_item_of_pattern rule.context,
      items_at_most unit_item_of_output rule.output,
      sum_by-cons rule_size rule rules,
      rules-bound rules,
    )

module _ (store_count group_count : ℕ) where
  groups-bound : (groups : List Group) → All (IsWritableGroup store_count group_count) groups → length (flat_map group_strings groups) ≤ 516 * length groups + 10 * sum_by match_size groups
  groups-bound [] h = omega arith
  groups-bound (group ∷ groups) h =
      let here : IsWritableGroup store_count group_count group = All-head (IsWritableGroup store_count group_count) group groups h in
      omega (
        arith,
        length-append (group_strings group) (flat_map group_strings groups),
        length-append (string (name_units group.name) ++ string (output_units group.on_match)) (string (output_units group.on_nomatch)),
        length-append (string (name_units group.name)) (string (output_units group.on_match)),
        string_at_most (name_units group.name),
        here.name.units,
        items_at_most unit_item_of_output group.on_match,
        items_at_most unit_item_of_output group.on_nomatch,
        sum_by-cons match_size group groups,
        groups-bound groups (All-tail (IsWritableGroup store_count group_count) group groups h),
      )

sizes-together : (groups : List Group) → sum_by group_size groups ≡ sum_by rule_size (flat_map rules_of groups) + sum_by match_size groups
sizes-together [] = omega arith
sizes-together (group ∷ groups) =
    omega (
      arith,
      sum_by-cons group_size group groups,
      sum_by-cons match_size group groups,
      sum_by-append rule_size group.rules (flat_map rules_of groups),
      sizes-together groups,
    )

-- if tables have few items, their file is within the limit of a file
pub file_bound : (tables : Tables) → IsWritable tables → table_size tables ≤ 1_300_000 → length (file_of tables []) ≤ FILE_BYTES
file_bound tables can few =
    omega (
      arith,
      length-file_of tables [],
      can.store_count,
      can.group_count,
      can.rule_count,
      can.element_count,
      stores-bound tables.stores can.stores,
      groups-bound (length tables.stores) (length tables.groups) tables.groups can.groups,
      rules-bound (all_rules tables),
      sizes-together tables.groups,
      few,
    )
