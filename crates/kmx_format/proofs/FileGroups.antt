-- Reading the groups of a file returns the written groups, each with its key records.
use Rattle.std.proofs.Common.{◌≡◌, ℕ, ◌+◌, ◌*◌, ◌^◌, ◌<◌, Bool, true, false, not, nat_eq, List, [], ◌∷◌, ◌++◌, length, map, refl, ap, ◌∙◌, length-append, arith, lit<}
use Rattle.std.specs.List.{All, flat_map}
use Rattle.std.proofs.lemmas.List.Elements.{All-head, All-tail}
use Rattle.std.proofs.lemmas.List.Concat.{flat_map-append}
use Rattle.rule_model.specs.declared.tables.Rule.{Rule}
use Rattle.rule_model.specs.declared.tables.Group.{Group}
use Rattle.kmx_format.specs.FileUnits.{output_units, name_units}
use Rattle.kmx_format.specs.File.{string, offset_of, group_strings, rule_strings, flag, rules_of, group_record, group_records, rule_records}
use Rattle.kmx_format.specs.TablesOf.{word_at, name_at, outputs_at, rules_from, uses_keys_at, group_at, groups_from, rule_without_place, group_without_places}
use Rattle.kmx_format.specs.Writable.{IsWritableRule, IsWritableGroup}
use Rattle.kmx_format.proofs.FileStands.{StandsAt, end_within, front, back, same_place, same_bytes, length-words, first_word_at, nth_word_at}
use Rattle.kmx_format.proofs.FileContents.{outputs_at-stands, name_at-stands}
use Rattle.kmx_format.proofs.FileRecords.{offset_of-le, length-rule_records, rule_records-append, rules_from-stands}

pub flag-small : (b : Bool) → flag b < 2 ^ 32
flag-small false = lit< tt
flag-small true = lit< tt

pub flag-read : (b : Bool) → not (nat_eq (flag b) 0) ≡ b
flag-read false = refl
flag-read true = refl

pub length-group_record : (rules_place place : ℕ) (group : Group) → length (group_record rules_place place group) ≡ 24
length-group_record rules_place place group =
    let name : List ℕ = name_units group.name in
    let on_match : List ℕ = output_units group.on_match in
    length-words (offset_of name place ∷ offset_of group.rules rules_place ∷ offset_of on_match (place + length (string name))
    ∷ offset_of (output_units group.on_nomatch) (place + length (string name) + length (string on_match)) ∷ length group.rules ∷ flag group.using_keys ∷ [])

module _ (bytes : List ℕ) (small : length bytes < 2 ^ 32) (store_count group_count : ℕ) where
  -- the key records of a group; an empty group has none at any position
  rules_at_offset : (using_keys : Bool) (rules_place strings_place : ℕ) (rules : List Rule) → 0 < strings_place → All (IsWritableRule store_count group_count using_keys) rules
      → StandsAt bytes rules_place (rule_records strings_place rules) → StandsAt bytes strings_place (flat_map rule_strings rules)
      → rules_from bytes using_keys (offset_of rules rules_place) (length rules) ≡ map rule_without_place rules
  rules_at_offset using_keys rules_place strings_place [] positive writable records strings = refl
  rules_at_offset using_keys rules_place strings_place (rule ∷ rules) positive writable records strings =
      rules_from-stands bytes small store_count group_count using_keys rules_place strings_place (rule ∷ rules) positive writable records strings

  group_at-stands : (at rules_place place strings_place : ℕ) (group : Group) → 0 < place → 0 < strings_place → IsWritableGroup store_count group_count group
      → StandsAt bytes at (group_record rules_place place group) → StandsAt bytes place (group_strings group)
      → StandsAt bytes rules_place (rule_records strings_place group.rules) → StandsAt bytes strings_place (flat_map rule_strings group.rules)
      → group_at bytes at ≡ group_without_places group
  group_at-stands at rules_place place strings_place group positive rules_positive writable fields strings records rules_strings =
      let name : List ℕ = name_units group.name in
      let on_match : List ℕ = output_units group.on_match in
      let on_nomatch : List ℕ = output_units group.on_nomatch in
      let second : ℕ = place + length (string name) in
      let third : ℕ = second + length (string on_match) in
      let count : ℕ = length group.rules in
      let ns : List ℕ = offset_of name place ∷ offset_of group.rules rules_place ∷ offset_of on_match second ∷ offset_of on_nomatch third ∷ count ∷ flag group.using_keys ∷ [] in
      let first_two : StandsAt bytes place (string name ++ string on_match) = front bytes place (string name ++ string on_match) (string on_nomatch) strings in
      let name_string : StandsAt bytes place (string name) = front bytes place (string name) (string on_match) first_two in
      let match_string : StandsAt bytes second (string on_match) = back bytes place (string name) (string on_match) first_two in
      let nomatch_string : StandsAt bytes third (string on_nomatch) =
      same_place bytes (place + length (string name ++ string on_match)) third (string on_nomatch) (omega (arith, length-append (string name) (string on_match)))
      (back bytes place (string name ++ string on_match) (string on_nomatch) strings) in
      let count_small : count < 2 ^ 32 = omega (arith, end_within bytes rules_place (rule_records strings_place group.rules) records, length-rule_records strings_place group.rules) in
      let name_offset : word_at bytes at ≡ offset_of name place =
      first_word_at bytes at (offset_of name place) (offset_of group.rules rules_place ∷ offset_of on_match second ∷ offset_of on_nomatch third ∷ count ∷ flag group.using_keys ∷ [])
      (omega (arith, offset_of-le name place (length bytes) name_string.within)) fields in
      let rules_offset : word_at bytes (at + 4) ≡ offset_of group.rules rules_place =
      nth_word_at bytes at ns 1 (lit< tt) (omega (arith, offset_of-le group.rules rules_place (length bytes) records.within)) fields in
      let match_offset : word_at bytes (at + 8) ≡ offset_of on_match second =
      nth_word_at bytes at ns 2 (lit< tt) (omega (arith, offset_of-le on_match second (length bytes) match_string.within)) fields in
      let nomatch_offset : word_at bytes (at + 12) ≡ offset_of on_nomatch third =
      nth_word_at bytes at ns 3 (lit< tt) (omega (arith, offset_of-le on_nomatch third (length bytes) nomatch_string.within)) fields in
      let count_is : word_at bytes (at + 16) ≡ count = nth_word_at bytes at ns 4 (lit< tt) count_small fields in
      let flag_is : word_at bytes (at + 20) ≡ flag group.using_keys = nth_word_at bytes at ns 5 (lit< tt) (flag-small group.using_keys) fields in
      let keys_are : uses_keys_at bytes at ≡ group.using_keys = ap (λ n. not (nat_eq n 0)) flag_is ∙ flag-read group.using_keys in
      let name_is : name_at bytes (word_at bytes at) ≡ group.name =
      ap (name_at bytes) name_offset ∙ name_at-stands bytes place group.name positive writable.name name_string in
      let match_is : outputs_at bytes (word_at bytes (at + 8)) ≡ group.on_match =
      ap (outputs_at bytes) match_offset ∙ outputs_at-stands bytes second group.on_match (omega arith) writable.on_match.itself.items match_string in
      let nomatch_is : outputs_at bytes (word_at bytes (at + 12)) ≡ group.on_nomatch =
      ap (outputs_at bytes) nomatch_offset ∙ outputs_at-stands bytes third group.on_nomatch (omega arith) writable.on_nomatch.itself.items nomatch_string in
      let by_fields : rules_from bytes (uses_keys_at bytes at) (word_at bytes (at + 4)) (word_at bytes (at + 16)) ≡ rules_from bytes group.using_keys (offset_of group.rules rules_place) count =
      λ i. rules_from bytes (keys_are i) (rules_offset i) (count_is i) in
      let rules_are : rules_from bytes (uses_keys_at bytes at) (word_at bytes (at + 4)) (word_at bytes (at + 16)) ≡ map rule_without_place group.rules =
      by_fields ∙ rules_at_offset group.using_keys rules_place strings_place group.rules rules_positive writable.rules records rules_strings in
      λ i. record { name = name_is i; using_keys = keys_are i; rules = rules_are i; on_match = match_is i; on_nomatch = nomatch_is i }

  pub groups_from-stands : (at rules_place place strings_place : ℕ) (groups : List Group) → 0 < place → 0 < strings_place → All (IsWritableGroup store_count group_count) groups
      → StandsAt bytes at (group_records rules_place place groups) → StandsAt bytes place (flat_map group_strings groups)
      → StandsAt bytes rules_place (rule_records strings_place (flat_map rules_of groups)) → StandsAt bytes strings_place (flat_map rule_strings (flat_map rules_of groups))
      → groups_from bytes at (length groups) ≡ map group_without_places groups
  groups_from-stands at rules_place place strings_place [] positive rules_positive writable fields strings records rules_strings = refl
  groups_from-stands at rules_place place strings_place (group ∷ groups) positive rules_positive writable fields strings records rules_strings =
      let next_rules : ℕ = rules_place + 20 * length group.rules in
      let next_place : ℕ = place + length (group_strings group) in
      let next_strings : ℕ = strings_place + length (flat_map rule_strings group.rules) in
      let split_records : StandsAt bytes rules_place (rule_records strings_place group.rules ++ rule_records next_strings (flat_map rules_of groups)) =
      same_bytes bytes rules_place (rule_records strings_place (group.rules ++ flat_map rules_of groups)) (rule_records strings_place group.rules ++ rule_records next_strings (flat_map rules_of groups))
      (rule_records-append strings_place group.rules (flat_map rules_of groups)) records in
      let split_strings : StandsAt bytes strings_place (flat_map rule_strings group.rules ++ flat_map rule_strings (flat_map rules_of groups)) =
      same_bytes bytes strings_place (flat_map rule_strings (group.rules ++ flat_map rules_of groups)) (flat_map rule_strings group.rules ++ flat_map rule_strings (flat_map rules_of groups))
      (flat_map-append rule_strings group.rules (flat_map rules_of groups)) rules_strings in
      let first : group_at bytes at ≡ group_without_places group =
      group_at-stands at rules_place place strings_place group positive rules_positive (All-head (IsWritableGroup store_count group_count) group groups writable)
      (front bytes at (group_record rules_place place group) (group_records next_rules next_place groups) fields)
      (front bytes place (group_strings group) (flat_map group_strings groups) strings)
      (front bytes rules_place (rule_records strings_place group.rules) (rule_records next_strings (flat_map rules_of groups)) split_records)
      (front bytes strings_place (flat_map rule_strings group.rules) (flat_map rule_strings (flat_map rules_of groups)) split_strings) in
      let others : groups_from bytes (at + 24) (length groups) ≡ map group_without_places groups =
      groups_from-stands (at + 24) next_rules next_place next_strings groups (omega arith) (omega arith) (All-tail (IsWritableGroup store_count group_count) group groups writable)
      (same_place bytes (at + length (group_record rules_place place group)) (at + 24) (group_records next_rules next_place groups)
      (ap (λ n. at + n) (length-group_record rules_place place group))
      (back bytes at (group_record rules_place place group) (group_records next_rules next_place groups) fields))
      (back bytes place (group_strings group) (flat_map group_strings groups) strings)
      (same_place bytes (rules_place + length (rule_records strings_place group.rules)) next_rules (rule_records next_strings (flat_map rules_of groups))
      (ap (λ n. rules_place + n) (length-rule_records strings_place group.rules))
      (back bytes rules_place (rule_records strings_place group.rules) (rule_records next_strings (flat_map rules_of groups)) split_records))
      (back bytes strings_place (flat_map rule_strings group.rules) (flat_map rule_strings (flat_map rules_of groups)) split_strings) in
      λ i. first i ∷ others i
