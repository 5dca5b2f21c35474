-- The file that is written for writable tables is valid.
use Rattle.std.proofs.Common.{◌≡◌, ℕ, ◌+◌, ◌*◌, ◌^◌, ◌<◌, ◌≤◌, ◌⊎◌, Bool, true, false, not, ◌&&◌, ◌||◌, nat_eq, nat_lt, List, [], ◌∷◌, ◌++◌, length, map, None, refl, sym, ap, ap₂, subst, ◌∙◌, inl, inr, arith, length-append, lit<, bit_and, le-leb, ne_eqb}
use Rattle.std.specs.List.{All, flat_map}
use Rattle.std.proofs.lemmas.List.Elements.{All-head, All-tail}
use Rattle.std.proofs.lemmas.List.Concat.{flat_map-append}
use Rattle.std.proofs.lemmas.Bool.{le-ltb, eq-eqb}
use Rattle.kmn_base.specs.declared.keys.RuleKey.{RuleKey}
use Rattle.kmn_base.specs.declared.keys.RuleKey.TheVariants.{Any, Char, Virtual}
use Rattle.kmn_base.specs.declared.keys.TheConstants.{SHIFT_FLAGS}
use Rattle.kmn_base.specs.declared.limits.TheConstants.{STORE_ELEMENTS, OUTPUT_ITEMS, STORES, GROUPS, RECORDS, ALL_ELEMENTS, PICTURE_BYTES, FILE_BYTES}
use Rattle.rule_model.specs.declared.tables.Rule.{Rule}
use Rattle.rule_model.specs.declared.tables.Store.{Store}
use Rattle.rule_model.specs.declared.tables.Group.{Group}
use Rattle.rule_model.specs.declared.tables.Tables.{Tables}
use Rattle.kmx_format.specs.FileUnits.{unit_item_of_element, unit_item_of_pattern, unit_item_of_output, element_units, pattern_units, output_units, name_units}
use Rattle.kmx_format.specs.File.{half, words, string, offset_of, store_strings, group_strings, rule_strings, store_record, store_records, flag, group_record, group_records, key_code, key_flags, rule_record, rule_records, rules_of, stores_place, groups_place, rules_place, store_strings_place, group_strings_place, rule_strings_place, picture_place, header_words, header, file_of}
use Rattle.kmx_format.specs.TablesOf.{word_at, uses_keys_at}
use Rattle.kmx_format.specs.Versions.{is_version}
use Rattle.kmx_format.specs.Writable.{elements_of, IsWritableStore, IsWritableKey, IsWritableRule, IsWritableGroup, IsWritable, IsFile}
use Rattle.kmx_format.proofs.FileStands.{StandsAt, end_within, front, back, same_place, same_bytes, length-half, length-words, first_word_at, nth_word_at}
use Rattle.kmx_format.proofs.FileRecords.{key_flags-small, offset_of-le, length-store_record, length-rule_record, length-rule_records, rule_records-append}
use Rattle.kmx_format.proofs.FileGroups.{flag-read, flag-small, length-group_record}
use Rattle.kmx_format.proofs.FileLaw.{Parts, parts, length-store_records, length-group_records, start-small, version-small}
use Rattle.kmx_view.specs.View.{is_within, store_count, group_count}
use Rattle.kmx_verifier.specs.declared.faults.StringKind.TheVariants as of
use Rattle.kmx_verifier.specs.declared.faults.Target.{Target}
use Rattle.kmx_verifier.specs.Items.{target_of}
use Rattle.kmx_verifier.specs.FaultOf.{too_many_elements, elements_in, store_fault, stores_fault, context_targets, record_fault, records_fault, records_place_fault, group_strings_fault, group_fault, groups_fault, no_group, size_fault, header_fault, arrays_fault, fault_of, IsValid}
use Rattle.kmx_verifier.proofs.Clean.{both, unbroken, unbroken_by, unbroken_not}
use Rattle.kmx_verifier.proofs.Contents.{targets_of}
use Rattle.kmx_verifier.proofs.Sound.{ItemsStand}
use Rattle.kmx_verifier.proofs.Written.{name_clean, string_clean, count_written, items_written, context_string_clean, elements_stand, outputs_stand, match_stands}

elements_within : (before count : ℕ) → count ≤ STORE_ELEMENTS → before + count ≤ ALL_ELEMENTS → too_many_elements before count ≡ false
elements_within before count few all = ap (λ b. b || nat_lt ALL_ELEMENTS (before + count)) (le-ltb STORE_ELEMENTS count few) ∙ le-ltb ALL_ELEMENTS (before + count) all

flags_known : (using_keys : Bool) (key : RuleKey) → IsWritableKey using_keys key → (using_keys && not (nat_eq (bit_and (key_flags key) SHIFT_FLAGS) (key_flags key))) ≡ false
flags_known false key h = refl
flags_known true Any h = absurd h
flags_known true (Char unit) h = refl
flags_known true (Virtual flags code) h = ap (λ n. not (nat_eq n flags)) h.1 ∙ ap not (eq-eqb flags flags refl)

-- if an array is within the file, its offset has no fault
array_fits : {X : Type 0} (xs : List X) (bytes : List ℕ) (place size : ℕ) → place + size * length xs ≤ length bytes
    → (nat_lt 0 (length xs) && not (is_within bytes (offset_of xs place) (size * length xs))) ≡ false
array_fits [] bytes place size h = refl
array_fits (x ∷ xs) bytes place size h = ap (λ b. nat_lt 0 (length (x ∷ xs)) && not b) (le-leb _ _ h) ∙ grind arith

module _ (bytes : List ℕ) (small : length bytes < 2 ^ 32) where
  -- ---- stores
  store_clean : (before at place : ℕ) (store : Store) → 0 < place → IsWritableStore store → before + length store.elements ≤ ALL_ELEMENTS
      → StandsAt bytes at (store_record place store) → StandsAt bytes place (store_strings store)
      → (store_fault bytes before at ≡ None) × (elements_in bytes at ≡ length store.elements)
  store_clean before at place store positive writable few fields strings =
      let name : List ℕ = name_units store.name in
      let elements : List ℕ = element_units store.elements in
      let second : ℕ = place + length (string name) in
      let ns : List ℕ = store.system ∷ offset_of name place ∷ offset_of elements second ∷ [] in
      let name_string : StandsAt bytes place (string name) = front bytes place (string name) (string elements) strings in
      let elements_string : StandsAt bytes second (string elements) = back bytes place (string name) (string elements) strings in
      let name_is : word_at bytes (at + 4) ≡ offset_of name place = nth_word_at bytes at ns 1 (lit< tt) (omega (arith, offset_of-le name place (length bytes) name_string.within)) fields in
      let elements_are : word_at bytes (at + 8) ≡ offset_of elements second =
      nth_word_at bytes at ns 2 (lit< tt) (omega (arith, offset_of-le elements second (length bytes) elements_string.within)) fields in
      let behind : 0 < second = omega (arith, positive) in (
        both _ _ (name_clean bytes (at + 4) place store.name positive writable.name name_is name_string)
            (both _ _ (string_clean unit_item_of_element bytes of.Store [] (at + 8) second (too_many_elements before) store.elements behind writable.elements
            (elements_stand bytes store.elements) (elements_within before (length store.elements) writable.element_count few) elements_are elements_string) refl),
        count_written unit_item_of_element bytes (at + 8) second store.elements behind writable.elements elements_are elements_string,
      )

  stores_clean : (before at place : ℕ) (stores : List Store) → 0 < place → All IsWritableStore stores → before + length (flat_map elements_of stores) ≤ ALL_ELEMENTS
      → StandsAt bytes at (store_records place stores) → StandsAt bytes place (flat_map store_strings stores) → stores_fault bytes before at (length stores) ≡ None
  stores_clean before at place [] positive writable few fields strings = refl
  stores_clean before at place (store ∷ stores) positive writable few fields strings =
      let behind : ℕ = place + length (store_strings store) in
      let counts : length (store.elements ++ flat_map elements_of stores) ≡ length store.elements + length (flat_map elements_of stores) = length-append store.elements (flat_map elements_of stores) in
      let first = store_clean before at place store positive (All-head IsWritableStore store stores writable) (omega (arith, few, counts))
      (front bytes at (store_record place store) (store_records behind stores) fields) (front bytes place (store_strings store) (flat_map store_strings stores) strings) in
      let others : stores_fault bytes (before + length store.elements) (at + 12) (length stores) ≡ None =
      stores_clean (before + length store.elements) (at + 12) behind stores (omega (arith, positive)) (All-tail IsWritableStore store stores writable) (omega (arith, few, counts))
      (same_place bytes (at + length (store_record place store)) (at + 12) (store_records behind stores) (ap (λ n. at + n) (length-store_record place store))
      (back bytes at (store_record place store) (store_records behind stores) fields))
      (back bytes place (store_strings store) (flat_map store_strings stores) strings) in
      both _ _ first.0 (ap (λ n. stores_fault bytes (before + n) (at + 12) (length stores)) first.1 ∙ others)

  -- ---- key records
  rule_clean : (using_keys : Bool) (at place : ℕ) (rule : Rule) → 0 < place → IsWritableRule (store_count bytes) (group_count bytes) using_keys rule
      → StandsAt bytes at (rule_record place rule) → StandsAt bytes place (rule_strings rule) → record_fault bytes using_keys at ≡ None
  rule_clean using_keys at place rule positive writable fields strings =
      let context : List ℕ = pattern_units rule.context in
      let output : List ℕ = output_units rule.output in
      let second : ℕ = place + length (string context) in
      let code : ℕ = key_code rule.key in
      let ns : List ℕ = rule.line ∷ key_flags rule.key ∷ offset_of output second ∷ offset_of context place ∷ [] in
      let context_string : StandsAt bytes place (string context) = front bytes place (string context) (string output) strings in
      let output_string : StandsAt bytes second (string output) = back bytes place (string context) (string output) strings in
      let others : StandsAt bytes (at + 4) (words ns) =
      same_place bytes (at + length (half code ++ half 0)) (at + 4) (words ns) (omega (arith, length-append (half code) (half 0), length-half code, length-half 0))
      (back bytes at (half code ++ half 0) (words ns) fields) in
      let flags_are : word_at bytes (at + 8) ≡ key_flags rule.key =
      ap (word_at bytes) (omega arith) ∙ nth_word_at bytes (at + 4) ns 1 (lit< tt) (key_flags-small using_keys rule.key writable.key) others in
      let output_is : word_at bytes (at + 12) ≡ offset_of output second =
      ap (word_at bytes) (omega arith) ∙ nth_word_at bytes (at + 4) ns 2 (lit< tt) (omega (arith, offset_of-le output second (length bytes) output_string.within)) others in
      let context_is : word_at bytes (at + 16) ≡ offset_of context place =
      ap (word_at bytes) (omega arith) ∙ nth_word_at bytes (at + 4) ns 3 (lit< tt) (omega (arith, offset_of-le context place (length bytes) context_string.within)) others in
      let behind : 0 < second = omega (arith, positive) in
      let targets : List Target = context_targets bytes (word_at bytes (at + 16)) in
      let same : targets ≡ targets_of rule.context =
      ap (map target_of) (items_written unit_item_of_pattern bytes (at + 16) place rule.context positive writable.context.items context_is context_string) in
      let stand : ItemsStand bytes of.Output targets (map unit_item_of_output rule.output) =
      subst (λ (ts : List Target). ItemsStand bytes of.Output ts (map unit_item_of_output rule.output)) (sym same)
      (outputs_stand bytes rule.context rule.output writable.output.stores writable.output.groups writable.output.systems writable.offsets) in
      both _ _
      (unbroken_by 0x0A (at + 8) _ (ap (λ n. using_keys && not (nat_eq (bit_and n SHIFT_FLAGS) n)) flags_are ∙ flags_known using_keys rule.key writable.key))
      (both _ _ (context_string_clean bytes (at + 16) place rule.context positive writable.context context_is context_string)
      (both _ _ (string_clean unit_item_of_output bytes of.Output targets (at + 12) second (nat_lt OUTPUT_ITEMS) rule.output behind writable.output.items stand
      (le-ltb OUTPUT_ITEMS (length rule.output) writable.output.item_count) output_is output_string) refl))

  rules_clean : (using_keys : Bool) (at place : ℕ) (rules : List Rule) → 0 < place → All (IsWritableRule (store_count bytes) (group_count bytes) using_keys) rules
      → StandsAt bytes at (rule_records place rules) → StandsAt bytes place (flat_map rule_strings rules) → records_fault bytes using_keys at (length rules) ≡ None
  rules_clean using_keys at place [] positive writable fields strings = refl
  rules_clean using_keys at place (rule ∷ rules) positive writable fields strings =
      let behind : ℕ = place + length (rule_strings rule) in
      both _ _
      (rule_clean using_keys at place rule positive (All-head (IsWritableRule (store_count bytes) (group_count bytes) using_keys) rule rules writable)
      (front bytes at (rule_record place rule) (rule_records behind rules) fields) (front bytes place (rule_strings rule) (flat_map rule_strings rules) strings))
      (rules_clean using_keys (at + 20) behind rules (omega (arith, positive)) (All-tail (IsWritableRule (store_count bytes) (group_count bytes) using_keys) rule rules writable)
      (same_place bytes (at + length (rule_record place rule)) (at + 20) (rule_records behind rules) (ap (λ n. at + n) (length-rule_record place rule))
      (back bytes at (rule_record place rule) (rule_records behind rules) fields))
      (back bytes place (rule_strings rule) (flat_map rule_strings rules) strings))

  -- if the key records of a group are in the file, they have no fault at their offset, which is 0 for an empty group
  rules_clean_at : (using_keys : Bool) (at place : ℕ) (rules : List Rule) → 0 < place → All (IsWritableRule (store_count bytes) (group_count bytes) using_keys) rules
      → StandsAt bytes at (rule_records place rules) → StandsAt bytes place (flat_map rule_strings rules) → records_fault bytes using_keys (offset_of rules at) (length rules) ≡ None
  rules_clean_at using_keys at place [] positive writable fields strings = refl
  rules_clean_at using_keys at place (rule ∷ rules) positive writable fields strings = rules_clean using_keys at place (rule ∷ rules) positive writable fields strings

  -- ---- groups
  group_clean : (before at rules_at place strings_at : ℕ) (group : Group) → 0 < place → 0 < strings_at → IsWritableGroup (store_count bytes) (group_count bytes) group
      → before + length group.rules ≤ RECORDS
      → StandsAt bytes at (group_record rules_at place group) → StandsAt bytes place (group_strings group)
      → StandsAt bytes rules_at (rule_records strings_at group.rules) → StandsAt bytes strings_at (flat_map rule_strings group.rules)
      → (group_fault bytes before at ≡ None) × (word_at bytes (at + 16) ≡ length group.rules)
  group_clean before at rules_at place strings_at group positive rules_positive writable few fields strings records rules_strings =
      let name : List ℕ = name_units group.name in
      let on_match : List ℕ = output_units group.on_match in
      let on_nomatch : List ℕ = output_units group.on_nomatch in
      let second : ℕ = place + length (string name) in
      let third : ℕ = second + length (string on_match) in
      let count : ℕ = length group.rules in
      let ns : List ℕ = offset_of name place ∷ offset_of group.rules rules_at ∷ offset_of on_match second ∷ offset_of on_nomatch third ∷ count ∷ flag group.using_keys ∷ [] in
      let first_two : StandsAt bytes place (string name ++ string on_match) = front bytes place (string name ++ string on_match) (string on_nomatch) strings in
      let name_string : StandsAt bytes place (string name) = front bytes place (string name) (string on_match) first_two in
      let match_string : StandsAt bytes second (string on_match) = back bytes place (string name) (string on_match) first_two in
      let nomatch_string : StandsAt bytes third (string on_nomatch) =
      same_place bytes (place + length (string name ++ string on_match)) third (string on_nomatch) (omega (arith, length-append (string name) (string on_match)))
      (back bytes place (string name ++ string on_match) (string on_nomatch) strings) in
      let within : rules_at + 20 * count ≤ length bytes = omega (arith, end_within bytes rules_at (rule_records strings_at group.rules) records, length-rule_records strings_at group.rules) in
      let name_is : word_at bytes at ≡ offset_of name place =
      first_word_at bytes at (offset_of name place) (offset_of group.rules rules_at ∷ offset_of on_match second ∷ offset_of on_nomatch third ∷ count ∷ flag group.using_keys ∷ [])
      (omega (arith, offset_of-le name place (length bytes) name_string.within)) fields in
      let rules_are : word_at bytes (at + 4) ≡ offset_of group.rules rules_at =
      nth_word_at bytes at ns 1 (lit< tt) (omega (arith, offset_of-le group.rules rules_at (length bytes) records.within)) fields in
      let match_is : word_at bytes (at + 8) ≡ offset_of on_match second =
      nth_word_at bytes at ns 2 (lit< tt) (omega (arith, offset_of-le on_match second (length bytes) match_string.within)) fields in
      let nomatch_is : word_at bytes (at + 12) ≡ offset_of on_nomatch third =
      nth_word_at bytes at ns 3 (lit< tt) (omega (arith, offset_of-le on_nomatch third (length bytes) nomatch_string.within)) fields in
      let count_is : word_at bytes (at + 16) ≡ count = nth_word_at bytes at ns 4 (lit< tt) (omega (arith, within)) fields in
      let flag_is : word_at bytes (at + 20) ≡ flag group.using_keys = nth_word_at bytes at ns 5 (lit< tt) (flag-small group.using_keys) fields in
      let keys_are : uses_keys_at bytes at ≡ group.using_keys = ap (λ n. not (nat_eq n 0)) flag_is ∙ flag-read group.using_keys in
      let in_place : records_place_fault bytes before at ≡ None =
      both _ _ (unbroken _ (at + 16) _ (ap (λ n. nat_lt RECORDS (before + n)) count_is ∙ le-ltb RECORDS (before + count) few))
      (both _ _ (unbroken _ (at + 4) _ (ap₂ (λ n place. nat_lt 0 n && not (is_within bytes place (20 * n))) count_is rules_are ∙ array_fits group.rules bytes rules_at 20 within)) refl) in
      let named : group_strings_fault bytes at ≡ None =
      both _ _ (name_clean bytes at place group.name positive writable.name name_is name_string)
      (both _ _ (string_clean unit_item_of_output bytes of.Match [] (at + 8) second (nat_lt OUTPUT_ITEMS) group.on_match (omega (arith, positive)) writable.on_match.itself.items
      (match_stands bytes group.on_match writable.on_match.itself.stores writable.on_match.itself.groups writable.on_match.itself.systems writable.on_match.no_context)
      (le-ltb OUTPUT_ITEMS (length group.on_match) writable.on_match.itself.item_count) match_is match_string)
      (both _ _ (string_clean unit_item_of_output bytes of.Match [] (at + 12) third (nat_lt OUTPUT_ITEMS) group.on_nomatch (omega (arith, positive)) writable.on_nomatch.itself.items
      (match_stands bytes group.on_nomatch writable.on_nomatch.itself.stores writable.on_nomatch.itself.groups writable.on_nomatch.itself.systems writable.on_nomatch.no_context)
      (le-ltb OUTPUT_ITEMS (length group.on_nomatch) writable.on_nomatch.itself.item_count) nomatch_is nomatch_string) refl)) in
      let by_fields : records_fault bytes (uses_keys_at bytes at) (word_at bytes (at + 4)) (word_at bytes (at + 16)) ≡ records_fault bytes group.using_keys (offset_of group.rules rules_at) count =
      λ i. records_fault bytes (keys_are i) (rules_are i) (count_is i) in
      (both _ _ in_place (both _ _ named (both _ _ (by_fields ∙ rules_clean_at group.using_keys rules_at strings_at group.rules rules_positive writable.rules records rules_strings) refl)), count_is)

  groups_clean : (before at rules_at place strings_at : ℕ) (groups : List Group) → 0 < place → 0 < strings_at → All (IsWritableGroup (store_count bytes) (group_count bytes)) groups
      → before + length (flat_map rules_of groups) ≤ RECORDS
      → StandsAt bytes at (group_records rules_at place groups) → StandsAt bytes place (flat_map group_strings groups)
      → StandsAt bytes rules_at (rule_records strings_at (flat_map rules_of groups)) → StandsAt bytes strings_at (flat_map rule_strings (flat_map rules_of groups))
      → groups_fault bytes before at (length groups) ≡ None
  groups_clean before at rules_at place strings_at [] positive rules_positive writable few fields strings records rules_strings = refl
  groups_clean before at rules_at place strings_at (group ∷ groups) positive rules_positive writable few fields strings records rules_strings =
      let others : List Rule = flat_map rules_of groups in
      let next_rules : ℕ = rules_at + 20 * length group.rules in
      let next_place : ℕ = place + length (group_strings group) in
      let next_strings : ℕ = strings_at + length (flat_map rule_strings group.rules) in
      let counts : length (group.rules ++ others) ≡ length group.rules + length others = length-append group.rules others in
      let split_records : StandsAt bytes rules_at (rule_records strings_at group.rules ++ rule_records next_strings others) =
      same_bytes bytes rules_at (rule_records strings_at (group.rules ++ others)) (rule_records strings_at group.rules ++ rule_records next_strings others)
      (rule_records-append strings_at group.rules others) records in
      let split_strings : StandsAt bytes strings_at (flat_map rule_strings group.rules ++ flat_map rule_strings others) =
      same_bytes bytes strings_at (flat_map rule_strings (group.rules ++ others)) (flat_map rule_strings group.rules ++ flat_map rule_strings others)
      (flat_map-append rule_strings group.rules others) rules_strings in
      let first = group_clean before at rules_at place strings_at group positive rules_positive (All-head (IsWritableGroup (store_count bytes) (group_count bytes)) group groups writable)
      (omega (arith, few, counts))
      (front bytes at (group_record rules_at place group) (group_records next_rules next_place groups) fields)
      (front bytes place (group_strings group) (flat_map group_strings groups) strings)
      (front bytes rules_at (rule_records strings_at group.rules) (rule_records next_strings others) split_records)
      (front bytes strings_at (flat_map rule_strings group.rules) (flat_map rule_strings others) split_strings) in
      let rest : groups_fault bytes (before + length group.rules) (at + 24) (length groups) ≡ None =
      groups_clean (before + length group.rules) (at + 24) next_rules next_place next_strings groups (omega (arith, positive)) (omega (arith, rules_positive))
      (All-tail (IsWritableGroup (store_count bytes) (group_count bytes)) group groups writable) (omega (arith, few, counts))
      (same_place bytes (at + length (group_record rules_at place group)) (at + 24) (group_records next_rules next_place groups)
      (ap (λ n. at + n) (length-group_record rules_at place group))
      (back bytes at (group_record rules_at place group) (group_records next_rules next_place groups) fields))
      (back bytes place (group_strings group) (flat_map group_strings groups) strings)
      (same_place bytes (rules_at + length (rule_records strings_at group.rules)) next_rules (rule_records next_strings others)
      (ap (λ n. rules_at + n) (length-rule_records strings_at group.rules))
      (back bytes rules_at (rule_records strings_at group.rules) (rule_records next_strings others) split_records))
      (back bytes strings_at (flat_map rule_strings group.rules) (flat_map rule_strings others) split_strings) in
      both _ _ first.0 (ap (λ n. groups_fault bytes (before + n) (at + 24) (length groups)) first.1 ∙ rest)

  stores_clean_at : (at place : ℕ) (stores : List Store) → 0 < place → All IsWritableStore stores → length (flat_map elements_of stores) ≤ ALL_ELEMENTS
      → StandsAt bytes at (store_records place stores) → StandsAt bytes place (flat_map store_strings stores) → stores_fault bytes 0 (offset_of stores at) (length stores) ≡ None
  stores_clean_at at place [] positive writable few fields strings = refl
  stores_clean_at at place (store ∷ stores) positive writable few fields strings = stores_clean 0 at place (store ∷ stores) positive writable (omega (arith, few)) fields strings

  groups_clean_at : (at rules_at place strings_at : ℕ) (groups : List Group) → 0 < place → 0 < strings_at → All (IsWritableGroup (store_count bytes) (group_count bytes)) groups
      → length (flat_map rules_of groups) ≤ RECORDS
      → StandsAt bytes at (group_records rules_at place groups) → StandsAt bytes place (flat_map group_strings groups)
      → StandsAt bytes rules_at (rule_records strings_at (flat_map rules_of groups)) → StandsAt bytes strings_at (flat_map rule_strings (flat_map rules_of groups))
      → groups_fault bytes 0 (offset_of groups at) (length groups) ≡ None
  groups_clean_at at rules_at place strings_at [] positive rules_positive writable few fields strings records rules_strings = refl
  groups_clean_at at rules_at place strings_at (group ∷ groups) positive rules_positive writable few fields strings records rules_strings =
      groups_clean 0 at rules_at place strings_at (group ∷ groups) positive rules_positive writable (omega (arith, few)) fields strings records rules_strings

-- ---- the file

none_where : (number count : ℕ) → (number < count) ⊎ (number ≡ no_group) → (not (nat_eq number no_group) && not (nat_lt number count)) ≡ false
none_where number count (inl below) = grind (arith, below)
none_where number count (inr none) = ap (λ n. not (nat_eq n no_group) && not (nat_lt n count)) none ∙ refl

not_none : (number count : ℕ) → number < count → count ≤ GROUPS → nat_eq number no_group ≡ false
not_none number count below few = ne_eqb number no_group (omega (arith, below, few))

less : (number count : ℕ) → number < count → nat_lt number count ≡ true
less number count h = grind (arith, h)

picture_fits : (picture bytes : List ℕ) (place : ℕ) → place + length picture ≤ length bytes → length picture ≤ PICTURE_BYTES
    → (nat_lt 0 (length picture) && (not (is_within bytes (offset_of picture place) (length picture)) || nat_lt PICTURE_BYTES (length picture))) ≡ false
picture_fits [] bytes place h few = refl
picture_fits (byte ∷ picture) bytes place h few =
    ap₂ (λ a b. nat_lt 0 (length (byte ∷ picture)) && (not a || b)) (le-leb _ _ h) (le-ltb PICTURE_BYTES (length (byte ∷ picture)) few) ∙ grind arith

pub file_of_valid : (tables : Tables) (picture : List ℕ) → IsWritable tables → length picture ≤ PICTURE_BYTES → length (file_of tables picture) ≤ FILE_BYTES
    → IsValid (file_of tables picture)
unfolding fault_of size_fault header_fault arrays_fault
file_of_valid tables picture writable picture_size fits =
    let bytes : List ℕ = file_of tables picture in
    let small : length bytes < 2 ^ 32 = omega (arith, fits) in
    let p : Parts tables picture bytes = parts tables picture in
    let ns : List ℕ = header_words tables picture in
    let long : 64 ≤ length bytes = omega (arith, end_within bytes 0 (header tables picture) p.head, length-words ns) in
    let identifier : word_at bytes 0 ≡ 0x5354_584B = nth_word_at bytes 0 ns 0 (lit< tt) (lit< tt) p.head in
    let version : word_at bytes 4 ≡ tables.version = nth_word_at bytes 0 ns 1 (lit< tt) (omega (arith, version-small tables.version writable.version)) p.head in
    let store_number : word_at bytes 24 ≡ length tables.stores = nth_word_at bytes 0 ns 6 (lit< tt) (omega (arith, writable.store_count)) p.head in
    let group_number : word_at bytes 28 ≡ length tables.groups = nth_word_at bytes 0 ns 7 (lit< tt) (omega (arith, writable.group_count)) p.head in
    let stores_at : word_at bytes 32 ≡ offset_of tables.stores stores_place =
    nth_word_at bytes 0 ns 8 (lit< tt) (omega (arith, offset_of-le tables.stores stores_place (length bytes) p.stores.within)) p.head in
    let groups_at : word_at bytes 36 ≡ offset_of tables.groups (groups_place tables) =
    nth_word_at bytes 0 ns 9 (lit< tt) (omega (arith, offset_of-le tables.groups (groups_place tables) (length bytes) p.groups.within)) p.head in
    let ansi : word_at bytes 40 ≡ tables.start_ansi = nth_word_at bytes 0 ns 10 (lit< tt) (start-small tables writable) p.head in
    let unicode : word_at bytes 44 ≡ tables.start_unicode =
    nth_word_at bytes 0 ns 11 (lit< tt) (omega (arith, writable.start_unicode, writable.group_count)) p.head in
    let no_flags : word_at bytes 48 ≡ 0 = nth_word_at bytes 0 ns 12 (lit< tt) (lit< tt) p.head in
    let picture_at : word_at bytes 56 ≡ offset_of picture (picture_place tables) =
    nth_word_at bytes 0 ns 14 (lit< tt) (omega (arith, offset_of-le picture (picture_place tables) (length bytes) p.last.within)) p.head in
    let picture_number : word_at bytes 60 ≡ length picture = nth_word_at bytes 0 ns 15 (lit< tt) (omega (arith, picture_size)) p.head in
    let stores_within : stores_place + 12 * length tables.stores ≤ length bytes =
    omega (arith, end_within bytes stores_place (store_records (store_strings_place tables) tables.stores) p.stores, length-store_records (store_strings_place tables) tables.stores) in
    let groups_within : groups_place tables + 24 * length tables.groups ≤ length bytes =
    omega (
      arith,
      end_within bytes (groups_place tables) (group_records (rules_place tables) (group_strings_place tables) tables.groups) p.groups,
      length-group_records (rules_place tables) (group_strings_place tables) tables.groups,
    ) in
    let groups_writable : All (IsWritableGroup (store_count bytes) (group_count bytes)) tables.groups =
    subst (λ (n : ℕ). All (IsWritableGroup n (group_count bytes)) tables.groups) (sym store_number)
    (subst (λ (n : ℕ). All (IsWritableGroup (length tables.stores) n) tables.groups) (sym group_number) writable.groups) in
    let size_is : size_fault bytes ≡ None =
    both _ _ (unbroken _ 0 _ (le-ltb FILE_BYTES (length bytes) fits)) (both _ _ (unbroken _ (length bytes) _ (le-ltb (length bytes) 64 long)) refl) in
    let head_is : header_fault bytes ≡ None =
    both _ _ (unbroken_not _ 0 _ (ap (λ n. nat_eq n 0x5354_584B) identifier ∙ refl))
    (both _ _ (unbroken_not _ 4 _ (ap is_version version ∙ writable.version))
    (both _ _ (unbroken _ 48 _ (ap (nat_lt 0x1F) no_flags ∙ refl))
    (both _ _ (unbroken _ 24 _ (ap (nat_lt STORES) store_number ∙ le-ltb STORES (length tables.stores) writable.store_count))
    (both _ _ (unbroken _ 28 _ (ap (nat_lt GROUPS) group_number ∙ le-ltb GROUPS (length tables.groups) writable.group_count))
    (both _ _ (unbroken _ 44 _ (ap (λ n. nat_eq n no_group) unicode ∙ not_none tables.start_unicode (length tables.groups) writable.start_unicode writable.group_count))
    (both _ _ (unbroken _ 40 _ (ap₂ (λ n g. not (nat_eq n no_group) && not (nat_lt n g)) ansi group_number ∙ none_where tables.start_ansi (length tables.groups) writable.start_ansi))
    (both _ _ (unbroken_not _ 44 _ (ap₂ nat_lt unicode group_number ∙ less tables.start_unicode (length tables.groups) writable.start_unicode)) refl))))))) in
    let arrays_are : arrays_fault bytes ≡ None =
    both _ _ (unbroken _ 32 _ (ap₂ (λ n place. nat_lt 0 n && not (is_within bytes place (12 * n))) store_number stores_at ∙ array_fits tables.stores bytes stores_place 12 stores_within))
    (both _ _ (unbroken _ 36 _ (ap₂ (λ n place. nat_lt 0 n && not (is_within bytes place (24 * n))) group_number groups_at ∙ array_fits tables.groups bytes (groups_place tables) 24 groups_within))
    (both _ _ (unbroken _ 56 _ (ap₂ (λ n place. nat_lt 0 n && (not (is_within bytes place n) || nat_lt PICTURE_BYTES n)) picture_number picture_at
    ∙ picture_fits picture bytes (picture_place tables) (end_within bytes (picture_place tables) picture p.last) picture_size)) refl)) in
    both _ _ size_is (both _ _ head_is (both _ _ arrays_are
    (both _ _ (ap₂ (stores_fault bytes 0) stores_at store_number
    ∙ stores_clean_at bytes small stores_place (store_strings_place tables) tables.stores (omega arith) writable.stores writable.element_count p.stores p.store_strings)
    (both _ _ (ap₂ (groups_fault bytes 0) groups_at group_number
    ∙ groups_clean_at bytes small (groups_place tables) (rules_place tables) (group_strings_place tables) (rule_strings_place tables) tables.groups (omega arith) (omega arith)
    groups_writable writable.rule_count p.groups p.group_strings p.rules p.rule_strings) refl))))

pub file_valid : (bytes : List ℕ) → IsFile bytes → IsValid bytes
file_valid bytes h =
    subst IsValid (sym h.is) (file_of_valid h.tables h.picture h.writable h.picture_size (omega (arith, h.file_size, ap length h.is)))
