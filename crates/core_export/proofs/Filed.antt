-- In a file that is written from tables, the arrays follow one another, and all strings come after them.
use Rattle.std.proofs.Common.{◌≡◌, ℕ, ◌+◌, ◌*◌, ◌^◌, ◌<◌, ◌≤◌, ◌⊎◌, List, [], ◌∷◌, ◌++◌, length, Some, refl, sym, ap, subst, ◌∙◌, inl, inr, arith, length-append, lit<}
use Rattle.std.specs.List.{flat_map}
use Rattle.std.proofs.lemmas.List.Concat.{flat_map-append}
use Rattle.kmn_base.specs.declared.limits.TheConstants.{FILE_BYTES, PICTURE_BYTES}
use Rattle.rule_model.specs.declared.tables.Rule.{Rule}
use Rattle.rule_model.specs.declared.tables.Store.{Store}
use Rattle.rule_model.specs.declared.tables.Group.{Group}
use Rattle.rule_model.specs.declared.tables.Tables.{Tables}
use Rattle.kmx_format.specs.declared.places.TheConstants.{CHECKSUM_AT, GROUPS_AT, GROUP_COUNT_AT, STORES_AT, STORE_COUNT_AT, VERSION_AT}
use Rattle.kmx_format.specs.FileUnits.{element_units, pattern_units, output_units, name_units}
use Rattle.kmx_format.specs.File.{half, word, words, string, offset_of, store_strings, group_strings, rule_strings, store_record, store_records, flag, group_record, group_records, key_code, key_flags, rule_record, rule_records, rules_of, stores_place, groups_place, rules_place, store_strings_place, group_strings_place, rule_strings_place, header_words, file_of}
use Rattle.kmx_format.specs.TablesOf.{half_at, word_at, tables_of}
use Rattle.kmx_format.specs.Writable.{IsWritable}
use Rattle.kmx_format.proofs.FileStands.{StandsAt, end_within, front, back, same_place, same_bytes, length-half, first_word_at, nth_word_at}
use Rattle.kmx_format.proofs.FileRecords.{offset_of-le, length-store_record, length-rule_record, length-rule_records, rule_records-append}
use Rattle.kmx_format.proofs.FileGroups.{length-group_record}
use Rattle.kmx_format.proofs.FileLaw.{Parts, parts, law, version-small}
use Rattle.kmx_view.specs.View.{store_count, group_count}
use Rattle.kmx_verifier.specs.FaultOf.{IsValid}
use Rattle.kmx_verifier.proofs.FileValid.{file_of_valid}
use Rattle.file_conversions.specs.Words.{with_word}
use Rattle.file_conversions.proofs.ReplacedWords.{half_there}
use Rattle.core_export.specs.Checksum.{checksum}
use Rattle.core_export.specs.Export.{zero_unit, pointed_stores, pointed_groups, played_version, replaced, exported, SaysTheSame}
use Rattle.core_export.specs.ExportLaws.{WrittenFilesAreExported}
use Rattle.core_export.proofs.Outside.{Outside, GroupsLaid, after, wider, word_outside, front_same, stores_outside, groups_outside}
use Rattle.core_export.proofs.Kept.{IsClear, StoresClear, RecordsClear, GroupsClear}
use Rattle.core_export.proofs.Laid.{Laid, says_same}
use Rattle.core_export.proofs.Units.{IsBlank, zero_unit_blank}
use Rattle.core_export.proofs.Made.{has_header, version_made}

clear_at : {X : Type 0} (high : ℕ) (xs : List X) (place : ℕ) → high ≤ place → IsClear high (offset_of xs place)
clear_at high [] place h = inl refl
clear_at high (x ∷ xs) place h = inr h

clear_word : {X : Type 0} (high word : ℕ) (xs : List X) (place : ℕ) → word ≡ offset_of xs place → high ≤ place → IsClear high word
clear_word high word xs place is h = subst (IsClear high) (sym is) (clear_at high xs place h)

-- the key records of a group are between two places, or there are none
laid_at : (rules : List Rule) (place keys count : ℕ) → keys ≡ offset_of rules place → count ≡ length rules → (count ≡ 0) ⊎ ((place ≤ keys) × (keys + 20 * count ≤ place + 20 * length rules))
laid_at [] place keys count is counted = inl counted
laid_at (rule ∷ rules) place keys count is counted = inr (omega (arith, is), omega (arith, is, counted))

module _ (bytes : List ℕ) (small : length bytes < 2 ^ 32) (unit high : ℕ) where
  stores_clear : (at place : ℕ) (stores : List Store) → high ≤ place
      → StandsAt bytes at (store_records place stores) → StandsAt bytes place (flat_map store_strings stores) → StoresClear bytes high at (length stores)
  stores_clear at place [] h fields strings = tt
  stores_clear at place (store ∷ stores) h fields strings =
      let name : List ℕ = name_units store.name in
      let elements : List ℕ = element_units store.elements in
      let second : ℕ = place + length (string name) in
      let behind : ℕ = place + length (store_strings store) in
      let ns : List ℕ = store.system ∷ offset_of name place ∷ offset_of elements second ∷ [] in
      let here : StandsAt bytes at (store_record place store) = front bytes at (store_record place store) (store_records behind stores) fields in
      let own : StandsAt bytes place (store_strings store) = front bytes place (store_strings store) (flat_map store_strings stores) strings in
      let name_string : StandsAt bytes place (string name) = front bytes place (string name) (string elements) own in
      let elements_string : StandsAt bytes second (string elements) = back bytes place (string name) (string elements) own in
      let name_is : word_at bytes (at + 4) ≡ offset_of name place = nth_word_at bytes at ns 1 (lit< tt) (omega (arith, small, offset_of-le name place (length bytes) name_string.within)) here in
      let elements_are : word_at bytes (at + 8) ≡ offset_of elements second =
      nth_word_at bytes at ns 2 (lit< tt) (omega (arith, small, offset_of-le elements second (length bytes) elements_string.within)) here in (
        clear_word high (word_at bytes (at + 4)) name place name_is h,
        clear_word high (word_at bytes (at + 8)) elements second elements_are (omega (arith, h)),
        stores_clear (at + 12) behind stores (omega (arith, h))
            (same_place bytes (at + length (store_record place store)) (at + 12) (store_records behind stores) (ap (λ n. at + n) (length-store_record place store))
            (back bytes at (store_record place store) (store_records behind stores) fields))
            (back bytes place (store_strings store) (flat_map store_strings stores) strings),
      )

  rules_clear : (at place : ℕ) (rules : List Rule) → high ≤ place
      → StandsAt bytes at (rule_records place rules) → StandsAt bytes place (flat_map rule_strings rules) → RecordsClear bytes high at (length rules)
  rules_clear at place [] h fields strings = tt
  rules_clear at place (rule ∷ rules) h fields strings =
      let context : List ℕ = pattern_units rule.context in
      let output : List ℕ = output_units rule.output in
      let second : ℕ = place + length (string context) in
      let behind : ℕ = place + length (rule_strings rule) in
      let code : ℕ = key_code rule.key in
      let ns : List ℕ = offset_of output second ∷ offset_of context place ∷ [] in
      let here : StandsAt bytes at (rule_record place rule) = front bytes at (rule_record place rule) (rule_records behind rules) fields in
      let own : StandsAt bytes place (rule_strings rule) = front bytes place (rule_strings rule) (flat_map rule_strings rules) strings in
      let context_string : StandsAt bytes place (string context) = front bytes place (string context) (string output) own in
      let output_string : StandsAt bytes second (string output) = back bytes place (string context) (string output) own in
      let all : List ℕ = rule.line ∷ key_flags rule.key ∷ offset_of output second ∷ offset_of context place ∷ [] in
      let others : StandsAt bytes (at + 4) (words all) =
      same_place bytes (at + length (half code ++ half 0)) (at + 4) (words all) (omega (arith, length-append (half code) (half 0), length-half code, length-half 0))
      (back bytes at (half code ++ half 0) (words all) here) in
      let output_is : word_at bytes (at + 12) ≡ offset_of output second =
      ap (word_at bytes) (omega arith) ∙ nth_word_at bytes (at + 4) all 2 (lit< tt) (omega (arith, small, offset_of-le output second (length bytes) output_string.within)) others in
      let context_is : word_at bytes (at + 16) ≡ offset_of context place =
      ap (word_at bytes) (omega arith) ∙ nth_word_at bytes (at + 4) all 3 (lit< tt) (omega (arith, small, offset_of-le context place (length bytes) context_string.within)) others in (
        clear_word high (word_at bytes (at + 12)) output second output_is (omega (arith, h)),
        clear_word high (word_at bytes (at + 16)) context place context_is h,
        rules_clear (at + 20) behind rules (omega (arith, h))
            (same_place bytes (at + length (rule_record place rule)) (at + 20) (rule_records behind rules) (ap (λ n. at + n) (length-rule_record place rule))
            (back bytes at (rule_record place rule) (rule_records behind rules) fields))
            (back bytes place (rule_strings rule) (flat_map rule_strings rules) strings),
      )

  rules_clear_at : (at place : ℕ) (rules : List Rule) → high ≤ place
      → StandsAt bytes at (rule_records place rules) → StandsAt bytes place (flat_map rule_strings rules) → RecordsClear bytes high (offset_of rules at) (length rules)
  rules_clear_at at place [] h fields strings = tt
  rules_clear_at at place (rule ∷ rules) h fields strings = rules_clear at place (rule ∷ rules) h fields strings

  groups_clear : (at rules_at place strings_at : ℕ) (groups : List Group) → high ≤ place → high ≤ strings_at → rules_at + 20 * length (flat_map rules_of groups) ≤ high
      → StandsAt bytes at (group_records rules_at place groups) → StandsAt bytes place (flat_map group_strings groups)
      → StandsAt bytes rules_at (rule_records strings_at (flat_map rules_of groups)) → StandsAt bytes strings_at (flat_map rule_strings (flat_map rules_of groups))
      → GroupsClear bytes high at (length groups) × GroupsLaid bytes unit high rules_at at (length groups)
  groups_clear at rules_at place strings_at [] h g few fields strings records rules_strings = (tt, omega (arith, few))
  groups_clear at rules_at place strings_at (group ∷ groups) h g few fields strings records rules_strings =
      let others : List Rule = flat_map rules_of groups in
      let count : ℕ = length group.rules in
      let next_rules : ℕ = rules_at + 20 * count in
      let next_place : ℕ = place + length (group_strings group) in
      let next_strings : ℕ = strings_at + length (flat_map rule_strings group.rules) in
      let counts : length (group.rules ++ others) ≡ count + length others = length-append group.rules others in
      let split_records : StandsAt bytes rules_at (rule_records strings_at group.rules ++ rule_records next_strings others) =
      same_bytes bytes rules_at (rule_records strings_at (group.rules ++ others)) (rule_records strings_at group.rules ++ rule_records next_strings others)
      (rule_records-append strings_at group.rules others) records in
      let split_strings : StandsAt bytes strings_at (flat_map rule_strings group.rules ++ flat_map rule_strings others) =
      same_bytes bytes strings_at (flat_map rule_strings (group.rules ++ others)) (flat_map rule_strings group.rules ++ flat_map rule_strings others)
      (flat_map-append rule_strings group.rules others) rules_strings in
      let here : StandsAt bytes at (group_record rules_at place group) = front bytes at (group_record rules_at place group) (group_records next_rules next_place groups) fields in
      let own : StandsAt bytes place (group_strings group) = front bytes place (group_strings group) (flat_map group_strings groups) strings in
      let own_records : StandsAt bytes rules_at (rule_records strings_at group.rules) = front bytes rules_at (rule_records strings_at group.rules) (rule_records next_strings others) split_records in
      let own_strings : StandsAt bytes strings_at (flat_map rule_strings group.rules) = front bytes strings_at (flat_map rule_strings group.rules) (flat_map rule_strings others) split_strings in
      let name : List ℕ = name_units group.name in
      let on_match : List ℕ = output_units group.on_match in
      let on_nomatch : List ℕ = output_units group.on_nomatch in
      let second : ℕ = place + length (string name) in
      let third : ℕ = second + length (string on_match) in
      let ns : List ℕ = offset_of name place ∷ offset_of group.rules rules_at ∷ offset_of on_match second ∷ offset_of on_nomatch third ∷ count ∷ flag group.using_keys ∷ [] in
      let first_two : StandsAt bytes place (string name ++ string on_match) = front bytes place (string name ++ string on_match) (string on_nomatch) own in
      let name_string : StandsAt bytes place (string name) = front bytes place (string name) (string on_match) first_two in
      let match_string : StandsAt bytes second (string on_match) = back bytes place (string name) (string on_match) first_two in
      let nomatch_string : StandsAt bytes third (string on_nomatch) =
      same_place bytes (place + length (string name ++ string on_match)) third (string on_nomatch) (omega (arith, length-append (string name) (string on_match)))
      (back bytes place (string name ++ string on_match) (string on_nomatch) own) in
      let within : rules_at + 20 * count ≤ length bytes = omega (arith, end_within bytes rules_at (rule_records strings_at group.rules) own_records, length-rule_records strings_at group.rules) in
      let name_is : word_at bytes at ≡ offset_of name place =
      first_word_at bytes at (offset_of name place) (offset_of group.rules rules_at ∷ offset_of on_match second ∷ offset_of on_nomatch third ∷ count ∷ flag group.using_keys ∷ [])
      (omega (arith, small, offset_of-le name place (length bytes) name_string.within)) here in
      let rules_are : word_at bytes (at + 4) ≡ offset_of group.rules rules_at =
      nth_word_at bytes at ns 1 (lit< tt) (omega (arith, small, offset_of-le group.rules rules_at (length bytes) own_records.within)) here in
      let match_is : word_at bytes (at + 8) ≡ offset_of on_match second =
      nth_word_at bytes at ns 2 (lit< tt) (omega (arith, small, offset_of-le on_match second (length bytes) match_string.within)) here in
      let nomatch_is : word_at bytes (at + 12) ≡ offset_of on_nomatch third =
      nth_word_at bytes at ns 3 (lit< tt) (omega (arith, small, offset_of-le on_nomatch third (length bytes) nomatch_string.within)) here in
      let count_is : word_at bytes (at + 16) ≡ count = nth_word_at bytes at ns 4 (lit< tt) (omega (arith, small, within)) here in
      let records_clear : RecordsClear bytes high (word_at bytes (at + 4)) (word_at bytes (at + 16)) =
      subst (λ (n : ℕ). RecordsClear bytes high (word_at bytes (at + 4)) n) (sym count_is)
      (subst (λ (p : ℕ). RecordsClear bytes high p count) (sym rules_are) (rules_clear_at rules_at strings_at group.rules g own_records own_strings)) in
      let rest = groups_clear (at + 24) next_rules next_place next_strings groups (omega (arith, h)) (omega (arith, g)) (omega (arith, few, counts))
      (same_place bytes (at + length (group_record rules_at place group)) (at + 24) (group_records next_rules next_place groups) (ap (λ n. at + n) (length-group_record rules_at place group))
      (back bytes at (group_record rules_at place group) (group_records next_rules next_place groups) fields))
      (back bytes place (group_strings group) (flat_map group_strings groups) strings)
      (same_place bytes (rules_at + length (rule_records strings_at group.rules)) next_rules (rule_records next_strings others) (ap (λ n. rules_at + n) (length-rule_records strings_at group.rules))
      (back bytes rules_at (rule_records strings_at group.rules) (rule_records next_strings others) split_records))
      (back bytes strings_at (flat_map rule_strings group.rules) (flat_map rule_strings others) split_strings) in (
        (
          clear_word high (word_at bytes at) name place name_is h,
          clear_word high (word_at bytes (at + 8)) on_match second match_is (omega (arith, h)),
          clear_word high (word_at bytes (at + 12)) on_nomatch third nomatch_is (omega (arith, h)),
          records_clear,
          rest.0,
        ),
        (next_rules, omega arith, omega (arith, few, counts), laid_at group.rules rules_at (word_at bytes (at + 4)) (word_at bytes (at + 16)) rules_are count_is, rest.1),
      )

-- the stores come after the header, or there are none
stores_first : (stores : List Store) (place count : ℕ) → count ≡ length stores → place ≡ offset_of stores 64 → (count ≡ 0) ⊎ ((64 ≤ place) × (place + 12 * count ≤ 64 + 12 * length stores))
stores_first [] place count counted is = inl counted
stores_first (store ∷ stores) place count counted is = inr (omega (arith, is), omega (arith, is, counted))

at_offset : {X : Type 0} (P : ℕ → ℕ → Type 0) (xs : List X) (at place count : ℕ) → place ≡ offset_of xs at → count ≡ length xs → P (offset_of xs at) (length xs) → P place count
at_offset P xs at place count is counted h = subst (λ (n : ℕ). P place n) (sym counted) (subst (λ (p : ℕ). P p (length xs)) (sym is) h)

stores_clear_at : (bytes : List ℕ) (small : length bytes < 2 ^ 32) (unit high at place : ℕ) (stores : List Store) → high ≤ place
    → StandsAt bytes at (store_records place stores) → StandsAt bytes place (flat_map store_strings stores) → StoresClear bytes high (offset_of stores at) (length stores)
stores_clear_at bytes small unit high at place [] h fields strings = tt
stores_clear_at bytes small unit high at place (store ∷ stores) h fields strings = stores_clear bytes small unit high at place (store ∷ stores) h fields strings

groups_there : (groups : List Group) (at start : ℕ) → start < length groups → offset_of groups at ≡ at
groups_there [] at start h = absurd (omega (arith, h))
groups_there (group ∷ groups) at start h = refl

laid : (tables : Tables) (picture : List ℕ) (unit : ℕ) → IsWritable tables → length (file_of tables picture) ≤ FILE_BYTES → Laid (file_of tables picture) unit (store_strings_place tables)
laid tables picture unit writable fits =
    let bytes : List ℕ = file_of tables picture in
    let small : length bytes < 2 ^ 32 = omega (arith, fits) in
    let p : Parts tables picture bytes = parts tables picture in
    let ns : List ℕ = header_words tables picture in
    let high : ℕ = store_strings_place tables in
    let store_number : word_at bytes STORE_COUNT_AT ≡ length tables.stores = nth_word_at bytes 0 ns 6 (lit< tt) (omega (arith, writable.store_count)) p.head in
    let group_number : word_at bytes GROUP_COUNT_AT ≡ length tables.groups = nth_word_at bytes 0 ns 7 (lit< tt) (omega (arith, writable.group_count)) p.head in
    let stores_at : word_at bytes STORES_AT ≡ offset_of tables.stores stores_place =
    nth_word_at bytes 0 ns 8 (lit< tt) (omega (arith, small, offset_of-le tables.stores stores_place (length bytes) p.stores.within)) p.head in
    let groups_at : word_at bytes GROUPS_AT ≡ groups_place tables =
    nth_word_at bytes 0 ns 9 (lit< tt) (omega (arith, small, offset_of-le tables.groups (groups_place tables) (length bytes) p.groups.within)) p.head
    ∙ groups_there tables.groups (groups_place tables) tables.start_unicode writable.start_unicode in
    let groups = groups_clear bytes small unit high (groups_place tables) (rules_place tables) (group_strings_place tables) (rule_strings_place tables) tables.groups (omega arith) (omega arith) (omega arith)
    p.groups p.group_strings p.rules p.rule_strings in
    record {
      first = groups_place tables;
      second = rules_place tables;
      header = omega arith;
      stores = stores_first tables.stores (word_at bytes STORES_AT) (store_count bytes) store_number stores_at;
      groups = (omega (arith, groups_at), omega (arith, groups_at, group_number));
      order = omega arith;
      records = subst (λ (n : ℕ). GroupsLaid bytes unit high (rules_place tables) (word_at bytes GROUPS_AT) n) (sym group_number)
          (subst (λ (q : ℕ). GroupsLaid bytes unit high (rules_place tables) q (length tables.groups)) (sym groups_at) groups.1);
      within = p.store_strings.within;
      store_strings = at_offset (StoresClear bytes high) tables.stores stores_place (word_at bytes STORES_AT) (store_count bytes) stores_at store_number
          (stores_clear_at bytes small unit high stores_place high tables.stores (omega arith) p.stores p.store_strings);
      group_strings = subst (λ (n : ℕ). GroupsClear bytes high (word_at bytes GROUPS_AT) n) (sym group_number)
          (subst (λ (q : ℕ). GroupsClear bytes high q (length tables.groups)) (sym groups_at) groups.0);
    }

-- ---- the law

header_part : (version sum : ℕ) (out : List ℕ) → Outside 4 12 out (with_word CHECKSUM_AT sum (with_word CHECKSUM_AT 0 (with_word VERSION_AT version out)))
header_part version sum out =
    let third : List ℕ = with_word VERSION_AT version out in
    let blank : List ℕ = with_word CHECKSUM_AT 0 third in
    after 4 12 out third (with_word CHECKSUM_AT sum blank) (wider 4 8 4 12 out third (omega arith) (omega arith) (word_outside VERSION_AT version out))
    (after 4 12 third blank (with_word CHECKSUM_AT sum blank) (wider 8 12 4 12 third blank (omega arith) (omega arith) (word_outside CHECKSUM_AT 0 third))
    (wider 8 12 4 12 blank (with_word CHECKSUM_AT sum blank) (omega arith) (omega arith) (word_outside CHECKSUM_AT sum blank)))

version_half : (version sum : ℕ) (out : List ℕ) → version < 2 ^ 16 → 8 ≤ length out → half_at (with_word CHECKSUM_AT sum (with_word CHECKSUM_AT 0 (with_word VERSION_AT version out))) 4 ≡ version
version_half version sum out below long =
    let third : List ℕ = with_word VERSION_AT version out in
    let blank : List ℕ = with_word CHECKSUM_AT 0 third in
    sym ((front_same 8 12 blank (with_word CHECKSUM_AT sum blank) (word_outside CHECKSUM_AT sum blank)).halves VERSION_AT (omega arith) (omega arith))
    ∙ sym ((front_same 8 12 third blank (word_outside CHECKSUM_AT 0 third)).halves VERSION_AT (omega arith) (omega arith))
    ∙ half_there VERSION_AT version out below (omega (arith, long))

played_half : (version : ℕ) → played_version version < 2 ^ 16
played_half version = omega arith

half_of_file : (tables : Tables) (picture : List ℕ) → IsWritable tables → length (file_of tables picture) ≤ FILE_BYTES → half_at (file_of tables picture) 4 ≡ tables.version
unfolding tables_of
half_of_file tables picture writable fits = ap (λ (read : Tables). read.version) (law tables picture writable fits)

of_tables : (tables : Tables) (picture : List ℕ) (unit : ℕ) → IsWritable tables → length picture ≤ PICTURE_BYTES → length (file_of tables picture) ≤ FILE_BYTES
    → zero_unit (file_of tables picture) ≡ Some unit → SaysTheSame (file_of tables picture) (exported (file_of tables picture) unit)
unfolding replaced
of_tables tables picture unit writable picture_size fits found =
    let bytes : List ℕ = file_of tables picture in
    let high : ℕ = store_strings_place tables in
    let l : Laid bytes unit high = laid tables picture unit writable fits in
    let valid : IsValid bytes = file_of_valid tables picture writable picture_size fits in
    let long : 64 ≤ length bytes = has_header bytes valid in
    let b : IsBlank bytes high unit = zero_unit_blank bytes high (omega arith) unit valid l.store_strings l.group_strings found in
    let p : Parts tables picture bytes = parts tables picture in
    let word_is : word_at bytes VERSION_AT ≡ tables.version =
    nth_word_at bytes 0 (header_words tables picture) 1 (lit< tt) (omega (arith, version-small tables.version writable.version)) p.head in
    let same : word_at bytes VERSION_AT ≡ half_at bytes VERSION_AT = word_is ∙ sym (half_of_file tables picture writable fits) in
    let v : ℕ = played_version (word_at bytes VERSION_AT) in
    let one : List ℕ = pointed_stores bytes unit (word_at bytes STORES_AT) (store_count bytes) bytes in
    let two : List ℕ = pointed_groups bytes unit (word_at bytes GROUPS_AT) (group_count bytes) one in
    let sum : ℕ = checksum (with_word CHECKSUM_AT 0 (with_word VERSION_AT v two)) in
    let fin : List ℕ = with_word CHECKSUM_AT sum (with_word CHECKSUM_AT 0 (with_word VERSION_AT v two)) in
    let header : Outside 4 12 two fin = header_part v sum two in
    let one_size : length bytes ≡ length one = (stores_outside bytes unit (word_at bytes STORES_AT) (store_count bytes) bytes).size in
    let two_size : length one ≡ length two = (groups_outside bytes unit high l.second (word_at bytes GROUPS_AT) (group_count bytes) one l.records).size in
    says_same bytes fin unit high l (omega (arith, b.within, fits)) (omega (arith, b.behind)) b.behind b.blank b.ended valid
    (version_half v sum two (played_half (word_at bytes VERSION_AT)) (omega (arith, long, one_size, two_size)) ∙ ap played_version same)
    (version_made bytes fin unit refl (omega (arith, long, one_size, two_size, header.size))) header

pub written_files_are_exported : WrittenFilesAreExported
written_files_are_exported bytes unit file found =
    subst (λ (xs : List ℕ). SaysTheSame xs (exported xs unit)) (sym file.is)
    (of_tables file.tables file.picture unit file.writable file.picture_size (omega (arith, file.file_size, ap length file.is)) (sym (ap zero_unit file.is) ∙ found))
