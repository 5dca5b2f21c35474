-- If the first group of a file has a name, the file has a zero unit to point to. If files say the same, they take the same steps.
use Rattle.std.proofs.Common.{◌≡◌, ◌≢◌, ℕ, ◌+◌, ◌*◌, ◌^◌, ◌<◌, ◌≤◌, true, List, [], ◌∷◌, length, Option, Some, None, refl, sym, ap, subst, ◌∙◌, arith, lit<, ne_eqb}
use Rattle.std.specs.Prelude.{if◌then◌else◌}
use Rattle.std.specs.Option.{is_some, option_or}
use Rattle.std.specs.List.{flat_map}
use Rattle.kmn_base.specs.declared.events.Event.{Event}
use Rattle.kmn_base.specs.declared.limits.TheConstants.{FILE_BYTES}
use Rattle.rule_model.specs.declared.tables.Group.{Group}
use Rattle.rule_model.specs.declared.tables.Tables.{Tables}
use Rattle.rule_model.specs.Tab.{tab, tab_options}
use Rattle.rule_model.specs.Trace.{trace}
use Rattle.kmx_format.specs.declared.places.TheConstants.{GROUPS_AT, GROUP_COUNT_AT, STORES_AT}
use Rattle.kmx_format.specs.FileUnits.{output_units, name_units}
use Rattle.kmx_format.specs.File.{string, offset_of, group_strings, flag, group_record, group_records, groups_place, rules_place, group_strings_place, header_words, file_of}
use Rattle.kmx_format.specs.TablesOf.{word_at, string_at, tables_of}
use Rattle.kmx_format.specs.Writable.{IsWritable}
use Rattle.kmx_format.proofs.FileStands.{StandsAt, front, first_word_at, nth_word_at}
use Rattle.kmx_format.proofs.FileRecords.{offset_of-le}
use Rattle.kmx_format.proofs.FileLaw.{Parts, parts}
use Rattle.kmx_view.specs.View.{store_count, group_count}
use Rattle.core_export.specs.Export.{end_of, end_in_groups, end_in_stores, zero_unit, with_played_version}
use Rattle.core_export.specs.ExportLaws.{IsFirstNamed, NamedFilesHaveZeroUnits, ExportingKeepsMeaning}

same_steps : (tables : Tables) (events : List Event) → trace (tab (with_played_version tables)) events ≡ trace (tab tables) events
unfolding tab tab_options
same_steps tables events = refl

pub exporting_keeps_meaning : ExportingKeepsMeaning
exporting_keeps_meaning bytes out same events = ap (λ (tables : Tables). trace (tab tables) events) same.tables ∙ same_steps (tables_of bytes) events

offset_named : (name : List ℕ) (place : ℕ) → name ≢ [] → offset_of name place ≡ place
offset_named [] place h = absurd (h refl)
offset_named (unit ∷ units) place h = refl

some_first : (a b : Option ℕ) → is_some a ≡ true → is_some (option_or a b) ≡ true
some_first None b h = absurd (cc)
some_first (Some x) b h = refl

some_end : (bytes : List ℕ) (offset : ℕ) → offset ≢ 0 → is_some (end_of bytes offset) ≡ true
some_end bytes offset h = ap (λ b. is_some (if b then None else Some (offset + 2 * length (string_at bytes offset)))) (ne_eqb offset 0 h)

first_end : (bytes : List ℕ) (small : length bytes < 2 ^ 32) (at rules_at place count : ℕ) (groups : List Group) → 0 < place → count ≡ length groups → IsFirstNamed groups
    → StandsAt bytes at (group_records rules_at place groups) → StandsAt bytes place (flat_map group_strings groups) → is_some (end_in_groups bytes at count) ≡ true
first_end bytes small at rules_at place count [] positive counted named fields strings = absurd named
first_end bytes small at rules_at place count (group ∷ groups) positive counted named fields strings =
    let next_rules : ℕ = rules_at + 20 * length group.rules in
    let next_place : ℕ = place + length (group_strings group) in
    let name : List ℕ = name_units group.name in
    let on_match : List ℕ = output_units group.on_match in
    let on_nomatch : List ℕ = output_units group.on_nomatch in
    let second : ℕ = place + length (string name) in
    let third : ℕ = second + length (string on_match) in
    let here : StandsAt bytes at (group_record rules_at place group) = front bytes at (group_record rules_at place group) (group_records next_rules next_place groups) fields in
    let name_is : word_at bytes at ≡ place =
    first_word_at bytes at (offset_of name place) (offset_of group.rules rules_at ∷ offset_of on_match second ∷ offset_of on_nomatch third ∷ length group.rules ∷ flag group.using_keys ∷ [])
    (omega (arith, small, offset_of-le name place (length bytes) strings.within)) here
    ∙ offset_named name place named in
    let nonzero : word_at bytes at ≢ 0 = λ none. omega (arith, positive, name_is, none) in
    subst (λ (n : ℕ). is_some (end_in_groups bytes at n) ≡ true) (sym counted)
    (some_first _ _ (some_first _ _ (some_first _ _ (some_end bytes (word_at bytes at) nonzero))))

groups_there : (groups : List Group) (at : ℕ) → IsFirstNamed groups → offset_of groups at ≡ at
groups_there [] at h = absurd h
groups_there (group ∷ groups) at h = refl

pub of_tables : (tables : Tables) (picture : List ℕ) → IsWritable tables → length (file_of tables picture) ≤ FILE_BYTES → IsFirstNamed tables.groups → is_some (zero_unit (file_of tables picture)) ≡ true
unfolding zero_unit
of_tables tables picture writable fits named =
    let bytes : List ℕ = file_of tables picture in
    let small : length bytes < 2 ^ 32 = omega (arith, fits) in
    let p : Parts tables picture bytes = parts tables picture in
    let ns : List ℕ = header_words tables picture in
    let group_number : word_at bytes GROUP_COUNT_AT ≡ length tables.groups = nth_word_at bytes 0 ns 7 (lit< tt) (omega (arith, writable.group_count)) p.head in
    let groups_at : word_at bytes GROUPS_AT ≡ groups_place tables =
    nth_word_at bytes 0 ns 9 (lit< tt) (omega (arith, small, offset_of-le tables.groups (groups_place tables) (length bytes) p.groups.within)) p.head ∙ groups_there tables.groups (groups_place tables) named in
    some_first (end_in_groups bytes (word_at bytes GROUPS_AT) (group_count bytes)) (end_in_stores bytes (word_at bytes STORES_AT) (store_count bytes))
    (subst (λ (place : ℕ). is_some (end_in_groups bytes place (group_count bytes)) ≡ true) (sym groups_at)
    (first_end bytes small (groups_place tables) (rules_place tables) (group_strings_place tables) (group_count bytes) tables.groups (omega arith) group_number named p.groups p.group_strings))

pub named_files_have_zero_units : NamedFilesHaveZeroUnits
named_files_have_zero_units bytes file named =
    subst (λ (xs : List ℕ). is_some (zero_unit xs) ≡ true) (sym file.is)
    (of_tables file.tables file.picture file.writable (omega (arith, file.file_size, ap length file.is)) named)
