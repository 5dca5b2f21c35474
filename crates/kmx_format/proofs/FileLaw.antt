-- Reading a file returns the tables that were written.
use Rattle.std.proofs.Common.{◌≡◌, ℕ, ◌+◌, ◌*◌, ◌/◌, ◌%◌, ◌^◌, ◌<◌, true, List, [], ◌∷◌, ◌++◌, length, map, refl, ap₂, ◌∙◌, length-append, arith, lit<, inl, inr}
use Rattle.std.specs.List.{All, flat_map}
use Rattle.kmn_base.proofs.StandingItems.{listed}
use Rattle.rule_model.specs.declared.tables.Store.{Store}
use Rattle.rule_model.specs.declared.tables.Group.{Group}
use Rattle.rule_model.specs.declared.tables.Tables.{Tables}
use Rattle.kmx_format.specs.File.{half, word, offset_of, store_strings, group_strings, rule_strings, store_record, store_records, group_record, group_records, rule_records, rules_of, all_rules, stores_place, groups_place, rules_place, store_strings_place, group_strings_place, rule_strings_place, picture_place, header_words, header, file_of}
use Rattle.kmx_format.specs.TablesOf.{half_at, word_at, stores_from, groups_from, tables_of, group_without_places}
use Rattle.kmx_format.specs.Versions.{is_version, version_numbers}
use Rattle.kmx_format.specs.Writable.{IsWritableStore, IsWritableGroup, IsWritable}
use Rattle.kmx_format.specs.FileLaws.{ReadingGivesBack}
use Rattle.kmx_format.proofs.FileStands.{StandsAt, whole, front, back, same_place, length-words, nth_word_at, nth_word, half_at-stands}
use Rattle.kmx_format.proofs.FileRecords.{offset_of-le, length-store_record, stores_from-stands, length-rule_records}
use Rattle.kmx_format.proofs.FileGroups.{length-group_record, groups_from-stands}

pub length-store_records : (place : ℕ) (stores : List Store) → length (store_records place stores) ≡ 12 * length stores
length-store_records place [] = refl
length-store_records place (store ∷ stores) =
    let behind : ℕ = place + length (store_strings store) in
    omega (arith, length-append (store_record place store) (store_records behind stores), length-store_record place store, length-store_records behind stores)

pub length-group_records : (rules_at place : ℕ) (groups : List Group) → length (group_records rules_at place groups) ≡ 24 * length groups
length-group_records rules_at place [] = refl
length-group_records rules_at place (group ∷ groups) =
    let next : ℕ = rules_at + 20 * length group.rules in
    let behind : ℕ = place + length (group_strings group) in
    omega (arith, length-append (group_record rules_at place group) (group_records next behind groups), length-group_record rules_at place group, length-group_records next behind groups)

-- if a word fits in two bytes, its first two bytes are read as the word
half_of_word : (bytes : List ℕ) (place n : ℕ) → n < 2 ^ 16 → StandsAt bytes place (word n) → half_at bytes place ≡ n
unfolding half word
half_of_word bytes place n below h =
    half_at-stands bytes place n below (front bytes place (half n) ((n / 256 ^ 2 % 256) ∷ (n / 256 ^ 3 % 256) ∷ []) h)

pub version-small : (version : ℕ) → is_version version ≡ true → version < 2 ^ 16
version-small version h =
    listed (λ m. m < 2 ^ 16) version_numbers version
    (lit< tt, (lit< tt, (lit< tt, (lit< tt, (lit< tt, (lit< tt, (lit< tt, (lit< tt, (lit< tt, tt))))))))) h

-- an array that has records is at its offset
stores_at_offset : (bytes : List ℕ) (small : length bytes < 2 ^ 32) (at place : ℕ) (stores : List Store) → 0 < place → All IsWritableStore stores
    → StandsAt bytes at (store_records place stores) → StandsAt bytes place (flat_map store_strings stores) → stores_from bytes (offset_of stores at) (length stores) ≡ stores
stores_at_offset bytes small at place [] positive writable fields strings = refl
stores_at_offset bytes small at place (store ∷ stores) positive writable fields strings =
    stores_from-stands bytes small at place (store ∷ stores) positive writable fields strings

groups_at_offset : (bytes : List ℕ) (small : length bytes < 2 ^ 32) (store_count group_count : ℕ) (at rules_at place strings_at : ℕ) (groups : List Group) → 0 < place → 0 < strings_at
    → All (IsWritableGroup store_count group_count) groups → StandsAt bytes at (group_records rules_at place groups) → StandsAt bytes place (flat_map group_strings groups)
    → StandsAt bytes rules_at (rule_records strings_at (flat_map rules_of groups)) → StandsAt bytes strings_at (flat_map rule_strings (flat_map rules_of groups))
    → groups_from bytes (offset_of groups at) (length groups) ≡ map group_without_places groups
groups_at_offset bytes small store_count group_count at rules_at place strings_at [] positive rules_positive writable fields strings records rules_strings = refl
groups_at_offset bytes small store_count group_count at rules_at place strings_at (group ∷ groups) positive rules_positive writable fields strings records rules_strings =
    groups_from-stands bytes small store_count group_count at rules_at place strings_at (group ∷ groups) positive rules_positive writable fields strings records rules_strings

length-header : (tables : Tables) (picture : List ℕ) → length (header tables picture) ≡ 64
length-header tables picture = length-words (header_words tables picture)

-- the three arrays of a file
abbrev stores_of : Tables → List ℕ
stores_of tables = store_records (store_strings_place tables) tables.stores

abbrev groups_of : Tables → List ℕ
groups_of tables = group_records (rules_place tables) (group_strings_place tables) tables.groups

abbrev rules_of_all : Tables → List ℕ
rules_of_all tables = rule_records (rule_strings_place tables) (all_rules tables)

-- the parts of a file, each at its position
pub record Parts (tables : Tables) (picture : List ℕ) (bytes : List ℕ) : Type 0 where
  pub head : StandsAt bytes 0 (header tables picture)
  pub stores : StandsAt bytes stores_place (store_records (store_strings_place tables) tables.stores)
  pub groups : StandsAt bytes (groups_place tables) (group_records (rules_place tables) (group_strings_place tables) tables.groups)
  pub rules : StandsAt bytes (rules_place tables) (rule_records (rule_strings_place tables) (all_rules tables))
  pub store_strings : StandsAt bytes (store_strings_place tables) (flat_map store_strings tables.stores)
  pub group_strings : StandsAt bytes (group_strings_place tables) (flat_map group_strings tables.groups)
  pub rule_strings : StandsAt bytes (rule_strings_place tables) (flat_map rule_strings (all_rules tables))
  pub last : StandsAt bytes (picture_place tables) picture

-- the length of a file up to each of its parts
record Lengths (tables : Tables) (picture : List ℕ) : Type 0 where
  to_stores : length (header tables picture) ≡ stores_place
  to_groups : length (header tables picture ++ stores_of tables) ≡ groups_place tables
  to_rules : length (header tables picture ++ stores_of tables ++ groups_of tables) ≡ rules_place tables
  to_store_strings : length (header tables picture ++ stores_of tables ++ groups_of tables ++ rules_of_all tables) ≡ store_strings_place tables
  to_group_strings : length (header tables picture ++ stores_of tables ++ groups_of tables ++ rules_of_all tables ++ flat_map store_strings tables.stores) ≡ group_strings_place tables
  to_rule_strings : length (header tables picture ++ stores_of tables ++ groups_of tables ++ rules_of_all tables ++ flat_map store_strings tables.stores ++ flat_map group_strings tables.groups) ≡ rule_strings_place tables
  to_picture : length (header tables picture ++ stores_of tables ++ groups_of tables ++ rules_of_all tables ++ flat_map store_strings tables.stores ++ flat_map group_strings tables.groups ++ flat_map rule_strings (all_rules tables)) ≡ picture_place tables

lengths : (tables : Tables) (picture : List ℕ) → Lengths tables picture
lengths tables picture =
    let a : List ℕ = header tables picture in
    let b : List ℕ = stores_of tables in
    let c : List ℕ = groups_of tables in
    let d : List ℕ = rules_of_all tables in
    let e : List ℕ = flat_map store_strings tables.stores in
    let f : List ℕ = flat_map group_strings tables.groups in
    let g : List ℕ = flat_map rule_strings (all_rules tables) in
    let length_a : length a ≡ stores_place = length-header tables picture in
    let length_b : length (a ++ b) ≡ groups_place tables = omega (arith, length-append a b, length-store_records (store_strings_place tables) tables.stores) in
    let length_c : length (a ++ b ++ c) ≡ rules_place tables = omega (arith, length-append (a ++ b) c, length-group_records (rules_place tables) (group_strings_place tables) tables.groups) in
    let length_d : length (a ++ b ++ c ++ d) ≡ store_strings_place tables = omega (arith, length-append (a ++ b ++ c) d, length-rule_records (rule_strings_place tables) (all_rules tables)) in
    let length_e : length (a ++ b ++ c ++ d ++ e) ≡ group_strings_place tables = omega (arith, length-append (a ++ b ++ c ++ d) e) in
    let length_f : length (a ++ b ++ c ++ d ++ e ++ f) ≡ rule_strings_place tables = omega (arith, length-append (a ++ b ++ c ++ d ++ e) f) in
    let length_g : length (a ++ b ++ c ++ d ++ e ++ f ++ g) ≡ picture_place tables = omega (arith, length-append (a ++ b ++ c ++ d ++ e ++ f) g) in
    record { to_stores = length_a; to_groups = length_b; to_rules = length_c; to_store_strings = length_d; to_group_strings = length_e; to_rule_strings = length_f; to_picture = length_g }

pub length-file_of : (tables : Tables) (picture : List ℕ) → length (file_of tables picture) ≡ picture_place tables + length picture
unfolding file_of
length-file_of tables picture =
    omega (
      arith,
      (lengths tables picture).to_picture,
      length-append (header tables picture ++ stores_of tables ++ groups_of tables ++ rules_of_all tables ++ flat_map store_strings tables.stores ++ flat_map group_strings tables.groups ++ flat_map rule_strings (all_rules tables)) picture,
    )

pub parts : (tables : Tables) (picture : List ℕ) → Parts tables picture (file_of tables picture)
unfolding file_of
parts tables picture =
    let a : List ℕ = header tables picture in
    let b : List ℕ = stores_of tables in
    let c : List ℕ = groups_of tables in
    let d : List ℕ = rules_of_all tables in
    let e : List ℕ = flat_map store_strings tables.stores in
    let f : List ℕ = flat_map group_strings tables.groups in
    let g : List ℕ = flat_map rule_strings (all_rules tables) in
    let bytes : List ℕ = a ++ b ++ c ++ d ++ e ++ f ++ g ++ picture in
    let ends : Lengths tables picture = lengths tables picture in
    let to_g : StandsAt bytes 0 (a ++ b ++ c ++ d ++ e ++ f ++ g) = front bytes 0 (a ++ b ++ c ++ d ++ e ++ f ++ g) picture (whole bytes) in
    let to_f : StandsAt bytes 0 (a ++ b ++ c ++ d ++ e ++ f) = front bytes 0 (a ++ b ++ c ++ d ++ e ++ f) g to_g in
    let to_e : StandsAt bytes 0 (a ++ b ++ c ++ d ++ e) = front bytes 0 (a ++ b ++ c ++ d ++ e) f to_f in
    let to_d : StandsAt bytes 0 (a ++ b ++ c ++ d) = front bytes 0 (a ++ b ++ c ++ d) e to_e in
    let to_c : StandsAt bytes 0 (a ++ b ++ c) = front bytes 0 (a ++ b ++ c) d to_d in
    let to_b : StandsAt bytes 0 (a ++ b) = front bytes 0 (a ++ b) c to_c in
    record {
      head = front bytes 0 a b to_b;
      stores = same_place bytes (0 + length a) stores_place b (omega (arith, ends.to_stores)) (back bytes 0 a b to_b);
      groups = same_place bytes (0 + length (a ++ b)) (groups_place tables) c (omega (arith, ends.to_groups)) (back bytes 0 (a ++ b) c to_c);
      rules = same_place bytes (0 + length (a ++ b ++ c)) (rules_place tables) d (omega (arith, ends.to_rules)) (back bytes 0 (a ++ b ++ c) d to_d);
      store_strings = same_place bytes (0 + length (a ++ b ++ c ++ d)) (store_strings_place tables) e (omega (arith, ends.to_store_strings)) (back bytes 0 (a ++ b ++ c ++ d) e to_e);
      group_strings = same_place bytes (0 + length (a ++ b ++ c ++ d ++ e)) (group_strings_place tables) f (omega (arith, ends.to_group_strings)) (back bytes 0 (a ++ b ++ c ++ d ++ e) f to_f);
      rule_strings = same_place bytes (0 + length (a ++ b ++ c ++ d ++ e ++ f)) (rule_strings_place tables) g (omega (arith, ends.to_rule_strings)) (back bytes 0 (a ++ b ++ c ++ d ++ e ++ f) g to_g);
      last = same_place bytes (0 + length (a ++ b ++ c ++ d ++ e ++ f ++ g)) (picture_place tables) picture (omega (arith, ends.to_picture)) (back bytes 0 (a ++ b ++ c ++ d ++ e ++ f ++ g) picture (whole bytes));
    }

pub start-small : (tables : Tables) → IsWritable tables → tables.start_ansi < 2 ^ 32
start-small tables writable =
    elim writable.start_ansi [
      | inl below ↦ omega (arith, writable.group_count)
      | inr none ↦ omega arith
    ]

pub law : ReadingGivesBack
unfolding tables_of
law tables picture writable fits =
    let bytes : List ℕ = file_of tables picture in
    let small : length bytes < 2 ^ 32 = omega arith in
    let p : Parts tables picture bytes = parts tables picture in
    let ns : List ℕ = header_words tables picture in
    let version_is : half_at bytes 4 ≡ tables.version =
    half_of_word bytes 4 tables.version (version-small tables.version writable.version) (nth_word bytes 0 ns 1 (lit< tt) p.head) in
    let store_count_is : word_at bytes 24 ≡ length tables.stores = nth_word_at bytes 0 ns 6 (lit< tt) (omega (arith, writable.store_count)) p.head in
    let group_count_is : word_at bytes 28 ≡ length tables.groups = nth_word_at bytes 0 ns 7 (lit< tt) (omega (arith, writable.group_count)) p.head in
    let stores_offset : word_at bytes 32 ≡ offset_of tables.stores stores_place =
    nth_word_at bytes 0 ns 8 (lit< tt) (omega (arith, offset_of-le tables.stores stores_place (length bytes) p.stores.within)) p.head in
    let groups_offset : word_at bytes 36 ≡ offset_of tables.groups (groups_place tables) =
    nth_word_at bytes 0 ns 9 (lit< tt) (omega (arith, offset_of-le tables.groups (groups_place tables) (length bytes) p.groups.within)) p.head in
    let start_ansi_is : word_at bytes 40 ≡ tables.start_ansi = nth_word_at bytes 0 ns 10 (lit< tt) (start-small tables writable) p.head in
    let start_unicode_is : word_at bytes 44 ≡ tables.start_unicode =
    nth_word_at bytes 0 ns 11 (lit< tt) (omega (arith, writable.start_unicode, writable.group_count)) p.head in
    let stores_are : stores_from bytes (word_at bytes 32) (word_at bytes 24) ≡ tables.stores =
    ap₂ (stores_from bytes) stores_offset store_count_is
    ∙ stores_at_offset bytes small stores_place (store_strings_place tables) tables.stores (omega arith) writable.stores p.stores p.store_strings in
    let groups_are : groups_from bytes (word_at bytes 36) (word_at bytes 28) ≡ map group_without_places tables.groups =
    ap₂ (groups_from bytes) groups_offset group_count_is
    ∙ groups_at_offset bytes small (length tables.stores) (length tables.groups) (groups_place tables) (rules_place tables) (group_strings_place tables) (rule_strings_place tables) tables.groups
    (omega arith) (omega arith) writable.groups p.groups p.group_strings p.rules p.rule_strings in
    λ i. record { version = version_is i; start_ansi = start_ansi_is i; start_unicode = start_unicode_is i; stores = stores_are i; groups = groups_are i }
