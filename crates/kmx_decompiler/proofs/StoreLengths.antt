-- The lengths of the stores that the statements of a text represent.
use Rattle.std.proofs.Common.{◌≡◌, ℕ, suc, ◌+◌, ◌-◌, Bool, true, false, List, [], ◌∷◌, ◌++◌, length, drop, map, Option, None, Some, is_some, refl, sym, ap, ◌∙◌, arith, length-append, if◌then◌else◌}
use Rattle.std.specs.Prelude.{All, flat_map, nat_eq, slice_get, unwrap_or, chars}
use Rattle.std.specs.List.{range_with_len, join_with_byte}
use Rattle.std.specs.Str.{IsUtf8}
use Rattle.std.specs.Fmt.{decimal}
use Rattle.std.proofs.lemmas.Bool.Decides.{nat_tests}
use Rattle.std.proofs.lemmas.List.{map-append, length-map}
use Rattle.std.proofs.lemmas.List.Elements.{All-head, All-tail}
use Rattle.std.proofs.lemmas.List.FromFn.{length-range_with_len}
use Rattle.std.proofs.lemmas.Str.{chars-append}
use Rattle.kmn_base.specs.declared.items.Element.TheVariants as element
use Rattle.kmn_parser.proofs.CleanTexts.{counted-characters}
use Rattle.rule_model.specs.declared.program.SrcItem.TheVariants as source
use Rattle.rule_model.specs.declared.program.StoreDef.{StoreDef}
use Rattle.rule_model.specs.declared.tables.Store.{Store}
use Rattle.rule_model.specs.declared.tables.Tables.{Tables}
use Rattle.rule_model.specs.Tab.{tab_dictionary}
use Rattle.rule_model.specs.Naming.{SourceNames, item_elements, store_of}
use Rattle.compile_laws.specs.Numbers.{dictionary_stores, value_store}
use Rattle.rule_checker.proofs.Sizes.{space_chars}
use Rattle.decompile_program.specs.Marks.{greatest_mark}
use Rattle.decompile_program.specs.Items.{Names, back_element}
use Rattle.kmx_format.specs.Versions.{version_text}
use Rattle.compile_laws.proofs.Dictionary.{space_text}
use Rattle.decompile_program.specs.Back.{back_stores, numbered, stated_marks, stated_key, mark_store, key_store, mark_stores, key_stores, front_stores, free_stores, names_for, written_stores}
use Rattle.decompile_text.proofs.WholeTexts.{first_left, one_less}
use Rattle.kmx_decompiler.specs.Counting.{some_length, called_lengths, spaced_size, joined_length}
use Rattle.kmx_decompiler.proofs.ShortStores.{singles, element-single}

abbrev pub length_of : Store → ℕ
length_of store = length store.elements

module _ (names : SourceNames) where
  -- the lengths of the stores of statements that do not insert other stores
  abbrev pub lengths : List StoreDef → List ℕ
  lengths stores = map length_of (map (store_of names []) stores)

  lengths-append : (xs ys : List StoreDef) → lengths (xs ++ ys) ≡ lengths xs ++ lengths ys
  lengths-append xs ys = ap (map length_of) (map-append (store_of names []) xs ys) ∙ map-append length_of (map (store_of names []) xs) (map (store_of names []) ys)

  some-more : (n : ℕ) → some_length (suc n) ≡ suc n ∷ []
  some-more n = by (nat_eq (suc n) 0) (grind (arith, nat_tests))
    where
      by : (b : Bool) → b ≡ false → (if b then [] else suc n ∷ []) ≡ suc n ∷ []
      by true e = absurd (cc)
      by false e = refl

  key-length : (line : ℕ) (name : List ℕ) (keys : List (List ℕ)) → lengths (numbered line (key_store name keys)) ≡ some_length (length keys)
  key-length line name [] = refl
  key-length line name (key ∷ keys) = ap (λ (n : ℕ). n ∷ []) (singles names stated_key (λ k. refl) (key ∷ keys)) ∙ sym (some-more (length keys))

  mark-length : (line count : ℕ) (name : List ℕ) (more : List (ℕ → StoreDef)) (found : List ℕ) → ((line : ℕ) → lengths (numbered line more) ≡ found)
      → lengths (numbered line (mark_store name count ++ more)) ≡ some_length count ++ found
  mark-length line count name more found h = by (nat_eq count 0)
    where
      all : length (flat_map (item_elements names []) (map (λ m. source.Dead (decimal m)) (range_with_len 1 count))) ≡ count
      all = singles names (λ m. source.Dead (decimal m)) (λ m. refl) (range_with_len 1 count) ∙ length-range_with_len 1 count

      by : (b : Bool) → lengths (numbered line ((if b then [] else stated_marks name count ∷ []) ++ more)) ≡ (if b then [] else count ∷ []) ++ found
      by true = h line
      by false = λ j. all j ∷ h (line + 1) j

  -- the lengths of the front stores: the version, the deadkeys and the custom keys
  pub front_lengths : (tables : Tables)
      → lengths (numbered 1 (front_stores tables)) ≡ length (version_text tables.version) ∷ (some_length (greatest_mark tables) ++ some_length (length (tab_dictionary tables.stores)))
  front_lengths tables =
      let keys : List ℕ = unwrap_or (slice_get (free_stores tables) (length (mark_stores tables))) [] in
      let marks : List ℕ = unwrap_or (slice_get (free_stores tables) 0) [] in
      λ j. singles names source.Char (λ c. refl) (version_text tables.version) j
      ∷ mark-length (1 + 1) (greatest_mark tables) marks (key_stores tables) (some_length (length (tab_dictionary tables.stores))) (λ line. key-length line keys (tab_dictionary tables.stores)) j

  -- the lengths of the stores of the file that the text contains, by what they are called
  abbrev listed : List (Option (List ℕ)) → List Store → List ℕ
  listed calls [] = []
  listed calls (store ∷ stores) = (if is_some (unwrap_or (slice_get calls 0) None) then length store.elements ∷ [] else []) ++ listed (drop 1 calls) stores

  none-listed : (stores : List Store) → listed [] stores ≡ []
  none-listed [] = refl
  none-listed (store ∷ stores) = none-listed stores

  back-listed : (called : Names) (line : ℕ) (calls : List (Option (List ℕ))) (stores : List Store) → lengths (back_stores called line calls stores) ≡ listed calls stores
  back-listed called line [] stores = sym (none-listed stores)
  back-listed called line (None ∷ calls) [] = refl
  back-listed called line (Some name ∷ calls) [] = refl
  back-listed called line (None ∷ calls) (store ∷ stores) = back-listed called line calls stores
  back-listed called line (Some name ∷ calls) (store ∷ stores) =
      λ j. singles names (back_element called) (element-single names called) store.elements j ∷ back-listed called (line + 1) calls stores j

  from_number : (all : List (Option (List ℕ))) (n : ℕ) (calls : List (Option (List ℕ))) (stores : List Store) → calls ≡ drop n all → listed calls stores ≡ called_lengths all n stores
  from_number all n calls [] e = refl
  from_number all n calls (store ∷ stores) e =
      let here : slice_get calls 0 ≡ slice_get all n = ap (λ (left : List (Option (List ℕ))). slice_get left 0) e ∙ first_left all n in
      λ j. (if is_some (unwrap_or (here j) None) then length store.elements ∷ [] else []) ++ from_number all (n + 1) (drop 1 calls) stores (ap (drop 1) e ∙ one_less all n) j

  -- the lengths of the stores of all statements of the text
  pub written_lengths : (tables : Tables)
      → lengths (written_stores tables)
      ≡ (length (version_text tables.version) ∷ (some_length (greatest_mark tables) ++ some_length (length (tab_dictionary tables.stores)))) ++ called_lengths (names_for tables).stores 0 tables.stores
  written_lengths tables =
      let calls : List (Option (List ℕ)) = (names_for tables).stores in
      lengths-append (numbered 1 (front_stores tables)) (back_stores (names_for tables) (1 + length (front_stores tables)) calls tables.stores)
      ∙ (λ j. front_lengths tables j
      ++ (back-listed (names_for tables) (1 + length (front_stores tables)) calls tables.stores ∙ from_number calls 0 calls tables.stores refl) j)

-- the names of a dictionary that are joined by spaces have one character less than the spaced size
joined-size : (name : List ℕ) (names : List (List ℕ)) → All IsUtf8 (name ∷ names) → length (chars (join_with_byte 32 (name ∷ names))) + 1 ≡ spaced_size (name ∷ names)
joined-size name [] utf8 = let here = counted-characters name (All-head IsUtf8 name [] utf8) in omega (arith, here)
joined-size name (next ∷ names) utf8 =
    let valid = All-head IsUtf8 name (next ∷ names) utf8 in
    let here = counted-characters name valid in
    let rest = joined-size next names (All-tail IsUtf8 name (next ∷ names) utf8) in
    omega (
      arith,
      here,
      rest,
      ap length space_chars,
      ap length (chars-append name (32 ∷ join_with_byte 32 (next ∷ names)) valid),
      length-append (chars name) (chars (32 ∷ join_with_byte 32 (next ∷ names))),
      ap length (chars-append (32 ∷ []) (join_with_byte 32 (next ∷ names)) space_text),
      length-append (chars (32 ∷ [])) (chars (join_with_byte 32 (next ∷ names))),
    )

-- the length of the store of the dictionary, and the lengths of the stores of values
pub dictionary_length : (names : List (List ℕ)) → All IsUtf8 names → map length_of (dictionary_stores names) ≡ joined_length names
dictionary_length [] utf8 = refl
dictionary_length (name ∷ names) utf8 =
    let characters = length-map (chars (join_with_byte 32 (name ∷ names))) element.Char in
    let size = joined-size name names utf8 in
    let one : length (map element.Char (chars (join_with_byte 32 (name ∷ names)))) ≡ spaced_size (name ∷ names) - 1 = omega (arith, characters, size) in
    ap (λ (n : ℕ). n ∷ []) one

pub value_lengths : (values : List (List ℕ)) → map length_of (map value_store values) ≡ map length values
value_lengths [] = refl
value_lengths (value ∷ values) = λ j. length-map value element.Char j ∷ value_lengths values j
