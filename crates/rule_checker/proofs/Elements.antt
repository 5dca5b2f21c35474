-- The elements of an accepted program's stores can be spelled, and its stores can be written.
use Rattle.std.proofs.Common.{◌≡◌, ◌≢◌, ℕ, ◌+◌, ◌^◌, ◌<◌, ◌≤◌, Bool, true, false, List, [], ◌∷◌, ◌++◌, length, map, Some, unwrap_or, refl, sym, ap, subst, ◌∙◌, arith, if◌then◌else◌, length-append, lit≤}
use Rattle.std.specs.Prelude.{All, bit_and, find, flat_map, nat_eq, nat_lt}
use Rattle.std.specs.List.{list_all, list_any, join_with_byte}
use Rattle.std.specs.Str.{bytes_eq, chars}
use Rattle.std.proofs.lemmas.Bool.{and_parts, cond_both, eqb-false, eqb-true}
use Rattle.std.proofs.lemmas.Nat.{and_le_r}
use Rattle.std.proofs.lemmas.Str.{chars-append}
use Rattle.std.proofs.lemmas.List.Elements.{All-nil, All-cons, All-head, All-tail, All-append, All-map, All-weaker, All-same}
use Rattle.kmn_base.specs.declared.items.Element.{Element}
use Rattle.kmn_base.specs.declared.items.Element.TheVariants as element
use Rattle.kmn_base.specs.declared.keys.TheConstants.{SHIFT_FLAGS}
use Rattle.kmn_base.specs.declared.limits.TheConstants.{STORE_ELEMENTS}
use Rattle.kmn_base.specs.Names.{same_name}
use Rattle.kmn_base.specs.Spelling.{char_units, IsOperand, IsSpellable}
use Rattle.virtual_keys.specs.Dictionary.{code_in}
use Rattle.rule_model.specs.declared.program.KeyName.{KeyName}
use Rattle.rule_model.specs.declared.program.SrcItem.{SrcItem}
use Rattle.rule_model.specs.declared.program.SrcItem.TheVariants as source
use Rattle.rule_model.specs.declared.program.StoreDef.{StoreDef}
use Rattle.rule_model.specs.declared.program.Program.{Program}
use Rattle.rule_model.specs.declared.tables.Store.{Store}
use Rattle.rule_model.specs.Tab.{store_elements}
use Rattle.rule_model.specs.Naming.{names_of, stores_of, stores_onto, store_of, is_dropped, rule_items, all_rules, mark_number, key_number, elements_named, item_elements}
use Rattle.compile_laws.specs.Numbers.{item_values, values_of, value_store, dictionary_stores, compiled_stores}
use Rattle.kmx_format.specs.FileUnits.{unit_item_of_element, name_units}
use Rattle.kmx_format.specs.Writable.{IsWritableName, IsWritableStore}
use Rattle.kmx_format.proofs.WritableParts.{writable_name}
use Rattle.compile_laws.proofs.Dictionary.{space_text}
use Rattle.kmn_parser.specs.ProgramLaws.{IsCharacter, IsName, IsOwnKey, IsReadKey, IsReadItem, IsReadStore}
use Rattle.rule_checker.specs.Refused.{IsRead}
use Rattle.rule_checker.proofs.Lists.{All-distinct}
use Rattle.rule_checker.proofs.Accepted.{IsUnrefused}
use Rattle.rule_checker.proofs.Reading.{own_keys_read, rule_values_read}
use Rattle.rule_checker.proofs.Sizes.{space_chars}
use Rattle.rule_checker.proofs.Within.{few_elements}
use Rattle.rule_checker.proofs.Numbers.{are_among, has_keys, keys_appear, store_items_pass, mark_small, own_code}

few_units : (c : ℕ) → length (char_units c) ≤ 2
few_units c = cond_both (nat_lt c 0x1_0000) _ _ (λ units. length units ≤ 2) (λ e. omega arith) (λ e. omega arith)

unit_count : (cs : List ℕ) → length (flat_map char_units cs) ≤ length cs + length cs
unit_count [] = omega arith
unit_count (c ∷ cs) = let both = length-append (char_units c) (flat_map char_units cs) in omega (arith, both, few_units c, unit_count cs)

-- a name that is read can be written in a file, since each of its characters has at most two units
pub name_written : (name : List ℕ) → IsName name → IsWritableName name
unfolding name_units
name_written name read = record {
  utf8 = read.utf8;
  characters = All-weaker IsCharacter (λ c. (c ≢ 0) × (c ≢ 0xFFFF)) (λ c is. (is.not_first, is.not_last)) (chars name) read.characters;
  units = omega (arith, unit_count (chars name), read.few);
}

pub no_name : IsWritableName []
no_name = writable_name [] (All-nil (λ c. (c ≢ 0) × (c < 128))) (lit≤ tt)

-- flags and code of a virtual key that can be spelled, and written in a key record
pub record IsSoundKey (flags code : ℕ) : Type 0 where
  pub virtual : flags ≢ 0
  pub known : bit_and flags SHIFT_FLAGS ≡ flags
  pub some : 0 < code
  pub fits : code < 2 ^ 16

abbrev pub IsSoundElement : Element → Type 0
IsSoundElement (element.Char c) = IsCharacter c
IsSoundElement (element.Mark m) = IsOperand m
IsSoundElement (element.Key flags code) = IsSoundKey flags code

flags_operand : (flags : ℕ) → flags ≢ 0 → bit_and flags SHIFT_FLAGS ≡ flags → IsOperand flags
flags_operand flags some known = let low = and_le_r flags SHIFT_FLAGS in (omega arith, omega (arith, low, known))

pub element_spelled : (e : Element) → IsSoundElement e → IsSpellable (unit_item_of_element e)
element_spelled (element.Char c) is = (is.valid, is.not_first, is.not_last)
element_spelled (element.Mark m) is = is
element_spelled (element.Key flags code) is = (flags_operand flags is.virtual is.known, (is.some, is.fits))

no_flags : (flags : ℕ) → bit_and flags 0x4000 ≡ 0x4000 → flags ≢ 0
no_flags flags virtual e = let h : bit_and 0 0x4000 ≡ 0x4000 = ap (λ f. bit_and f 0x4000) (sym e) ∙ virtual in omega (arith, h)

-- a store whose elements can be spelled
pub record IsSoundStore (store : Store) : Type 0 where
  pub system : store.system < 2 ^ 32
  pub name : IsWritableName store.name
  pub elements : All IsSoundElement store.elements

-- the elements of the store of a name
pub found_sound : (stores : List Store) → All IsSoundStore stores → (name : List ℕ) → All IsSoundElement (elements_named stores name)
found_sound [] sound name = All-nil IsSoundElement
found_sound (s ∷ stores) sound name = by (same_name s.name name) (found_sound stores (All-tail IsSoundStore s stores sound) name)
  where
    by : (b : Bool) → All IsSoundElement (elements_named stores name) → All IsSoundElement (store_elements (if b then Some s else find (λ (t : Store). same_name t.name name) stores))
    by true rest = (All-head IsSoundStore s stores sound).elements
    by false rest = rest

-- a virtual key has a code
module _ (program : Program) (read : IsRead program) (whole : IsUnrefused program) where
  code_sound : (key : KeyName) → IsReadKey key → (b : Bool) → nat_eq key.code 0 ≡ b → are_among (names_of program).keys (if b then key.name ∷ [] else []) ≡ true
      → (0 < (if b then unwrap_or (code_in (names_of program).keys key.name) 0 else key.code)) × ((if b then unwrap_or (code_in (names_of program).keys key.name) 0 else key.code) < 2 ^ 16)
  code_sound key is true e among =
      own_code program read whole key.name (and_parts (list_any (λ k. same_name k key.name) (names_of program).keys) true among).0
  code_sound key is false e among = let some = eqb-false key.code 0 e in let fits = is.code in (omega arith, fits)

  pub key_sound : (key : KeyName) → IsReadKey key → has_keys program (source.Key key) ≡ true → IsSoundKey key.flags (key_number (names_of program) key)
  key_sound key is among =
      let code = code_sound key is (nat_eq key.code 0) refl among in
      record { virtual = no_flags key.flags is.virtual; known = is.flags; some = code.0; fits = code.1 }

  pub mark_operand : (name : List ℕ) → IsOperand (mark_number (names_of program) name)
  mark_operand name = let few = mark_small program read whole name in (omega arith, omega (arith, few))

  -- if the stores before an item are sound, the elements that it expands to are sound
  item_sound : (before : List Store) → All IsSoundStore before → (item : SrcItem) → IsReadItem item → has_keys program item ≡ true → All IsSoundElement (item_elements (names_of program) before item)
  item_sound before sound (source.Char c) is among = All-cons IsSoundElement (element.Char c) [] is (All-nil IsSoundElement)
  item_sound before sound (source.Dead name) is among = All-cons IsSoundElement (element.Mark (mark_number (names_of program) name)) [] (mark_operand name) (All-nil IsSoundElement)
  item_sound before sound (source.Key key) is among = All-cons IsSoundElement (element.Key key.flags (key_number (names_of program) key)) [] (key_sound key is among) (All-nil IsSoundElement)
  item_sound before sound (source.Outs name) is among = found_sound before sound name
  item_sound before sound item is among = All-nil IsSoundElement

  items_sound : (before : List Store) → All IsSoundStore before → (items : List SrcItem) → All IsReadItem items → list_all (has_keys program) items ≡ true
      → All IsSoundElement (flat_map (item_elements (names_of program) before) items)
  items_sound before sound [] is among = All-nil IsSoundElement
  items_sound before sound (item ∷ items) is among =
      let both = and_parts (has_keys program item) (list_all (has_keys program) items) among in
      All-append IsSoundElement (item_elements (names_of program) before item) (flat_map (item_elements (names_of program) before) items)
      (item_sound before sound item (All-head IsReadItem item items is) both.0) (items_sound before sound items (All-tail IsReadItem item items is) both.1)

  store_name : (store : StoreDef) → IsReadStore store → (b : Bool) → nat_eq store.system 0 ≡ b → IsWritableName store.name
  store_name store is true e = name_written store.name (is.named (eqb-true store.system 0 e))
  store_name store is false e = subst IsWritableName (sym (is.unnamed (eqb-false store.system 0 e))) no_name

  stores_sound : (before : List Store) (stores : List StoreDef) → All IsSoundStore before → All IsReadStore stores → list_all (λ (store : StoreDef). list_all (has_keys program) store.items) stores ≡ true
      → All IsSoundStore (stores_onto (names_of program) before stores)
  stores_sound before [] sound is among = sound
  stores_sound before (store ∷ stores) sound is among =
      let both = and_parts (list_all (has_keys program) store.items) (list_all (λ (s : StoreDef). list_all (has_keys program) s.items) stores) among in
      let here = All-head IsReadStore store stores is in
      stores_sound (if is_dropped store then before else before ++ store_of (names_of program) before store ∷ []) stores
      (by (is_dropped store) (record { system = here.system; name = store_name store here (nat_eq store.system 0) refl; elements = items_sound before sound store.items here.items both.0 }))
      (All-tail IsReadStore store stores is) both.1
    where
      by : (b : Bool) → IsSoundStore (store_of (names_of program) before store) → All IsSoundStore (if b then before else before ++ store_of (names_of program) before store ∷ [])
      by true one = sound
      by false one = All-append IsSoundStore before (store_of (names_of program) before store ∷ []) sound (All-cons IsSoundStore (store_of (names_of program) before store) [] one (All-nil IsSoundStore))

  pub stated_sound : All IsSoundStore (stores_of program)
  unfolding stores_of
  stated_sound = stores_sound [] program.stores (All-nil IsSoundStore) read.statements.stores (store_items_pass (has_keys program) program (keys_appear program))

-- the key dictionary's store
joined_read : (name : List ℕ) (names : List (List ℕ)) → All IsOwnKey (name ∷ names) → All IsCharacter (chars (join_with_byte 32 (name ∷ names)))
joined_read name [] own = (All-head IsOwnKey name [] own).word.characters
joined_read name (next ∷ names) own =
    let here = (All-head IsOwnKey name (next ∷ names) own).word in
    let rest = joined_read next names (All-tail IsOwnKey name (next ∷ names) own) in
    All-same IsCharacter (chars (join_with_byte 32 (name ∷ (next ∷ names)))) (chars name ++ (32 ∷ chars (join_with_byte 32 (next ∷ names))))
    (chars-append name (32 ∷ join_with_byte 32 (next ∷ names)) here.utf8
    ∙ ap (λ (cs : List ℕ). chars name ++ cs) (chars-append (32 ∷ []) (join_with_byte 32 (next ∷ names)) space_text ∙ ap (λ (cs : List ℕ). cs ++ chars (join_with_byte 32 (next ∷ names))) space_chars))
    (All-append IsCharacter (chars name) (32 ∷ chars (join_with_byte 32 (next ∷ names))) here.characters
    (All-cons IsCharacter 32 (chars (join_with_byte 32 (next ∷ names))) (record { valid = refl; not_first = λ e. omega (arith, e); not_last = λ e. omega (arith, e) }) rest))

pub characters_sound : (cs : List ℕ) → All IsCharacter cs → All IsSoundElement (map element.Char cs)
characters_sound cs is = All-map IsSoundElement element.Char cs is

dictionary_sound : (keys : List (List ℕ)) → All IsOwnKey keys → All IsSoundStore (dictionary_stores keys)
dictionary_sound [] own = All-nil IsSoundStore
dictionary_sound (name ∷ names) own =
    All-cons IsSoundStore (record { system = 34; name = []; elements = map element.Char (chars (join_with_byte 32 (name ∷ names))) }) []
    (record { system = lit≤ tt; name = no_name; elements = characters_sound (chars (join_with_byte 32 (name ∷ names))) (joined_read name names own) }) (All-nil IsSoundStore)

-- the stores of values
value_sound : (value : List ℕ) → All IsCharacter value → IsSoundStore (value_store value)
value_sound value is = record { system = lit≤ tt; name = no_name; elements = characters_sound value is }

values_read : (program : Program) → IsRead program → All (All IsCharacter) (values_of program)
unfolding values_of
values_read program read =
    All-distinct (All IsCharacter) bytes_eq [] (flat_map item_values (flat_map rule_items (all_rules program))) (All-nil (All IsCharacter))
    (rule_values_read program read.statements)

module _ (program : Program) (read : IsRead program) (whole : IsUnrefused program) where
  compiled_sound : All IsSoundStore (compiled_stores program)
  compiled_sound =
      All-append IsSoundStore (stores_of program) (dictionary_stores (names_of program).keys ++ map value_store (values_of program)) (stated_sound program read whole)
      (All-append IsSoundStore (dictionary_stores (names_of program).keys) (map value_store (values_of program)) (dictionary_sound (names_of program).keys (own_keys_read program read.statements))
      (All-map IsSoundStore value_store (values_of program) (All-weaker (All IsCharacter) (λ value. IsSoundStore (value_store value)) value_sound (values_of program) (values_read program read))))

  both_written : (stores : List Store) → All IsSoundStore stores → All (λ (s : Store). length s.elements ≤ STORE_ELEMENTS) stores → All IsWritableStore stores
  both_written [] sound few = All-nil IsWritableStore
  both_written (s ∷ stores) sound few =
      let here = All-head IsSoundStore s stores sound in
      All-cons IsWritableStore s stores
      (record {
        system = here.system;
        name = here.name;
        elements = All-weaker IsSoundElement (λ e. IsSpellable (unit_item_of_element e)) element_spelled s.elements here.elements;
        element_count = All-head (λ (t : Store). length t.elements ≤ STORE_ELEMENTS) s stores few;
      })
      (both_written stores (All-tail IsSoundStore s stores sound) (All-tail (λ (t : Store). length t.elements ≤ STORE_ELEMENTS) s stores few))

  -- the stores of the file can be written
  pub stores_written : All IsWritableStore (compiled_stores program)
  stores_written = both_written (compiled_stores program) compiled_sound (few_elements program read whole)
