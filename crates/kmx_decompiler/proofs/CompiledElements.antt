-- The keys, deadkeys and elements of a file that a program compiles to have names and flags that a source can express.
use Rattle.std.proofs.Common.{◌≡◌, ℕ, ◌+◌, ◌-◌, ◌≤◌, Bool, true, false, not, ◌||◌, List, [], ◌∷◌, ◌++◌, map, Option, None, Some, is_some, refl, sym, ◌∙◌, ap, subst, arith, if◌then◌else◌}
use Rattle.std.specs.Prelude.{All, bit_and, nat_eq, nat_lt, find, flat_map, option_map, unwrap_or, slice_get}
use Rattle.std.specs.List.{list_all, list_any}
use Rattle.std.proofs.lemmas.Bool.{and_parts, eqb-true, eqb-false, eq-eqb, cond-false, cond-true}
use Rattle.std.proofs.lemmas.Bool.Decides.{nat_tests}
use Rattle.std.proofs.lemmas.List.Elements.{All-nil, All-cons, All-head, All-tail, All-append}
use Rattle.kmn_base.specs.declared.items.Element.{Element}
use Rattle.kmn_base.specs.declared.items.Element.TheVariants as element
use Rattle.kmn_base.specs.declared.keys.TheConstants.{SHIFT_FLAGS}
use Rattle.kmn_base.specs.declared.limits.TheConstants.{DEADKEYS}
use Rattle.kmn_base.specs.Names.{same_name}
use Rattle.virtual_keys.specs.Keys.{key_codes, key_name}
use Rattle.virtual_keys.specs.Dictionary.{place_in, code_in, name_in}
use Rattle.rule_model.specs.declared.program.KeyName.{KeyName}
use Rattle.rule_model.specs.declared.program.SrcItem.{SrcItem}
use Rattle.rule_model.specs.declared.program.SrcItem.TheVariants as source
use Rattle.rule_model.specs.declared.program.StoreDef.{StoreDef}
use Rattle.rule_model.specs.declared.program.Program.{Program}
use Rattle.rule_model.specs.declared.tables.Store.{Store}
use Rattle.rule_model.specs.Tab.{store_elements}
use Rattle.rule_model.specs.Naming.{names_of, stores_of, stores_onto, store_of, is_dropped, mark_number, key_number, elements_named, item_elements}
use Rattle.compile_laws.proofs.PlacedItems.{first_place}
use Rattle.virtual_keys.proofs.NamePlaces.{some_place}
use Rattle.rule_checker.proofs.Accepted.{IsUnrefused}
use Rattle.rule_checker.proofs.Within.{few_marks}
use Rattle.rule_checker.proofs.Numbers.{place_below, place_either_way, has_keys, has_marks, keys_appear, marks_appear, store_items_pass}
use Rattle.kmn_parser.specs.Spelled.{IsSpelledKey}
use Rattle.kmn_parser.proofs.Keys.{found, some-mapped}
use Rattle.decompile_program.specs.Items.{Names}
use Rattle.decompile_program.specs.WrittenOut.{has_key_name}
use Rattle.kmx_decompiler.specs.Causes.{is_far_mark, is_unspelled_element}
use Rattle.kmx_decompiler.specs.Written.{IsWrittenItem, IsWrittenStore, WasWritten}

beyond : (p : ℕ) → nat_lt (256 + p) 256 ≡ false
beyond p = grind (arith, nat_tests)

back : (p : ℕ) → 256 + p - 256 ≡ p
back p = omega arith

-- a key that is in the dictionary has a name
name-there : (keys : List (List ℕ)) (p : ℕ) (name : List ℕ) → slice_get keys p ≡ Some name → has_key_name keys (256 + p) ≡ true
name-there keys p name at =
    ap is_some
    (cond-false (nat_lt (256 + p) 256) (key_name (256 + p)) (name_in keys (256 + p)) (beyond p)
    ∙ cond-false (nat_lt (256 + p) 256) None (slice_get keys (256 + p - 256)) (beyond p)
    ∙ ap (slice_get keys) (back p)
    ∙ at)

own-named : (keys : List (List ℕ)) (name : List ℕ) → list_any (λ known. same_name known name) keys ≡ true → has_key_name keys (unwrap_or (code_in keys name) 0) ≡ true
unfolding code_in
own-named keys name h = by (place_in keys name) refl (ap is_some (place_either_way name keys) ∙ some_place (λ known. same_name known name) keys ∙ h)
  where
    by : (o : Option ℕ) → place_in keys name ≡ o → is_some o ≡ true → has_key_name keys (unwrap_or (option_map (λ place. 256 + place) o) 0) ≡ true
    by None is some = absurd (cc)
    by (Some p) is some = let first = first_place (same_name name) keys p is in name-there keys p first.item first.reads

-- a key of the table has a name, since the codes of the table are below 256
codes-small : list_all (λ row. nat_lt row.1 256) key_codes ≡ true
unfolding key_codes
codes-small = refl

table-named : (keys : List (List ℕ)) (code : ℕ) → is_some (key_name code) ≡ true → has_key_name keys code ≡ true
table-named keys code some =
    let here = found (λ (row : List ℕ × ℕ). nat_eq row.1 code) (λ (row : List ℕ × ℕ). nat_lt row.1 256) key_codes codes-small (some-mapped (λ (row : List ℕ × ℕ). row.0) (find (λ (row : List ℕ × ℕ). nat_eq row.1 code) key_codes) some) in
    let small : nat_lt code 256 ≡ true = subst (λ (n : ℕ). nat_lt n 256 ≡ true) (eqb-true here.row.1 code here.chosen) here.passes in
    ap is_some (cond-true (nat_lt code 256) (key_name code) (name_in keys code) small) ∙ some

not-far : (n : ℕ) → n ≤ DEADKEYS → is_far_mark n ≡ false
not-far n h = grind (arith, nat_tests, h)

neither : (a b : Bool) → a ≡ true → b ≡ true → (not a || not b) ≡ false
neither true true e f = refl
neither true false e f = absurd (cc)
neither false b e f = absurd (cc)

module _ (program : Program) (names : Names) (same : names.keys ≡ (names_of program).keys) where
  key_by : (key : KeyName) → IsSpelledKey key → (b : Bool) → nat_eq key.code 0 ≡ b → list_all (λ name. list_any (λ k. same_name k name) (names_of program).keys) (if b then key.name ∷ [] else []) ≡ true
      → has_key_name (names_of program).keys (if b then unwrap_or (code_in (names_of program).keys key.name) 0 else key.code) ≡ true
  key_by key ok true e among = own-named (names_of program).keys key.name (and_parts (list_any (λ k. same_name k key.name) (names_of program).keys) true among).0
  key_by key ok false e among = table-named (names_of program).keys key.code (ok.known (eqb-false key.code 0 e)).0

  -- a virtual key of a source has a name in the file
  pub key_named : (key : KeyName) → IsSpelledKey key → has_keys program (source.Key key) ≡ true → has_key_name names.keys (key_number (names_of program) key) ≡ true
  key_named key ok among =
      subst (λ (keys : List (List ℕ)). has_key_name keys (key_number (names_of program) key) ≡ true) (sym same) (key_by key ok (nat_eq key.code 0) refl among)

  -- an element that has a spelling
  abbrev pub IsFine : Element → Type 0
  IsFine e = is_unspelled_element names e ≡ false

  abbrev pub IsFineStore : Store → Type 0
  IsFineStore store = All IsFine store.elements

  pub characters_fine : (cs : List ℕ) → All IsFine (map element.Char cs)
  characters_fine [] = All-nil IsFine
  characters_fine (c ∷ cs) = All-cons IsFine (element.Char c) (map element.Char cs) refl (characters_fine cs)

  pub found_fine : (stores : List Store) → All IsFineStore stores → (name : List ℕ) → All IsFine (elements_named stores name)
  found_fine [] fine name = All-nil IsFine
  found_fine (s ∷ stores) fine name = by (same_name s.name name) (found_fine stores (All-tail IsFineStore s stores fine) name)
    where
      by : (b : Bool) → All IsFine (elements_named stores name) → All IsFine (store_elements (if b then Some s else find (λ (t : Store). same_name t.name name) stores))
      by true rest = All-head IsFineStore s stores fine
      by false rest = rest

  module _ (whole : IsUnrefused program) where
    pub mark_near : (name : List ℕ) → has_marks program (source.Dead name) ≡ true → is_far_mark (mark_number (names_of program) name) ≡ false
    mark_near name among =
        let there = (and_parts (list_any (λ k. same_name k name) (names_of program).marks) true among).0 in
        let below = place_below (λ known. same_name known name) (names_of program).marks (some_place (λ known. same_name known name) (names_of program).marks ∙ there) in
        let few = few_marks program whole in
        not-far (mark_number (names_of program) name) (omega (arith, below, few))

    item_fine : (before : List Store) → All IsFineStore before → (item : SrcItem) → IsWrittenItem item → has_keys program item ≡ true → has_marks program item ≡ true
        → All IsFine (item_elements (names_of program) before item)
    item_fine before fine (source.Char c) ok keys marks = All-cons IsFine (element.Char c) [] refl (All-nil IsFine)
    item_fine before fine (source.Dead name) ok keys marks = All-cons IsFine (element.Mark (mark_number (names_of program) name)) [] (mark_near name marks) (All-nil IsFine)
    item_fine before fine (source.Key key) ok keys marks =
        All-cons IsFine (element.Key key.flags (key_number (names_of program) key)) []
        (neither (has_key_name names.keys (key_number (names_of program) key)) (nat_eq (bit_and key.flags SHIFT_FLAGS) key.flags) (key_named key ok keys) (eq-eqb (bit_and key.flags SHIFT_FLAGS) key.flags ok.flags))
        (All-nil IsFine)
    item_fine before fine (source.Outs name) ok keys marks = found_fine before fine name
    item_fine before fine item ok keys marks = All-nil IsFine

    items_fine : (before : List Store) → All IsFineStore before → (items : List SrcItem) → All IsWrittenItem items → list_all (has_keys program) items ≡ true → list_all (has_marks program) items ≡ true
        → All IsFine (flat_map (item_elements (names_of program) before) items)
    items_fine before fine [] ok keys marks = All-nil IsFine
    items_fine before fine (item ∷ items) ok keys marks =
        let k = and_parts (has_keys program item) (list_all (has_keys program) items) keys in
        let m = and_parts (has_marks program item) (list_all (has_marks program) items) marks in
        All-append IsFine (item_elements (names_of program) before item) (flat_map (item_elements (names_of program) before) items)
        (item_fine before fine item (All-head IsWrittenItem item items ok) k.0 m.0) (items_fine before fine items (All-tail IsWrittenItem item items ok) k.1 m.1)

    abbrev all_pass : (SrcItem → Bool) → List StoreDef → Type 0
    all_pass test stores = list_all (λ (store : StoreDef). list_all test store.items) stores ≡ true

    stores_fine : (before : List Store) (stores : List StoreDef) → All IsFineStore before → All IsWrittenStore stores → all_pass (has_keys program) stores → all_pass (has_marks program) stores
        → All IsFineStore (stores_onto (names_of program) before stores)
    stores_fine before [] fine ok keys marks = fine
    stores_fine before (store ∷ stores) fine ok keys marks =
        let k = and_parts (list_all (has_keys program) store.items) (list_all (λ (s : StoreDef). list_all (has_keys program) s.items) stores) keys in
        let m = and_parts (list_all (has_marks program) store.items) (list_all (λ (s : StoreDef). list_all (has_marks program) s.items) stores) marks in
        let here = All-head IsWrittenStore store stores ok in
        stores_fine (if is_dropped store then before else before ++ store_of (names_of program) before store ∷ []) stores
        (by (is_dropped store) (items_fine before fine store.items here.items k.0 m.0))
        (All-tail IsWrittenStore store stores ok) k.1 m.1
      where
        by : (b : Bool) → IsFineStore (store_of (names_of program) before store) → All IsFineStore (if b then before else before ++ store_of (names_of program) before store ∷ [])
        by true one = fine
        by false one = All-append IsFineStore before (store_of (names_of program) before store ∷ []) fine (All-cons IsFineStore (store_of (names_of program) before store) [] one (All-nil IsFineStore))

    -- if a program was written as a source writes it, the elements of its stated stores have spellings
    pub stated_fine : WasWritten program → All IsFineStore (stores_of program)
    unfolding stores_of
    stated_fine written =
        stores_fine [] program.stores (All-nil IsFineStore) written.stores (store_items_pass (has_keys program) program (keys_appear program)) (store_items_pass (has_marks program) program (marks_appear program))
