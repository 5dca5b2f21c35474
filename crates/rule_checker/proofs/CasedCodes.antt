-- The cased codes that the checker computes are the codes of the keys among the elements of `&casedkeys`.
use Rattle.std.proofs.Common.{◌≡◌, ℕ, zero, suc, ◌+◌, ◌<◌, ◌≤◌, Bool, true, false, cond, List, [], ◌∷◌, ◌++◌, length, map, set, replicate, Option, Some, None, refl, sym, ap, subst, ◌∙◌, arith, if◌then◌else◌, append-nil, append_assoc}
use Rattle.std.specs.Prelude.{◌||◌, nat_eq, filter, find, flat_map, option_map, unwrap_or}
use Rattle.std.specs.List.{list_any}
use Rattle.std.specs.Option.{option_or}
use Rattle.std.proofs.lemmas.Bool.Decides.{nat_tests}
use Rattle.std.proofs.lemmas.List.{map-append, length-replicate}
use Rattle.std.proofs.lemmas.List.Elements.{filter-append, filter_map-append}
use Rattle.std.proofs.lemmas.List.Folds.{list_any-append, find-append}
use Rattle.std.proofs.Math.Bool.{or-false}
use Rattle.kmn_base.specs.declared.items.Element.{Element}
use Rattle.kmn_base.specs.Names.{same_name}
use Rattle.virtual_keys.specs.Dictionary.{place_in, code_in}
use Rattle.rule_model.specs.declared.program.SrcItem.{SrcItem}
use Rattle.rule_model.specs.declared.program.SrcItem.TheVariants as source
use Rattle.rule_model.specs.declared.program.KeyName.{KeyName}
use Rattle.rule_model.specs.declared.program.StoreDef.{StoreDef}
use Rattle.rule_model.specs.declared.program.Program.{Program}
use Rattle.rule_model.specs.declared.tables.Store.{Store}
use Rattle.rule_model.specs.Naming.{SourceNames, names_of, stores_of, stores_onto, store_of, is_dropped, item_elements, elements_named, key_number}
use Rattle.rule_model.specs.Src.{code_of_element, is_cased_keys, cased_keys, codes_among}
use Rattle.rule_model.specs.Tab.{store_elements}
use Rattle.item_checker.specs.Items.{needs_plain_keys}
use Rattle.rule_checker.specs.declared.key_codes.KeyCodes.{KeyCodes}
use Rattle.rule_checker.specs.declared.cased.StoreCodes.{StoreCodes}
use Rattle.rule_checker.specs.KeyCodes.{is_table_code, has_mark, has_code, no_codes, with_code, either_marks, joined}
use Rattle.rule_checker.specs.Cased.{codes_at, codes_named, with_item_codes, with_items_codes, with_store_codes, codes_from, no_stores, codes_of_cased}
use Rattle.virtual_keys.proofs.NamePlaces.{position_cons, same_either_way}

-- whether a code is among the codes of a list that are in the key table
abbrev pub is_among : List ℕ → ℕ → Bool
is_among codes code = list_any (nat_eq code) (filter is_table_code codes)

or_true : (b : Bool) → true ≡ (b || true)
or_true true = refl
or_true false = refl

not_this : (n : ℕ) → nat_eq (suc n) 0 ≡ false
not_this n = grind (arith, nat_tests)

nor_this : (n : ℕ) → nat_eq 0 (suc n) ≡ false
nor_this n = grind (arith, nat_tests)

both_next : (m n : ℕ) → nat_eq m n ≡ nat_eq (suc m) (suc n)
both_next m n = grind (arith, nat_tests)

-- an empty set has no code
no_mark : (n code : ℕ) → has_mark (replicate n false) code ≡ false
no_mark zero code = refl
no_mark (suc n) zero = refl
no_mark (suc n) (suc code) = no_mark n code

mark_put : (marks : List Bool) (n code : ℕ) → n < length marks → has_mark (set marks n true) code ≡ (has_mark marks code || nat_eq code n)
mark_put [] n code h = absurd (omega arith)
mark_put (m ∷ marks) zero zero h = or_true m
mark_put (m ∷ marks) zero (suc code) h = sym (ap (λ b. has_mark marks code || b) (not_this code) ∙ or-false (has_mark marks code))
mark_put (m ∷ marks) (suc n) zero h = sym (ap (λ b. m || b) (nor_this n) ∙ or-false m)
mark_put (m ∷ marks) (suc n) (suc code) h = mark_put marks n code (omega arith) ∙ ap (λ b. has_mark marks code || b) (both_next code n)

marks_joined : (marks others : List Bool) (code : ℕ) → length others ≤ length marks → has_mark (either_marks marks others) code ≡ (has_mark marks code || has_mark others code)
marks_joined [] [] code h = refl
marks_joined [] (o ∷ others) code h = absurd (omega arith)
marks_joined (m ∷ marks) [] code h = sym (or-false (has_mark (m ∷ marks) code))
marks_joined (m ∷ marks) (o ∷ others) zero h = refl
marks_joined (m ∷ marks) (o ∷ others) (suc code) h = marks_joined marks others code (omega arith)

joined_size : (marks others : List Bool) → length (either_marks marks others) ≡ length marks
joined_size [] others = refl
joined_size (m ∷ marks) [] = refl
joined_size (m ∷ marks) (o ∷ others) = omega (arith, joined_size marks others)

put_size : (marks : List Bool) (n : ℕ) → length (set marks n true) ≡ length marks
put_size [] n = refl
put_size (m ∷ marks) zero = refl
put_size (m ∷ marks) (suc n) = omega (arith, put_size marks n)

-- if a code is not in the key table, it is not among the codes of a list that are
pub other_code : (code : ℕ) (codes : List ℕ) → is_table_code code ≡ false → is_among codes code ≡ false
other_code code [] other = refl
other_code code (c ∷ codes) other = by (is_table_code c) (nat_eq code c) refl refl (other_code code codes other)
  where
    same_number : (a b : ℕ) → nat_eq b a ≡ true → a ≡ b
    same_number a b e = grind (arith, nat_tests)

    by : (table same : Bool) → is_table_code c ≡ table → nat_eq code c ≡ same → is_among codes code ≡ false
        → list_any (nat_eq code) (cond table (c ∷ filter is_table_code codes) (filter is_table_code codes)) ≡ false
    by false same t s rest = rest
    by true false t s rest = ap (λ b. b || is_among codes code) s ∙ rest
    by true true t s rest = let impossible : true ≡ false = sym t ∙ ap is_table_code (same_number c code s) ∙ other in absurd (cc)

-- the code of a custom key is not in the key table, in a source and as an element
no_own_code : (place : Option ℕ) → is_table_code (unwrap_or (option_map (λ p. 256 + p) place) 0) ≡ false
no_own_code None = refl
no_own_code (Some p) = grind (arith, nat_tests)

zero_code : (code : ℕ) → nat_eq code 0 ≡ true → is_table_code code ≡ false
zero_code code e = grind (arith, nat_tests)

pub number_is_among : (names : SourceNames) (key : KeyName) (codes : List ℕ) → is_among codes (key_number names key) ≡ is_among codes key.code
unfolding code_in
number_is_among names key codes = by (nat_eq key.code 0) refl
  where
    by : (own : Bool) → nat_eq key.code 0 ≡ own → is_among codes (if own then unwrap_or (code_in names.keys key.name) 0 else key.code) ≡ is_among codes key.code
    by true e = other_code (unwrap_or (code_in names.keys key.name) 0) codes (no_own_code (place_in names.keys key.name)) ∙ sym (other_code key.code codes (zero_code key.code e))
    by false e = refl

not_among_other : (other code : ℕ) → is_table_code other ≡ false → is_among (other ∷ []) code ≡ false
not_among_other other code e = ap (λ b. list_any (nat_eq code) (cond b (other ∷ []) [])) e

among_number : (names : SourceNames) (key : KeyName) (code : ℕ) → is_among (key.code ∷ []) code ≡ is_among (key_number names key ∷ []) code
unfolding code_in
among_number names key code = by (nat_eq key.code 0) refl
  where
    by : (own : Bool) → nat_eq key.code 0 ≡ own → is_among (key.code ∷ []) code ≡ is_among ((if own then unwrap_or (code_in names.keys key.name) 0 else key.code) ∷ []) code
    by true e = not_among_other key.code code (zero_code key.code e) ∙ sym (not_among_other (unwrap_or (code_in names.keys key.name) 0) code (no_own_code (place_in names.keys key.name)))
    by false e = refl

among_more : (codes more : List ℕ) (code : ℕ) → is_among (codes ++ more) code ≡ (is_among codes code || is_among more code)
among_more codes more code =
    ap (list_any (nat_eq code)) (filter-append is_table_code codes more)
    ∙ list_any-append (nat_eq code) (filter is_table_code codes) (filter is_table_code more)

code_added : (codes : KeyCodes) (c code : ℕ) → length codes.marks ≡ 256 → has_code (with_code codes c) code ≡ (has_code codes code || is_among (c ∷ []) code)
code_added codes c code size = by (is_table_code c) refl
  where
    below : is_table_code c ≡ true → c < length codes.marks
    below t = let small : c < 256 = grind (arith, nat_tests) in omega (arith, small, size)

    by : (table : Bool) → is_table_code c ≡ table
        → has_mark (if table then set codes.marks c true else codes.marks) code ≡ (has_code codes code || list_any (nat_eq code) (cond table (c ∷ []) []))
    by true t = mark_put codes.marks c code (below t) ∙ ap (λ b. has_code codes code || b) (sym (or-false (nat_eq code c)))
    by false t = sym (or-false (has_code codes code))

added_size : (codes : KeyCodes) (c : ℕ) → length (with_code codes c).marks ≡ length codes.marks
added_size codes c = by (is_table_code c)
  where
    by : (table : Bool) → length (if table then set codes.marks c true else codes.marks) ≡ length codes.marks
    by true = put_size codes.marks c
    by false = refl

-- whether a set has the codes of the keys among elements
pub record AreCodes (codes : KeyCodes) (elements : List Element) : Type 0 where
  pub size : length codes.marks ≡ 256
  pub each : (code : ℕ) → has_code codes code ≡ is_among (codes_among elements) code

none_are : AreCodes no_codes []
unfolding no_codes
none_are = record { size = length-replicate 256 false; each = no_mark 256 }

-- if a set grows by the codes of further elements, it has the codes of all elements
grown : (codes now : KeyCodes) (elements more : List Element) → AreCodes codes elements → length now.marks ≡ length codes.marks
    → ((code : ℕ) → has_code now code ≡ (has_code codes code || is_among (codes_among more) code)) → AreCodes now (elements ++ more)
grown codes now elements more are size each = record {
  size = size ∙ are.size;
  each = λ code.
      each code ∙ ap (λ b. b || is_among (codes_among more) code) (are.each code)
      ∙ sym (ap (λ cs. is_among cs code) (filter_map-append code_of_element elements more) ∙ among_more (codes_among elements) (codes_among more) code);
}

-- the sets of stores
abbrev Each : List KeyCodes → List Store → Type 0
Each [] [] = Unit {0}
Each [] (s ∷ stores) = ⊥
Each (c ∷ codes) [] = ⊥
Each (c ∷ codes) (s ∷ stores) = AreCodes c s.elements × Each codes stores

record AreStoreCodes (before : StoreCodes) (stores : List Store) : Type 0 where
  names : before.names ≡ map (λ (s : Store). s.name) stores
  each : Each before.codes stores

each_push : (codes : List KeyCodes) (stores : List Store) (c : KeyCodes) (s : Store) → Each codes stores → AreCodes c s.elements → Each (codes ++ c ∷ []) (stores ++ s ∷ [])
each_push [] [] c s are is = (is, tt)
each_push [] (t ∷ stores) c s are is = absurd are
each_push (d ∷ codes) [] c s are is = absurd are
each_push (d ∷ codes) (t ∷ stores) c s are is = (are.0, each_push codes stores c s are.1 is)

codes_later : (here : Bool) (c : KeyCodes) (s : Store) (codes : List KeyCodes) (place : Option ℕ) (found : Option Store) → AreCodes c s.elements
    → AreCodes (codes_at codes place) (store_elements found)
    → AreCodes (codes_at (c ∷ codes) (cond here (Some 0) (option_map suc place))) (store_elements (cond here (Some s) found))
codes_later true c s codes place found is later = is
codes_later false c s codes None found is later = later
codes_later false c s codes (Some n) found is later = later

found_codes : (codes : List KeyCodes) (stores : List Store) (name : List ℕ) → Each codes stores
    → AreCodes (codes_at codes (place_in (map (λ (s : Store). s.name) stores) name)) (store_elements (find (λ (s : Store). same_name s.name name) stores))
found_codes [] [] name are = none_are
found_codes [] (s ∷ stores) name are = absurd are
found_codes (c ∷ codes) [] name are = absurd are
found_codes (c ∷ codes) (s ∷ stores) name are =
    let place : place_in (map (λ (t : Store). t.name) (s ∷ stores)) name ≡ cond (same_name s.name name) (Some 0) (option_map suc (place_in (map (λ (t : Store). t.name) stores) name)) =
    position_cons (same_name name) s.name (map (λ (t : Store). t.name) stores) ∙ ap (λ b. cond b (Some 0) (option_map suc (place_in (map (λ (t : Store). t.name) stores) name))) (same_either_way name s.name) in
    subst (λ (o : Option ℕ). AreCodes (codes_at (c ∷ codes) o) (store_elements (find (λ (t : Store). same_name t.name name) (s ∷ stores)))) (sym place)
    (codes_later (same_name s.name name) c s codes (place_in (map (λ (t : Store). t.name) stores) name) (find (λ (t : Store). same_name t.name name) stores) are.0 (found_codes codes stores name are.1))

named_codes : (before : StoreCodes) (stores : List Store) (name : List ℕ) → AreStoreCodes before stores → AreCodes (codes_named before name) (elements_named stores name)
named_codes before stores name are =
    subst (λ (names : List (List ℕ)). AreCodes (codes_at before.codes (place_in names name)) (elements_named stores name)) (sym are.names) (found_codes before.codes stores name are.each)

-- one item more, and all items of a store
nothing_more : (codes : KeyCodes) (code : ℕ) → has_code codes code ≡ (has_code codes code || false)
nothing_more codes code = sym (or-false (has_code codes code))

item_codes : (names : SourceNames) (before : StoreCodes) (stores : List Store) → AreStoreCodes before stores → (codes : KeyCodes) (elements : List Element) (item : SrcItem)
    → AreCodes codes elements → AreCodes (with_item_codes before codes item) (elements ++ item_elements names stores item)
item_codes names before stores named codes elements (source.Char c) are = grown codes codes elements (item_elements names stores (source.Char c)) are refl (nothing_more codes)
item_codes names before stores named codes elements (source.Dead name) are = grown codes codes elements (item_elements names stores (source.Dead name)) are refl (nothing_more codes)
item_codes names before stores named codes elements (source.Key key) are =
    grown codes (with_code codes key.code) elements (item_elements names stores (source.Key key)) are (added_size codes key.code)
    (λ code. code_added codes key.code code are.size ∙ ap (λ b. has_code codes code || b) (among_number names key code))
item_codes names before stores named codes elements (source.Outs name) are =
    let others = named_codes before stores name named in
    grown codes (joined codes (codes_named before name)) elements (elements_named stores name) are (joined_size codes.marks (codes_named before name).marks)
    (λ code. marks_joined codes.marks (codes_named before name).marks code (omega (arith, are.size, others.size)) ∙ ap (λ b. has_code codes code || b) (others.each code))
item_codes names before stores named codes elements item are = grown codes codes elements [] are refl (nothing_more codes)

items_codes : (names : SourceNames) (before : StoreCodes) (stores : List Store) → AreStoreCodes before stores → (codes : KeyCodes) (elements : List Element) (items : List SrcItem)
    → AreCodes codes elements → AreCodes (with_items_codes before codes items) (elements ++ flat_map (item_elements names stores) items)
items_codes names before stores named codes elements [] are = subst (AreCodes codes) (sym (append-nil elements)) are
items_codes names before stores named codes elements (item ∷ items) are =
    subst (AreCodes (with_items_codes before (with_item_codes before codes item) items)) (append_assoc elements (item_elements names stores item) (flat_map (item_elements names stores) items))
    (items_codes names before stores named (with_item_codes before codes item) (elements ++ item_elements names stores item) items (item_codes names before stores named codes elements item are))

store_codes : (names : SourceNames) (before : StoreCodes) (stores : List Store) (store : StoreDef) → AreStoreCodes before stores
    → AreCodes (with_items_codes before no_codes store.items) (store_of names stores store).elements
store_codes names before stores store named = items_codes names before stores named no_codes [] store.items none_are

-- one store more
abbrev stores_with : SourceNames → List Store → StoreDef → List Store
stores_with names stores store = if is_dropped store then stores else stores ++ store_of names stores store ∷ []

next_codes : (names : SourceNames) (before : StoreCodes) (stores : List Store) (store : StoreDef) → AreStoreCodes before stores
    → AreStoreCodes (with_store_codes before store) (stores_with names stores store)
next_codes names before stores store named = by (is_dropped store)
  where
    by : (dropped : Bool) → AreStoreCodes (if dropped then before else record { names = before.names ++ store.name ∷ []; codes = before.codes ++ with_items_codes before no_codes store.items ∷ [] })
        (if dropped then stores else stores ++ store_of names stores store ∷ [])
    by true = named
    by false = record {
      names = (λ j. named.names j ++ store.name ∷ []) ∙ sym (map-append (λ (s : Store). s.name) stores (store_of names stores store ∷ []));
      each = each_push before.codes stores (with_items_codes before no_codes store.items) (store_of names stores store) named.each (store_codes names before stores store named);
    }

-- where the first of `&casedkeys` is
found_onto : (names : SourceNames) (stores : List Store) (defs : List StoreDef) (s : Store) → find is_cased_keys stores ≡ Some s → find is_cased_keys (stores_onto names stores defs) ≡ Some s
found_onto names stores [] s is = is
found_onto names stores (store ∷ defs) s is = found_onto names (stores_with names stores store) defs s (by (is_dropped store))
  where
    by : (dropped : Bool) → find is_cased_keys (if dropped then stores else stores ++ store_of names stores store ∷ []) ≡ Some s
    by true = is
    by false = find-append is_cased_keys stores (store_of names stores store ∷ []) ∙ ap (λ o. option_or o (find is_cased_keys (store_of names stores store ∷ []))) is

none_found : (stores : List Store) → list_any is_cased_keys stores ≡ false → find is_cased_keys stores ≡ None
none_found [] none = refl
none_found (s ∷ stores) none = by (is_cased_keys s) none (none_found stores)
  where
    by : (here : Bool) → (here || list_any is_cased_keys stores) ≡ false → (list_any is_cased_keys stores ≡ false → find is_cased_keys stores ≡ None)
        → cond here (Some s) (find is_cased_keys stores) ≡ None
    by true h rest = absurd (cc)
    by false h rest = rest h

still_none : (names : SourceNames) (stores : List Store) (store : StoreDef) → list_any is_cased_keys stores ≡ false → needs_plain_keys store ≡ false → list_any is_cased_keys (stores_with names stores store) ≡ false
still_none names stores store none other = by (is_dropped store)
  where
    by : (dropped : Bool) → list_any is_cased_keys (if dropped then stores else stores ++ store_of names stores store ∷ []) ≡ false
    by true = none
    by false = list_any-append is_cased_keys stores (store_of names stores store ∷ []) ∙ (λ j. none j || (other j || false))

-- a statement of `&casedkeys` is a store
kept : (store : StoreDef) → needs_plain_keys store ≡ true → is_dropped store ≡ false
kept store here = grind (arith, nat_tests)

found_here : (names : SourceNames) (stores : List Store) (store : StoreDef) → list_any is_cased_keys stores ≡ false → needs_plain_keys store ≡ true
    → find is_cased_keys (stores_with names stores store) ≡ Some (store_of names stores store)
found_here names stores store none here =
    ap (λ b. find is_cased_keys (if b then stores else stores ++ store_of names stores store ∷ [])) (kept store here)
    ∙ find-append is_cased_keys stores (store_of names stores store ∷ [])
    ∙ ap (λ o. option_or o (find is_cased_keys (store_of names stores store ∷ []))) (none_found stores none)
    ∙ ap (λ b. cond b (Some (store_of names stores store)) None) here

codes_from_are : (names : SourceNames) (before : StoreCodes) (stores : List Store) (defs : List StoreDef) → AreStoreCodes before stores → list_any is_cased_keys stores ≡ false
    → AreCodes (codes_from before defs) (store_elements (find is_cased_keys (stores_onto names stores defs)))
codes_from_are names before stores [] named none = subst (λ (o : Option Store). AreCodes no_codes (store_elements o)) (sym (none_found stores none)) none_are
codes_from_are names before stores (store ∷ defs) named none =
    by (needs_plain_keys store) refl (codes_from_are names (with_store_codes before store) (stores_with names stores store) defs (next_codes names before stores store named))
  where
    by : (here : Bool) → needs_plain_keys store ≡ here
        → (list_any is_cased_keys (stores_with names stores store) ≡ false → AreCodes (codes_from (with_store_codes before store) defs) (store_elements (find is_cased_keys (stores_onto names stores (store ∷ defs)))))
        → AreCodes (if here then with_items_codes before no_codes store.items else codes_from (with_store_codes before store) defs) (store_elements (find is_cased_keys (stores_onto names stores (store ∷ defs))))
    by true here rest =
        subst (λ (o : Option Store). AreCodes (with_items_codes before no_codes store.items) (store_elements o))
        (sym (found_onto names (stores_with names stores store) defs (store_of names stores store) (found_here names stores store none here)))
        (store_codes names before stores store named)
    by false other rest = rest (still_none names stores store none other)

uncased : (before : StoreCodes) (defs : List StoreDef) → list_any needs_plain_keys defs ≡ false → codes_from before defs ≡ no_codes
uncased before [] none = refl
uncased before (store ∷ defs) none = by (needs_plain_keys store) none (uncased (with_store_codes before store) defs)
  where
    by : (here : Bool) → (here || list_any needs_plain_keys defs) ≡ false → (list_any needs_plain_keys defs ≡ false → codes_from (with_store_codes before store) defs ≡ no_codes)
        → (if here then with_items_codes before no_codes store.items else codes_from (with_store_codes before store) defs) ≡ no_codes
    by true h rest = absurd (cc)
    by false h rest = rest h

-- the cased codes of a program are the codes of the keys among the elements of its first `&casedkeys`
found_for : (program : Program) → AreCodes (codes_of_cased program.stores) (store_elements (find is_cased_keys (stores_of program)))
unfolding stores_of
found_for program = by (list_any needs_plain_keys program.stores) refl (codes_from_are (names_of program) no_stores [] program.stores (record { names = refl; each = tt }) refl)
  where
    by : (some : Bool) → list_any needs_plain_keys program.stores ≡ some → AreCodes (codes_from no_stores program.stores) (store_elements (find is_cased_keys (stores_of program)))
        → AreCodes (if some then codes_from no_stores program.stores else no_codes) (store_elements (find is_cased_keys (stores_of program)))
    by true some are = are
    by false none are = subst (λ (codes : KeyCodes). AreCodes codes (store_elements (find is_cased_keys (stores_of program)))) (uncased no_stores program.stores none) are

pub program_codes : (program : Program) (code : ℕ) → has_code (codes_of_cased program.stores) code ≡ is_among (cased_keys program) code
unfolding cased_keys
program_codes program = (found_for program).each
