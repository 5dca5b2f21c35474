-- The items that a context catches if it holds are within the ranges of its places.
use Rattle.std.proofs.Common.{◌≡◌, ℕ, zero, suc, ◌+◌, Bool, true, false, not, ◌||◌, List, [], ◌∷◌, ◌++◌, map, drop, Option, Some, None, refl, sym, ap, ◌∙◌, subst, arith, inl, inr, if◌then◌else◌}
use Rattle.std.specs.Prelude.{filter_map, slice_get, unwrap_or, is_some, option_and_then}
use Rattle.std.specs.List.{list_any, cons_option}
use Rattle.std.proofs.lemmas.Bool.{cases_Bool, cond-true, cond-false, eqb-true}
use Rattle.std.proofs.lemmas.Bool.Decides.{nat_tests}
use Rattle.kmn_base.specs.declared.items.Item.{Item}
use Rattle.kmn_base.specs.declared.items.Item.TheVariants as item
use Rattle.kmn_base.specs.declared.items.Element.{Element}
use Rattle.kmn_base.specs.declared.items.Element.TheVariants as element
use Rattle.rule_model.specs.declared.event_state.Catch.{Catch}
use Rattle.rule_model.specs.declared.tables.Pat.{Pat}
use Rattle.rule_model.specs.declared.tables.Pat.TheVariants as pattern
use Rattle.rule_model.specs.declared.tables.Store.{Store}
use Rattle.rule_model.specs.declared.tables.Tables.{Tables}
use Rattle.rule_model.specs.Keyboard.{Numbered}
use Rattle.rule_model.specs.Content.{content, option_number, option_of, options_before, elements_of_store}
use Rattle.rule_model.specs.Match.{is_item, same_item, item_of, item_caught, place_caught, element_at, is_element, is_same, place_of, place_for, takes_item, matches, nothing_caught, catch_item, catches_from}
use Rattle.rule_model.specs.Tab.{tab, tab_options, tab_pattern, with_options, elements_of}
use Rattle.rule_model.specs.System.{system_options}
use Rattle.rule_model.proofs.PlainOptions.{content_of_other}
use Rattle.virtual_keys.proofs.NamePlaces.{some_place}
use Rattle.rule_model.specs.Patterns.{is_matched}
use Rattle.rule_shadow.specs.declared.cert.Range.{Range}
use Rattle.rule_shadow.specs.declared.cert.Range.TheVariants as range
use Rattle.rule_shadow.specs.declared.cert.Place.{Place}
use Rattle.rule_shadow.specs.Places.{is_fixed, items_of, Narrowing, first_given, store_range, range_at, stated_range, range_of, places_from}

-- if `same_item` is true for two items, they are equal
pub same_is : (x y : Item) → same_item x y ≡ true → x ≡ y
same_is (item.Char c) (item.Char d) e = ap item.Char (eqb-true c d e)
same_is (item.Char c) (item.Mark m) e = let absurd_case : false ≡ true = e in cc
same_is (item.Mark m) (item.Char c) e = let absurd_case : false ≡ true = e in cc
same_is (item.Mark m) (item.Mark n) e = ap item.Mark (eqb-true m n e)

-- if an element is the same as an item, it represents the item
stands_for : (x : Item) (e : Element) → is_item x e ≡ true → item_of e ≡ Some x
stands_for (item.Char c) (element.Char d) h = ap (λ n. Some (item.Char n)) (sym (eqb-true c d h))
stands_for (item.Char c) (element.Mark m) h = let absurd_case : false ≡ true = h in cc
stands_for (item.Char c) (element.Key f k) h = let absurd_case : false ≡ true = h in cc
stands_for (item.Mark m) (element.Char d) h = let absurd_case : false ≡ true = h in cc
stands_for (item.Mark m) (element.Mark n) h = ap (λ n. Some (item.Mark n)) (sym (eqb-true m n h))
stands_for (item.Mark m) (element.Key f k) h = let absurd_case : false ≡ true = h in cc

same_self : (x : Item) → same_item x x ≡ true
same_self (item.Char c) = grind (arith, nat_tests)
same_self (item.Mark m) = grind (arith, nat_tests)

more_items : (x : Item) (o : Option Item) (es : List Item) → list_any (same_item x) es ≡ true → list_any (same_item x) (cons_option o es) ≡ true
more_items x None es h = h
more_items x (Some y) es h = elim (cases_Bool (same_item x y)) [
  | inl same ↦ ap (λ b. b || list_any (same_item x) es) same
  | inr other ↦ ap (λ b. b || list_any (same_item x) es) other ∙ h
]

-- if an item is the same as some element, it is among the items of the elements
pub among_items : (x : Item) (es : List Element) → list_any (is_item x) es ≡ true → list_any (same_item x) (filter_map item_of es) ≡ true
among_items x [] h = h
among_items x (e ∷ es) h = elim (cases_Bool (is_item x e)) [
  | inl same ↦
      subst (λ (o : Option Item). list_any (same_item x) (cons_option o (filter_map item_of es)) ≡ true) (sym (stands_for x e same))
      (ap (λ b. b || list_any (same_item x) (filter_map item_of es)) (same_self x))
  | inr other ↦ more_items x (item_of e) (filter_map item_of es) (among_items x es (sym (ap (λ b. b || list_any (is_item x) es) other) ∙ h))
]

-- an option without a value is `None`, so a store that is not an option has its elements in every state
none_some : {X : Type 0} (o : Option X) → not (is_some o) ≡ true → o ≡ None
none_some None h = refl
none_some (Some x) h = let absurd_case : false ≡ true = h in cc

-- if a store is not an option, its content is its elements; the numbers after the stores are the system options, which are options
fixed_elements : (options : List ℕ) (k n o : ℕ) (stores : List Store) → option_of o (slice_get (with_options options k stores ++ system_options) n) ≡ None
    → elements_of_store (slice_get (with_options options k stores ++ system_options) n) ≡ elements_of stores n
fixed_elements options k zero o [] h = cc
fixed_elements options k (suc zero) o [] h = cc
fixed_elements options k (suc (suc n)) o [] h = refl
fixed_elements options k zero o (s ∷ ss) h = refl
fixed_elements options k (suc n) o (s ∷ ss) h = fixed_elements options (k + 1) n o ss h

pub fixed_content : (tables : Tables) (store : ℕ) (values : List (List Element)) → is_fixed tables store ≡ true → content (tab tables).stores values (Numbered store) ≡ elements_of tables.stores store
unfolding tab
fixed_content tables store values h =
    let other = none_some (option_number (tab tables).stores (Numbered store)) h in
    content_of_other values (options_before store (tab tables).stores) (slice_get (tab tables).stores store) other
    ∙ fixed_elements (tab_options tables) 0 store (options_before store (tab tables).stores) tables.stores other

-- a pattern takes an item exactly where `is_matched` is true for it
pub takes_matched : (stores : List Store) (p : Pat) → takes_item (tab_pattern stores p) ≡ is_matched p
takes_matched stores (pattern.Char c) = refl
takes_matched stores (pattern.Mark m) = refl
takes_matched stores (pattern.Any store) = refl
takes_matched stores (pattern.NotAny store) = refl
takes_matched stores (pattern.Index store offset) = refl
takes_matched stores (pattern.ContextAt offset) = refl
takes_matched stores (pattern.Equal s v) = refl
takes_matched stores (pattern.Unequal s v) = refl
takes_matched stores (pattern.SystemEqual s v) = refl
takes_matched stores (pattern.SystemUnequal s v) = refl
takes_matched stores pattern.Nul = refl

module _ (tables : Tables) (values : List (List Element)) where
  -- an item is within a range
  abbrev pub IsWithin : Range → Item → Type 0
  IsWithin (range.One y) x = x ≡ y
  IsWithin (range.Store store) x = list_any (same_item x) (items_of tables store) ≡ true
  IsWithin range.Unknown x = Unit {0}

  -- if an item of a context caught an item, the caught item is within the range
  abbrev pub IsCaughtWithin : Range → Option Item → Type 0
  IsCaughtWithin r None = Unit {0}
  IsCaughtWithin r (Some x) = IsWithin r x

  abbrev pub AreCaughtWithin : List Range → List Catch → Type 0
  AreCaughtWithin [] [] = Unit {0}
  AreCaughtWithin [] (c ∷ cs) = ⊥
  AreCaughtWithin (r ∷ rs) [] = ⊥
  AreCaughtWithin (r ∷ rs) (c ∷ cs) = IsCaughtWithin r c.item × AreCaughtWithin rs cs

  one_more_caught : (rs : List Range) (cs : List Catch) (r : Range) (c : Catch) → AreCaughtWithin rs cs → IsCaughtWithin r c.item → AreCaughtWithin (rs ++ r ∷ []) (cs ++ c ∷ [])
  one_more_caught [] [] r c h k = (k, tt)
  one_more_caught [] (d ∷ cs) r c h k = absurd h
  one_more_caught (s ∷ rs) [] r c h k = absurd h
  one_more_caught (s ∷ rs) (d ∷ cs) r c h k = (h.0, one_more_caught rs cs r c h.1 k)

  -- an item that was caught before is within the range at its position
  caught_at : (rs : List Range) (cs : List Catch) (n : ℕ) (x : Item) → AreCaughtWithin rs cs → option_and_then (λ (c : Catch). c.item) (slice_get cs n) ≡ Some x → IsWithin (unwrap_or (slice_get rs n) range.Unknown) x
  caught_at [] [] n x h e = let absurd_case : None ≡ Some x = e in cc
  caught_at [] (c ∷ cs) n x h e = absurd h
  caught_at (r ∷ rs) [] n x h e = absurd h
  caught_at (r ∷ rs) (c ∷ cs) zero x h e = subst (IsCaughtWithin r) e h.0
  caught_at (r ∷ rs) (c ∷ cs) (suc n) x h e = caught_at rs cs n x h.1 e

  pub any_within : (store : ℕ) (x : Item) → list_any (is_item x) (content (tab tables).stores values (Numbered store)) ≡ true → IsWithin (store_range tables store) x
  any_within store x h = elim (cases_Bool (is_fixed tables store)) [
    | inl fixed ↦ subst (λ (b : Bool). IsWithin (if b then range.Store store else range.Unknown) x) (sym fixed)
        (among_items x (elements_of tables.stores store) (ap (list_any (is_item x)) (sym (fixed_content tables store values fixed)) ∙ h))
    | inr other ↦ subst (λ (b : Bool). IsWithin (if b then range.Store store else range.Unknown) x) (sym other) tt
  ]

  at_place_any : (x : Item) (es : List Element) (place : ℕ) → is_element x (slice_get es place) ≡ true → list_any (is_item x) es ≡ true
  at_place_any x [] place h = let absurd_case : false ≡ true = h in cc
  at_place_any x (e ∷ es) zero h = ap (λ b. b || list_any (is_item x) es) h
  at_place_any x (e ∷ es) (suc place) h = elim (cases_Bool (is_item x e)) [
    | inl same ↦ ap (λ b. b || list_any (is_item x) es) same
    | inr other ↦ ap (λ b. b || list_any (is_item x) es) other ∙ at_place_any x es place h
  ]

  element_any : (x : Item) (es : List Element) (place : Option ℕ) → is_element x (element_at es place) ≡ true → list_any (is_item x) es ≡ true
  element_any x es None h = let absurd_case : false ≡ true = h in cc
  element_any x es (Some place) h = at_place_any x es place h

  item_same : (x : Item) (o : Option Item) → is_same x o ≡ true → o ≡ Some x
  item_same x None h = let absurd_case : false ≡ true = h in cc
  item_same x (Some y) h = ap Some (sym (same_is x y h))

  context_within : (rs : List Range) (cs : List Catch) (offset : ℕ) (x : Item) → AreCaughtWithin rs cs → item_caught cs offset ≡ Some x → IsWithin (range_at rs offset) x
  context_within rs cs zero x h e = let absurd_case : None ≡ Some x = e in cc
  context_within rs cs (suc n) x h e = caught_at rs cs n x h e

  char_is : (x : Item) (c : ℕ) → is_item x (element.Char c) ≡ true → x ≡ item.Char c
  char_is (item.Char d) c e = ap item.Char (eqb-true d c e)
  char_is (item.Mark m) c e = let absurd_case : false ≡ true = e in cc

  mark_is : (x : Item) (m : ℕ) → is_item x (element.Mark m) ≡ true → x ≡ item.Mark m
  mark_is (item.Char d) c e = let absurd_case : false ≡ true = e in cc
  mark_is (item.Mark n) m e = ap item.Mark (eqb-true n m e)

  -- if a pattern matches an item, the item is within the range that the pattern states
  stated_within : (rs : List Range) (cs : List Catch) (p : Pat) (x : Item) → AreCaughtWithin rs cs
      → matches (content (tab tables).stores values) cs (tab_pattern tables.stores p) x ≡ true → IsWithin (stated_range tables rs p) x
  stated_within rs cs (pattern.Char c) x h e = char_is x c e
  stated_within rs cs (pattern.Mark m) x h e = mark_is x m e
  stated_within rs cs (pattern.Any store) x h e = any_within store x (sym (some_place (is_item x) (content (tab tables).stores values (Numbered store))) ∙ e)
  stated_within rs cs (pattern.NotAny store) x h e = tt
  stated_within rs cs (pattern.Index store offset) x h e = any_within store x (element_any x (content (tab tables).stores values (Numbered store)) (place_caught cs offset) e)
  stated_within rs cs (pattern.ContextAt offset) x h e = context_within rs cs offset x h (item_same x (item_caught cs offset) e)
  stated_within rs cs (pattern.Equal s v) x h e = tt
  stated_within rs cs (pattern.Unequal s v) x h e = tt
  stated_within rs cs (pattern.SystemEqual s v) x h e = tt
  stated_within rs cs (pattern.SystemUnequal s v) x h e = tt
  stated_within rs cs pattern.Nul x h e = tt

  -- an item is the one to which its place is narrowed, if the place is narrowed
  abbrev pub IsGiven : Option Item → Item → Type 0
  IsGiven None x = Unit {0}
  IsGiven (Some y) x = x ≡ y

  range_within : (rs : List Range) (cs : List Catch) (given : Option Item) (p : Pat) (x : Item) → AreCaughtWithin rs cs → IsGiven given x
      → matches (content (tab tables).stores values) cs (tab_pattern tables.stores p) x ≡ true → IsWithin (range_of tables rs given p) x
  range_within rs cs None p x h k e = stated_within rs cs p x h e
  range_within rs cs (Some y) p x h k e = k

  -- the items of a text are those to which their places are narrowed
  abbrev pub Agrees : Narrowing → List Item → Type 0
  Agrees [] text = Unit {0}
  Agrees (given ∷ narrowing) [] = Unit {0}
  Agrees (given ∷ narrowing) (x ∷ text) = IsGiven given x × Agrees narrowing text

  first_agrees : (narrowing : Narrowing) (x : Item) (text : List Item) → Agrees narrowing (x ∷ text) → IsGiven (first_given narrowing) x
  first_agrees [] x text h = tt
  first_agrees (given ∷ narrowing) x text h = h.0

  rest_agrees : (narrowing : Narrowing) (x : Item) (text : List Item) → Agrees narrowing (x ∷ text) → Agrees (drop 1 narrowing) text
  rest_agrees [] x text h = tt
  rest_agrees (given ∷ narrowing) x text h = h.1

  -- an item matches an `any` or a `notany` in this state; other patterns allow each item
  abbrev pub IsMet : Pat → Item → Type 0
  IsMet (pattern.Any store) x = is_some (place_of x (content (tab tables).stores values (Numbered store))) ≡ true
  IsMet (pattern.NotAny store) x = not (is_some (place_of x (content (tab tables).stores values (Numbered store)))) ≡ true
  IsMet p x = Unit {0}

  met : (cs : List Catch) (p : Pat) (x : Item) → matches (content (tab tables).stores values) cs (tab_pattern tables.stores p) x ≡ true → IsMet p x
  met cs (pattern.Char c) x e = tt
  met cs (pattern.Mark m) x e = tt
  met cs (pattern.Any store) x e = e
  met cs (pattern.NotAny store) x e = e
  met cs (pattern.Index store offset) x e = tt
  met cs (pattern.ContextAt offset) x e = tt
  met cs (pattern.Equal s v) x e = tt
  met cs (pattern.Unequal s v) x e = tt
  met cs (pattern.SystemEqual s v) x e = tt
  met cs (pattern.SystemUnequal s v) x e = tt
  met cs pattern.Nul x e = tt

  -- the items of a text are within the ranges of the places and match their patterns
  abbrev pub AreAt : List Place → List Item → Type 0
  AreAt [] [] = Unit {0}
  AreAt [] (x ∷ text) = ⊥
  AreAt (place ∷ places) [] = ⊥
  AreAt (place ∷ places) (x ∷ text) = IsWithin place.range x × IsMet place.pattern x × AreAt places text

  abbrev now : List Catch → Pat → Item → Bool
  now cs p x = matches (content (tab tables).stores values) cs (tab_pattern tables.stores p) x

  -- the items that a context catches are at its places, given what was caught before
  abbrev Stands : List Pat → Type 0
  Stands context =
      (narrowing : Narrowing) (rs : List Range) (cs : List Catch) (text : List Item) (r : List Catch) → AreCaughtWithin rs cs → Agrees narrowing text
      → catches_from (content (tab tables).stores values) cs (map (tab_pattern tables.stores) context) text ≡ Some r → AreAt (places_from tables narrowing rs context) text

  abbrev rest_caught : List Pat → List Catch → Catch → List Item → Option (List Catch)
  rest_caught context cs catch text = catches_from (content (tab tables).stores values) (cs ++ catch ∷ []) (map (tab_pattern tables.stores) context) text

  pattern_stands : (p : Pat) (context : List Pat) → Stands context → (narrowing : Narrowing) (rs : List Range) (cs : List Catch) (text : List Item) (r : List Catch)
      → AreCaughtWithin rs cs → Agrees narrowing text
      → catch_item (content (tab tables).stores values) cs (tab_pattern tables.stores p) (rest_caught context cs) text ≡ Some r
      → AreAt (record { pattern = p; range = range_of tables rs (first_given narrowing) p } ∷ places_from tables (drop 1 narrowing) (rs ++ range_of tables rs (first_given narrowing) p ∷ []) context) text
  pattern_stands p context stand narrowing rs cs [] r h a e = let absurd_case : None ≡ Some r = e in cc
  pattern_stands p context stand narrowing rs cs (x ∷ text) r h a e =
      let catch : Catch = record { item = Some x; place = place_for (content (tab tables).stores values) (tab_pattern tables.stores p) x } in
      elim (cases_Bool (now cs p x)) [
        | inl yes_x ↦
            let within = range_within rs cs (first_given narrowing) p x h (first_agrees narrowing x text a) yes_x in (
              within,
              met cs p x yes_x,
              stand (drop 1 narrowing) (rs ++ range_of tables rs (first_given narrowing) p ∷ []) (cs ++ catch ∷ []) text r
                  (one_more_caught rs cs (range_of tables rs (first_given narrowing) p) catch h within) (rest_agrees narrowing x text a)
                  (sym (cond-true (now cs p x) (rest_caught context cs catch text) None yes_x) ∙ e),
            )
        | inr no_x ↦ let absurd_case : None ≡ Some r = sym (cond-false (now cs p x) (rest_caught context cs catch text) None no_x) ∙ e in cc
      ]

  -- the items that a context catches are at its places
  pub caught_stand : (context : List Pat) → Stands context
  caught_stand [] narrowing rs cs [] r h a e = tt
  caught_stand [] narrowing rs cs (x ∷ text) r h a e = let absurd_case : None ≡ Some r = e in cc
  caught_stand (p ∷ context) narrowing rs cs text r h a e =
      let next = λ (b : Bool). if b then catch_item (content (tab tables).stores values) cs (tab_pattern tables.stores p) (rest_caught context cs) text else rest_caught context cs nothing_caught text in
      let places = λ (b : Bool). if b
      then record { pattern = p; range = range_of tables rs (first_given narrowing) p } ∷ places_from tables (drop 1 narrowing) (rs ++ range_of tables rs (first_given narrowing) p ∷ []) context
      else places_from tables narrowing (rs ++ range.Unknown ∷ []) context in
      elim (cases_Bool (is_matched p)) [
        | inl takes ↦ subst (λ (b : Bool). AreAt (places b) text) (sym takes)
            (pattern_stands p context (caught_stand context) narrowing rs cs text r h a (ap next (sym (takes_matched tables.stores p ∙ takes)) ∙ e))
        | inr other ↦ subst (λ (b : Bool). AreAt (places b) text) (sym other)
            (caught_stand context narrowing (rs ++ range.Unknown ∷ []) (cs ++ nothing_caught ∷ []) text r
            (one_more_caught rs cs range.Unknown nothing_caught h tt) a (ap next (sym (takes_matched tables.stores p ∙ other)) ∙ e))
      ]
