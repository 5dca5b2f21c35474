-- If a record covers another, it holds whenever the other holds.
use Rattle.std.proofs.Common.{◌≡◌, ◌≢◌, ℕ, zero, suc, ◌+◌, ◌-◌, ◌≤◌, Bool, true, false, not, ◌&&◌, ◌||◌, List, [], ◌∷◌, ◌++◌, length, map, drop, Option, Some, None, refl, sym, ap, ◌∙◌, arith, inl, inr, cond, if◌then◌else◌}
use Rattle.std.specs.Prelude.{filter, is_some, nat_eq, nat_le}
use Rattle.std.specs.List.{list_all, list_any}
use Rattle.std.proofs.lemmas.Bool.{and_parts, cases_Bool, cond-true, cond-false, eqb-true}
use Rattle.std.proofs.lemmas.Bool.Decides.{nat_tests}
use Rattle.std.proofs.lemmas.List.{drop-drop, length-drop}
use Rattle.std.proofs.lemmas.List.Sums.{length-filter}
use Rattle.kmn_base.specs.declared.items.Item.{Item}
use Rattle.kmn_base.specs.declared.items.Element.{Element}
use Rattle.kmn_base.specs.declared.items.Element.TheVariants as element
use Rattle.kmn_base.specs.declared.keys.RuleKey.{RuleKey}
use Rattle.kmn_base.specs.declared.keys.RuleKey.TheVariants as key
use Rattle.kmn_base.specs.declared.keys.KeyPress.{KeyPress}
use Rattle.virtual_keys.specs.Fits.{key_fits}
use Rattle.rule_model.specs.declared.event_state.Catch.{Catch}
use Rattle.rule_model.specs.declared.event_state.Caught.{Caught}
use Rattle.rule_model.specs.declared.tables.Pat.{Pat}
use Rattle.rule_model.specs.declared.tables.Pat.TheVariants as pattern
use Rattle.rule_model.specs.declared.tables.Rule.{Rule}
use Rattle.rule_model.specs.declared.tables.Store.{Store}
use Rattle.rule_model.specs.declared.tables.Tables.{Tables}
use Rattle.rule_model.specs.Keyboard.{Numbered}
use Rattle.rule_model.specs.Content.{content}
use Rattle.rule_model.specs.Match.{Content, same_element, same_value, same_item, place_of, place_for, takes_item, matches, nothing_caught, catch_item, catches_from}
use Rattle.rule_model.specs.Hold.{is_true, is_at_start, pattern_count, has_room, caught_by, holds}
use Rattle.rule_model.specs.System.{system_ref, is_equal}
use Rattle.rule_model.specs.Tab.{tab, tab_pattern, tab_rule, elements_of}
use Rattle.rule_model.specs.Patterns.{is_matched}
use Rattle.rule_model.proofs.CaughtParts.{caught_parts}
use Rattle.rule_shadow.specs.declared.cert.Range.{Range}
use Rattle.rule_shadow.specs.declared.cert.Range.TheVariants as range
use Rattle.rule_shadow.specs.declared.cert.Place.{Place}
use Rattle.rule_shadow.specs.Keys.{covers_key}
use Rattle.rule_shadow.specs.Places.{Narrowing, is_fixed, items_of, patterns_of, places_from}
use Rattle.rule_shadow.specs.Covers.{covers_item, covers_range, same_store, covers_place, cover_each, cover_last, same_condition, is_condition_of, is_nul, keeps_nul, covers_rule}
use Rattle.rule_shadow.proofs.Keys.{covering_fits}
use Rattle.rule_shadow.proofs.Ranges.{same_is, fixed_content, IsWithin, Agrees, IsMet, AreAt, takes_matched, caught_stand}

no_case : (P : Type 0) → false ≡ true → P
no_case P e = cc

-- if all members of a list pass a test, each member passes it
pub member_passes : (p : Item → Bool) (x : Item) (xs : List Item) → list_all p xs ≡ true → list_any (same_item x) xs ≡ true → p x ≡ true
member_passes p x [] h m = no_case _ m
member_passes p x (y ∷ xs) h m =
    let parts = and_parts (p y) (list_all p xs) h in
    elim (cases_Bool (same_item x y)) [
      | inl same ↦ ap p (same_is x y same) ∙ parts.0
      | inr other ↦ member_passes p x xs parts.1 (sym (ap (λ b. b || list_any (same_item x) xs) other) ∙ m)
    ]

same_elements : (a b : Element) → same_element a b ≡ true → a ≡ b
same_elements (element.Char c) (element.Char d) e = ap element.Char (eqb-true c d e)
same_elements (element.Char c) (element.Mark n) e = no_case _ e
same_elements (element.Char c) (element.Key f k) e = no_case _ e
same_elements (element.Mark m) (element.Char d) e = no_case _ e
same_elements (element.Mark m) (element.Mark n) e = ap element.Mark (eqb-true m n e)
same_elements (element.Mark m) (element.Key f k) e = no_case _ e
same_elements (element.Key f k) (element.Char d) e = no_case _ e
same_elements (element.Key f k) (element.Mark n) e = no_case _ e
same_elements (element.Key f k) (element.Key g l) e =
    let parts = and_parts (nat_eq f g) (nat_eq k l) e in
    (λ i. element.Key (eqb-true f g parts.0 i) (eqb-true k l parts.1 i))

pub same_values : (a b : List Element) → same_value a b ≡ true → a ≡ b
same_values [] [] e = refl
same_values [] (y ∷ b) e = no_case _ e
same_values (x ∷ a) [] e = no_case _ e
same_values (x ∷ a) (y ∷ b) e = let parts = and_parts (same_element x y) (same_value a b) e in λ i. same_elements x y parts.0 i ∷ same_values a b parts.1 i

filtered_same : (stores : List Store) (context : List Pat) → length (filter takes_item (map (tab_pattern stores) context)) ≡ length (patterns_of context)
filtered_same stores [] = refl
filtered_same stores (p ∷ context) = (λ i. length (cond (takes_matched stores p i) (tab_pattern stores p ∷ filter takes_item (map (tab_pattern stores) context)) (filter takes_item (map (tab_pattern stores) context)))) ∙ at (filtered_same stores context) (is_matched p)
  where
    at : length (filter takes_item (map (tab_pattern stores) context)) ≡ length (patterns_of context) → (b : Bool) → length (cond b (tab_pattern stores p ∷ filter takes_item (map (tab_pattern stores) context)) (filter takes_item (map (tab_pattern stores) context))) ≡ length (cond b (p ∷ patterns_of context) (patterns_of context))
    at h true = ap suc h
    at h false = h

pub length-patterns : (stores : List Store) (context : List Pat) → pattern_count (map (tab_pattern stores) context) ≡ length (patterns_of context)
length-patterns stores context = sym (length-filter takes_item (map (tab_pattern stores) context)) ∙ filtered_same stores context

module _ (tables : Tables) (values : List (List Element)) where
  abbrev has : Content
  has = content (tab tables).stores values

  fixed_place : (store : ℕ) (x : Item) → is_fixed tables store ≡ true → place_of x (elements_of tables.stores store) ≡ place_of x (has (Numbered store))
  fixed_place store x fixed = ap (place_of x) (sym (fixed_content tables store values fixed))

  -- if a pattern covers an item, it matches the item
  item_matched : (p : Pat) (x : Item) → covers_item tables p x ≡ true → (cs : List Catch) → matches has cs (tab_pattern tables.stores p) x ≡ true
  item_matched (pattern.Char c) x e cs = e
  item_matched (pattern.Mark m) x e cs = e
  item_matched (pattern.Any store) x e cs = let parts = and_parts (is_fixed tables store) _ e in ap is_some (sym (fixed_place store x parts.0)) ∙ parts.1
  item_matched (pattern.NotAny store) x e cs = let parts = and_parts (is_fixed tables store) _ e in ap (λ o. not (is_some o)) (sym (fixed_place store x parts.0)) ∙ parts.1
  item_matched (pattern.Index store offset) x e cs = no_case _ e
  item_matched (pattern.ContextAt offset) x e cs = no_case _ e
  item_matched (pattern.Equal s v) x e cs = no_case _ e
  item_matched (pattern.Unequal s v) x e cs = no_case _ e
  item_matched (pattern.SystemEqual s v) x e cs = no_case _ e
  item_matched (pattern.SystemUnequal s v) x e cs = no_case _ e
  item_matched pattern.Nul x e cs = no_case _ e

  range_matched : (p : Pat) (r : Range) (x : Item) → covers_range tables p r ≡ true → IsWithin tables values r x → (cs : List Catch) → matches has cs (tab_pattern tables.stores p) x ≡ true
  range_matched p (range.One y) x e within cs = ap (matches has cs (tab_pattern tables.stores p)) within ∙ item_matched p y e cs
  range_matched p (range.Store store) x e within cs = item_matched p x (member_passes (covers_item tables p) x (items_of tables store) e within) cs
  range_matched p range.Unknown x e within cs = no_case _ e

  store_matched : (p q : Pat) (x : Item) → same_store p q ≡ true → IsMet tables values q x → (cs : List Catch) → matches has cs (tab_pattern tables.stores p) x ≡ true
  store_matched (pattern.Any a) (pattern.Any b) x e met cs = ap (λ s. is_some (place_of x (has (Numbered s)))) (eqb-true a b e) ∙ met
  store_matched (pattern.NotAny a) (pattern.NotAny b) x e met cs = ap (λ s. not (is_some (place_of x (has (Numbered s))))) (eqb-true a b e) ∙ met
  store_matched p q x e met cs = cc

  -- if a pattern covers a place, it matches the item there, whatever was caught before
  pub place_matched : (p : Pat) (place : Place) (x : Item) → covers_place tables p place ≡ true → IsWithin tables values place.range x → IsMet tables values place.pattern x
      → (cs : List Catch) → matches has cs (tab_pattern tables.stores p) x ≡ true
  place_matched p place x e within met cs = elim (cases_Bool (same_store p place.pattern)) [
    | inl same ↦ store_matched p place.pattern x same met cs
    | inr other ↦ range_matched p place.range x (sym (ap (λ b. b || covers_range tables p place.range) other) ∙ e) within cs
  ]

  -- if patterns cover places, they catch the items there
  each_caught : (context : List Pat) (places : List Place) (text : List Item) (cs : List Catch) → length (patterns_of context) ≡ length places → cover_each tables (patterns_of context) places ≡ true → AreAt tables values places text
      → (r : List Catch) × (catches_from has cs (map (tab_pattern tables.stores) context) text ≡ Some r)
  each_caught [] [] [] cs n e h = (cs, refl)
  each_caught [] [] (x ∷ text) cs n e h = absurd h
  each_caught [] (place ∷ places) text cs n e h = absurd (omega (arith, n))
  each_caught (p ∷ context) places text cs n e h =
      let next = λ (b : Bool). if b then catch_item has cs (tab_pattern tables.stores p) (λ catch rest. catches_from has (cs ++ catch ∷ []) (map (tab_pattern tables.stores) context) rest) text
      else catches_from has (cs ++ nothing_caught ∷ []) (map (tab_pattern tables.stores) context) text in
      let ps = λ (b : Bool). cond b (p ∷ patterns_of context) (patterns_of context) in
      elim (cases_Bool (is_matched p)) [
        | inl takes ↦
            let one = one_caught p context places text cs (ap (λ b. length (ps b)) (sym takes) ∙ n) (ap (λ b. cover_each tables (ps b) places) (sym takes) ∙ e) h (each_caught context) in
            (one.0, ap next (takes_matched tables.stores p ∙ takes) ∙ one.1)
        | inr other ↦
            let rest = each_caught context places text (cs ++ nothing_caught ∷ []) (ap (λ b. length (ps b)) (sym other) ∙ n) (ap (λ b. cover_each tables (ps b) places) (sym other) ∙ e) h in
            (rest.0, ap next (takes_matched tables.stores p ∙ other) ∙ rest.1)
      ]
    where
      one_caught : (p : Pat) (context : List Pat) (places : List Place) (text : List Item) (cs : List Catch) → suc (length (patterns_of context)) ≡ length places → cover_each tables (p ∷ patterns_of context) places ≡ true → AreAt tables values places text
          → ((places : List Place) (text : List Item) (cs : List Catch) → length (patterns_of context) ≡ length places → cover_each tables (patterns_of context) places ≡ true → AreAt tables values places text
          → (r : List Catch) × (catches_from has cs (map (tab_pattern tables.stores) context) text ≡ Some r))
          → (r : List Catch) × (catch_item has cs (tab_pattern tables.stores p) (λ catch rest. catches_from has (cs ++ catch ∷ []) (map (tab_pattern tables.stores) context) rest) text ≡ Some r)
      one_caught p context [] text cs n e h more = no_case _ e
      one_caught p context (place ∷ places) [] cs n e h more = absurd h
      one_caught p context (place ∷ places) (x ∷ text) cs n e h more =
          let parts = and_parts (covers_place tables p place) (cover_each tables (patterns_of context) places) e in
          let catch : Catch = record { item = Some x; place = place_for has (tab_pattern tables.stores p) x } in
          let rest = more places text (cs ++ catch ∷ []) (omega (arith, n)) parts.1 h.2 in
          (rest.0, cond-true (matches has cs (tab_pattern tables.stores p) x) _ None (place_matched p place x parts.0 h.0 h.1 cs) ∙ rest.1)

  at-drop : (k : ℕ) (places : List Place) (text : List Item) → AreAt tables values places text → AreAt tables values (drop k places) (drop k text)
  at-drop zero places text h = h
  at-drop (suc k) [] [] h = tt
  at-drop (suc k) [] (x ∷ text) h = absurd h
  at-drop (suc k) (place ∷ places) [] h = absurd h
  at-drop (suc k) (place ∷ places) (x ∷ text) h = at-drop k places text h.2

  pub at-length : (places : List Place) (text : List Item) → AreAt tables values places text → length text ≡ length places
  at-length [] [] h = refl
  at-length [] (x ∷ text) h = absurd h
  at-length (place ∷ places) [] h = absurd h
  at-length (place ∷ places) (x ∷ text) h = ap suc (at-length places text h.2)

  -- if two conditions are the same and one is true, the other is true
  condition_same : (p q : Pat) → same_condition tables p q ≡ true → is_true has (tab_pattern tables.stores q) ≡ true → is_true has (tab_pattern tables.stores p) ≡ true
  condition_same (pattern.Equal a v) (pattern.Equal b w) e h =
      let parts = and_parts (nat_eq a b) _ e in
      (λ i. same_value (has (Numbered (eqb-true a b parts.0 i))) (same_values (elements_of tables.stores v) (elements_of tables.stores w) parts.1 i)) ∙ h
  condition_same (pattern.Unequal a v) (pattern.Unequal b w) e h =
      let parts = and_parts (nat_eq a b) _ e in
      (λ i. not (same_value (has (Numbered (eqb-true a b parts.0 i))) (same_values (elements_of tables.stores v) (elements_of tables.stores w) parts.1 i))) ∙ h
  condition_same (pattern.SystemEqual a v) (pattern.SystemEqual b w) e h =
      let parts = and_parts (nat_eq a b) _ e in
      (λ i. is_equal (system_ref (eqb-true a b parts.0 i)) (has (system_ref (eqb-true a b parts.0 i))) (same_values (elements_of tables.stores v) (elements_of tables.stores w) parts.1 i)) ∙ h
  condition_same (pattern.SystemUnequal a v) (pattern.SystemUnequal b w) e h =
      let parts = and_parts (nat_eq a b) _ e in
      (λ i. not (is_equal (system_ref (eqb-true a b parts.0 i)) (has (system_ref (eqb-true a b parts.0 i))) (same_values (elements_of tables.stores v) (elements_of tables.stores w) parts.1 i))) ∙ h
  condition_same p q e h = cc

  some_true : (p : Pat) (context : List Pat) → list_any (same_condition tables p) context ≡ true → list_all (is_true has) (map (tab_pattern tables.stores) context) ≡ true
      → is_true has (tab_pattern tables.stores p) ≡ true
  some_true p [] e h = no_case _ e
  some_true p (q ∷ context) e h =
      let parts = and_parts (is_true has (tab_pattern tables.stores q)) _ h in
      elim (cases_Bool (same_condition tables p q)) [
        | inl same ↦ condition_same p q same parts.0
        | inr other ↦ some_true p context (sym (ap (λ b. b || list_any (same_condition tables p) context) other) ∙ e) parts.1
      ]

  condition_true : (p : Pat) (context : List Pat) → is_condition_of tables context p ≡ true → list_all (is_true has) (map (tab_pattern tables.stores) context) ≡ true
      → is_true has (tab_pattern tables.stores p) ≡ true
  condition_true (pattern.Char c) context e h = refl
  condition_true (pattern.Mark m) context e h = refl
  condition_true (pattern.Any store) context e h = refl
  condition_true (pattern.NotAny store) context e h = refl
  condition_true (pattern.Index store offset) context e h = refl
  condition_true (pattern.ContextAt offset) context e h = refl
  condition_true (pattern.Equal s v) context e h = some_true (pattern.Equal s v) context e h
  condition_true (pattern.Unequal s v) context e h = some_true (pattern.Unequal s v) context e h
  condition_true (pattern.SystemEqual s v) context e h = some_true (pattern.SystemEqual s v) context e h
  condition_true (pattern.SystemUnequal s v) context e h = some_true (pattern.SystemUnequal s v) context e h
  condition_true pattern.Nul context e h = refl

  conditions_true : (qs context : List Pat) → list_all (is_condition_of tables context) qs ≡ true → list_all (is_true has) (map (tab_pattern tables.stores) context) ≡ true
      → list_all (is_true has) (map (tab_pattern tables.stores) qs) ≡ true
  conditions_true [] context e h = refl
  conditions_true (q ∷ qs) context e h =
      let parts = and_parts (is_condition_of tables context q) _ e in
      (λ i. condition_true q context parts.0 h i && conditions_true qs context parts.1 h i)

nul-start : (stores : List Store) (context : List Pat) → list_any is_at_start (map (tab_pattern stores) context) ≡ list_any is_nul context
nul-start stores [] = refl
nul-start stores (pattern.Char c ∷ context) = nul-start stores context
nul-start stores (pattern.Mark m ∷ context) = nul-start stores context
nul-start stores (pattern.Any s ∷ context) = nul-start stores context
nul-start stores (pattern.NotAny s ∷ context) = nul-start stores context
nul-start stores (pattern.Index s k ∷ context) = nul-start stores context
nul-start stores (pattern.ContextAt k ∷ context) = nul-start stores context
nul-start stores (pattern.Equal s v ∷ context) = nul-start stores context
nul-start stores (pattern.Unequal s v ∷ context) = nul-start stores context
nul-start stores (pattern.SystemEqual s v ∷ context) = nul-start stores context
nul-start stores (pattern.SystemUnequal s v ∷ context) = nul-start stores context
nul-start stores (pattern.Nul ∷ context) = refl

-- the properties of a record that holds
pub record Held (tables : Tables) (values : List (List Element)) (left : List Item) (press : KeyPress) (using_keys : Bool) (r : Rule) : Type 0 where
  pub conditions : list_all (is_true (content (tab tables).stores values)) (map (tab_pattern tables.stores) r.context) ≡ true
  pub room : has_room (map (tab_pattern tables.stores) r.context) left ≡ true
  pub catches : List Catch
  pub caught : catches_from (content (tab tables).stores values) [] (map (tab_pattern tables.stores) r.context)
      (drop (length left - pattern_count (map (tab_pattern tables.stores) r.context)) left) ≡ Some catches
  pub key_fits_press : key_fits (if using_keys then r.key else key.Any) press ≡ true

fits_placed : (b : Bool) (p : Option ℕ) → (if b then Some None else None) ≡ Some p → b ≡ true
fits_placed true p e = refl
fits_placed false p e = let absurd_case : None ≡ Some p = e in cc

pub held_parts : (tables : Tables) (values : List (List Element)) (left : List Item) (press : KeyPress) (using_keys : Bool) (r : Rule) (caught : Caught)
    → holds (content (tab tables).stores values) left press (tab_rule tables.stores using_keys r) ≡ Some caught → Held tables values left press using_keys r
held_parts tables values left press using_keys r caught e =
    let has = content (tab tables).stores values in
    let context = map (tab_pattern tables.stores) r.context in
    let right = list_all (is_true has) context && has_room context left in
    let text = drop (length left - pattern_count context) left in
    let k : RuleKey = if using_keys then r.key else key.Any in
    let all = caught_by (catches_from has [] context text) (if key_fits k press then Some None else None) in
    elim (cases_Bool right) [
      | inl yes_right ↦
          let parts = and_parts (list_all (is_true has) context) (has_room context left) yes_right in
          let both = caught_parts (catches_from has [] context text) (if key_fits k press then Some None else None) caught (sym (cond-true right all None yes_right) ∙ e) in
          record { conditions = parts.0; room = parts.1; catches = both.0.0; caught = both.0.1; key_fits_press = fits_placed (key_fits k press) both.1.0 both.1.1 }
      | inr no_right ↦ let absurd_case : None ≡ Some caught = sym (cond-false right all None no_right) ∙ e in cc
    ]

held_whole : (tables : Tables) (values : List (List Element)) (left : List Item) (press : KeyPress) (using_keys : Bool) (r : Rule)
    → Held tables values left press using_keys r → is_some (holds (content (tab tables).stores values) left press (tab_rule tables.stores using_keys r)) ≡ true
held_whole tables values left press using_keys r h =
    let has = content (tab tables).stores values in
    let context = map (tab_pattern tables.stores) r.context in
    λ i. is_some (if h.conditions i && h.room i then caught_by (h.caught i) (if h.key_fits_press i then Some None else None) else None)

-- if a left list has enough items for a context, it has one for each pattern
enough_room : (stores : List Store) (context : List Pat) (left : List Item) → has_room (map (tab_pattern stores) context) left ≡ true → length (patterns_of context) ≤ length left
enough_room stores context left h =
    let count = length-patterns stores context in
    elim (cases_Bool (list_any is_at_start (map (tab_pattern stores) context))) [
      | inl start ↦
          let e : nat_eq (length left) (pattern_count (map (tab_pattern stores) context)) ≡ true =
          sym (cond-true (list_any is_at_start (map (tab_pattern stores) context)) _ (nat_le (pattern_count (map (tab_pattern stores) context)) (length left)) start) ∙ h in
          let same = eqb-true (length left) (pattern_count (map (tab_pattern stores) context)) e in
          omega (arith, same, count)
      | inr none ↦
          let e : nat_le (pattern_count (map (tab_pattern stores) context)) (length left) ≡ true =
          sym (cond-false (list_any is_at_start (map (tab_pattern stores) context)) (nat_eq (length left) (pattern_count (map (tab_pattern stores) context))) _ none) ∙ h in
          grind (arith, nat_tests, count)
    ]

nul_kept : (a b : Bool) (same : Bool) → (not a || (b && same)) ≡ true → a ≡ true → (b ≡ true) × (same ≡ true)
nul_kept true b same h e = and_parts b same h
nul_kept false b same h e = no_case _ e

room_too : (stores : List Store) (q r : List Pat) (left : List Item) → keeps_nul q r ≡ true → length (patterns_of q) ≤ length (patterns_of r)
    → has_room (map (tab_pattern stores) r) left ≡ true → has_room (map (tab_pattern stores) q) left ≡ true
room_too stores q r left kept fewer room =
    let qs = map (tab_pattern stores) q in
    let rs = map (tab_pattern stores) r in
    let enough = enough_room stores r left room in
    let q_count = length-patterns stores q in
    let r_count = length-patterns stores r in
    elim (cases_Bool (list_any is_nul q)) [
      | inl has_nul ↦
          let both = nul_kept (list_any is_nul q) (list_any is_nul r) (nat_eq (length (patterns_of q)) (length (patterns_of r))) kept has_nul in
          let start : list_any is_at_start rs ≡ true = nul-start stores r ∙ both.0 in
          let exact : nat_eq (length left) (pattern_count rs) ≡ true = sym (cond-true (list_any is_at_start rs) _ (nat_le (pattern_count rs) (length left)) start) ∙ room in
          let same = eqb-true (length (patterns_of q)) (length (patterns_of r)) both.1 in
          cond-true (list_any is_at_start qs) (nat_eq (length left) (pattern_count qs)) (nat_le (pattern_count qs) (length left)) (nul-start stores q ∙ has_nul)
          ∙ (ap (λ n. nat_eq (length left) n) (q_count ∙ (same ∙ sym r_count)) ∙ exact)
      | inr no_nul ↦
          let few : pattern_count qs ≤ length left = omega (arith, enough, fewer, q_count) in
          cond-false (list_any is_at_start qs) (nat_eq (length left) (pattern_count qs)) (nat_le (pattern_count qs) (length left)) (nul-start stores q ∙ no_nul)
          ∙ grind (arith, nat_tests)
    ]

key_covered : (using_keys : Bool) (q r : RuleKey) (press : KeyPress) → (not using_keys || covers_key q r) ≡ true → (using_keys ≡ true → r ≢ key.Any)
    → key_fits (if using_keys then r else key.Any) press ≡ true → key_fits (if using_keys then q else key.Any) press ≡ true
key_covered true q r press e other h = covering_fits q r e (other refl) press h
key_covered false q r press e other h = h

-- the items of a left list that the patterns of a record match: the last ones
abbrev pub taken_items : Rule → List Item → List Item
taken_items r left = drop (length left - length (patterns_of r.context)) left

-- if a record covers another, it holds whenever the other holds
pub covering_holds : (tables : Tables) (values : List (List Element)) (left : List Item) (press : KeyPress) (using_keys : Bool) (narrowing : Narrowing) (q r : Rule) (caught : Caught)
    → (using_keys ≡ true → r.key ≢ key.Any)
    → covers_rule tables using_keys (places_from tables narrowing [] r.context) q r ≡ true
    → Agrees tables values narrowing (taken_items r left)
    → holds (content (tab tables).stores values) left press (tab_rule tables.stores using_keys r) ≡ Some caught
    → is_some (holds (content (tab tables).stores values) left press (tab_rule tables.stores using_keys q)) ≡ true
covering_holds tables values left press using_keys narrowing q r caught keyed covered agrees e =
    let held = held_parts tables values left press using_keys r caught e in
    let places = places_from tables narrowing [] r.context in
    let first = and_parts (cover_last tables (patterns_of q.context) places) _ covered in
    let second = and_parts (list_all (is_condition_of tables r.context) q.context) _ first.1 in
    let third = and_parts (keeps_nul q.context r.context) _ second.1 in
    let last = and_parts (nat_le (length (patterns_of q.context)) (length places)) _ first.0 in
    let r_count = length-patterns tables.stores r.context in
    let q_count = length-patterns tables.stores q.context in
    let text = taken_items r left in
    let caught_text = ap (λ n. catches_from (content (tab tables).stores values) [] (map (tab_pattern tables.stores) r.context) (drop (length left - n) left)) (sym r_count) ∙ held.caught in
    let stand = caught_stand tables values r.context narrowing [] [] text held.catches tt agrees caught_text in
    let enough = enough_room tables.stores r.context left held.room in
    let text_count : length text ≡ length (patterns_of r.context) = length-drop (length left - length (patterns_of r.context)) left ∙ (let n : length left - (length left - length (patterns_of r.context)) ≡ length (patterns_of r.context) = omega (arith, enough) in n) in
    let place_count : length places ≡ length (patterns_of r.context) = sym (at-length tables values places text stand) ∙ text_count in
    let fewer_places : length (patterns_of q.context) ≤ length places = grind (arith, nat_tests, last) in
    let fewer : length (patterns_of q.context) ≤ length (patterns_of r.context) = omega (arith, fewer_places, place_count) in
    let skip = length places - length (patterns_of q.context) in
    let last_count : length (patterns_of q.context) ≡ length (drop skip places) =
    sym (length-drop skip places ∙ (let n : length places - skip ≡ length (patterns_of q.context) = omega (arith, fewer_places) in n)) in
    let caught_q = each_caught tables values q.context (drop skip places) (drop skip text) [] last_count last.1 (at-drop tables values skip places text stand) in
    let same_text : drop (length left - pattern_count (map (tab_pattern tables.stores) q.context)) left ≡ drop skip text =
    ap (λ k. drop k left) (let n : length left - pattern_count (map (tab_pattern tables.stores) q.context) ≡ (length left - length (patterns_of r.context)) + skip = omega (arith, q_count, place_count, enough, fewer) in n)
    ∙ sym (drop-drop skip (length left - length (patterns_of r.context)) left) in
    held_whole tables values left press using_keys q (record {
      conditions = conditions_true tables values q.context r.context second.0 held.conditions;
      room = room_too tables.stores q.context r.context left third.0 fewer held.room;
      catches = caught_q.0;
      caught = ap (catches_from (content (tab tables).stores values) [] (map (tab_pattern tables.stores) q.context)) same_text ∙ caught_q.1;
      key_fits_press = key_covered using_keys q.key r.key press third.1 keyed held.key_fits_press;
    })
