-- What the items of a context catch in this product: their places, and between which units they have.
use Rattle.std.specs.Prelude.{◌≡◌, ℕ, zero, suc, ◌+◌, ◌-◌, ◌<◌, ◌≤◌, Bool, true, false, not, nat_eq, if◌then◌else◌, cond, List, [], ◌∷◌, ◌++◌, length, map, take, flat_map, filter_map, count_by, sum_by, position, slice_get, is_some, option_and_then, Option, Some, None}
use Rattle.std.specs.Option.{option_map_or}
use Rattle.std.specs.List.{All, cons_option}
use Rattle.std.proofs.Common.{refl, sym, ap, ◌∙◌, arith, append_assoc, append-nil, get_or}
use Rattle.std.proofs.Math.Path.{subst}
use Rattle.std.proofs.lemmas.Bool.Decides.{nat_tests}
use Rattle.std.proofs.lemmas.List.Elements.{All-head, All-tail}
use Rattle.std.proofs.lemmas.List.Quantifiers.{position-Some}
use Rattle.std.proofs.lemmas.List.Sums.{sum_by-cons}
use Rattle.std.proofs.lemmas.Option.{none-some, same_Some, slice_get-get_or}
use Rattle.kmn_base.specs.declared.items.Item.{Item}
use Rattle.kmn_base.specs.declared.items.Item.TheVariants as item
use Rattle.kmn_base.specs.declared.items.Element.{Element}
use Rattle.kmn_base.specs.declared.items.Element.TheVariants as element
use Rattle.kmn_base.specs.Lists.{is_mark}
use Rattle.rule_model.specs.declared.event_state.Catch.{Catch}
use Rattle.rule_model.specs.declared.tables.Pat.{Pat}
use Rattle.rule_model.specs.declared.tables.Pat.TheVariants as pattern
use Rattle.rule_model.specs.declared.tables.Store.{Store}
use Rattle.rule_model.specs.Keyboard.{Numbered}
use Rattle.rule_model.specs.Match.{Content, is_item, place_of, place_caught, item_caught, element_at, is_element, is_same, same_item, nothing_caught, catches_from}
use Rattle.rule_model.specs.Act.{item_list}
use Rattle.rule_model.specs.Patterns.{is_matched}
use Rattle.rule_model.specs.Tab.{tab_pattern}
use Rattle.kmx_format.specs.Writable.{stores_of_pattern}
use Rattle.core_meaning.specs.Events.{weight, units}
use Rattle.core_meaning.specs.ContextLaws.{IsAnyItem}
use Rattle.core_constructs.specs.declared.facts.Facts.{Facts}
use Rattle.core_constructs.specs.Contexts.{is_unmatched}
use Rattle.core_constructs.specs.Spent.{least_width}
use Rattle.core_constructs.specs.Widths.{char_units, element_units, item_width, store_width, widest, width_in}
use Rattle.core_laws.proofs.Marks.{IsUnmarked, Unmarked, light, weighty, some_weight}

false_true : false ≡ true → ⊥
false_true e = grind arith

-- ---- what one item of a context catches

-- the units of what a pattern caught are not fewer than its least, nor more than its most; it caught an item if it matches one,
-- and a place if it is an `any`
pub record IsCaught (facts : Facts) (whole : List Pat) (p : Pat) (catch : Catch) : Type 0 where
  pub least : least_width p ≤ units (item_list catch.item)
  pub most : units (item_list catch.item) ≤ width_in facts whole p
  pub alone : units (item_list catch.item) ≤ item_width facts p
  pub kind : is_some catch.item ≡ is_matched p
  pub any : IsAnyItem (Some p) → (place : ℕ) × (catch.place ≡ Some place)

-- each pattern of a context with what it caught
abbrev pub AreCaught : Facts → List Pat → List Pat → List Catch → Type 0
AreCaught facts whole [] [] = Unit {0}
AreCaught facts whole [] (catch ∷ catches) = ⊥
AreCaught facts whole (p ∷ ps) [] = ⊥
AreCaught facts whole (p ∷ ps) (catch ∷ catches) = IsCaught facts whole p catch × AreCaught facts whole ps catches

caught_more : (facts : Facts) (whole ps : List Pat) (catches : List Catch) (p : Pat) (catch : Catch) → AreCaught facts whole ps catches → IsCaught facts whole p catch → AreCaught facts whole (ps ++ p ∷ []) (catches ++ catch ∷ [])
caught_more facts whole [] [] p catch all last = (last, tt)
caught_more facts whole [] (c ∷ catches) p catch all last = absurd all
caught_more facts whole (q ∷ ps) [] p catch all last = absurd all
caught_more facts whole (q ∷ ps) (c ∷ catches) p catch all last = (all.0, caught_more facts whole ps catches p catch all.1 last)

-- what was caught at a place, by the pattern there
pub record CaughtAt (facts : Facts) (whole ps : List Pat) (place : ℕ) (catch : Catch) : Type 0 where
  pub p : Pat
  pub listed : slice_get ps place ≡ Some p
  pub caught : IsCaught facts whole p catch

caught_at : (facts : Facts) (whole ps : List Pat) (catches : List Catch) (place : ℕ) (catch : Catch) → AreCaught facts whole ps catches → slice_get catches place ≡ Some catch → CaughtAt facts whole ps place catch
caught_at facts whole [] [] place catch all e = absurd (none-some catch e)
caught_at facts whole [] (c ∷ catches) place catch all e = absurd all
caught_at facts whole (p ∷ ps) [] place catch all e = absurd all
caught_at facts whole (p ∷ ps) (c ∷ catches) zero catch all e = record { p = p; listed = refl; caught = subst (IsCaught facts whole p) (same_Some c catch e) all.0 }
caught_at facts whole (p ∷ ps) (c ∷ catches) (suc place) catch all e =
    let found = caught_at facts whole ps catches place catch all.1 e in
    record { p = found.p; listed = found.listed; caught = found.caught }

listed_before : (ps others : List Pat) (place : ℕ) (p : Pat) → slice_get ps place ≡ Some p → slice_get (ps ++ others) place ≡ Some p
listed_before [] others place p e = absurd (none-some p e)
listed_before (q ∷ ps) others zero p e = e
listed_before (q ∷ ps) others (suc place) p e = listed_before ps others place p e

-- ---- weights

-- an item has the units of an element that is equal to it
pub equal_weights : (x : Item) (e : Element) → is_item x e ≡ true → weight x ≡ element_units e
equal_weights (item.Char c) (element.Char d) same = ap char_units equal
  where
    equal : c ≡ d
    equal = grind (arith, nat_tests)
equal_weights (item.Char c) (element.Mark m) same = absurd (false_true same)
equal_weights (item.Char c) (element.Key flags code) same = absurd (false_true same)
equal_weights (item.Mark m) (element.Char d) same = absurd (false_true same)
equal_weights (item.Mark m) (element.Mark n) same = refl
equal_weights (item.Mark m) (element.Key flags code) same = absurd (false_true same)

equal_items : (x y : Item) → same_item x y ≡ true → weight x ≡ weight y
equal_items (item.Char c) (item.Char d) same = ap char_units equal
  where
    equal : c ≡ d
    equal = grind (arith, nat_tests)
equal_items (item.Char c) (item.Mark m) same = absurd (false_true same)
equal_items (item.Mark m) (item.Char d) same = absurd (false_true same)
equal_items (item.Mark m) (item.Mark n) same = refl

pub at_least_two : (facts : Facts) → 2 ≤ widest facts
at_least_two facts = elim (nat_eq (length facts.marks) 0) as (λ (b : Bool). 2 ≤ (if b then 2 else 3)) [ true ↦ omega arith | false ↦ omega arith ]

-- the element at a place that was found
record IsFound (test : Element → Bool) (elements : List Element) (place : ℕ) : Type 0 where
  element : Element
  listed : slice_get elements place ≡ Some element
  passes : test element ≡ true

found_at : (test : Element → Bool) (elements : List Element) (place : ℕ) → position test elements ≡ Some place → IsFound test elements place
found_at test elements place e =
    let found = position-Some test elements place (element.Char 0) e in
    record { element = get_or elements place (element.Char 0); listed = slice_get-get_or elements place (element.Char 0) found.0; passes = found.1 }

-- each element of a store of the tables that is equal to an item has at most the width of the store
abbrev pub HasWidths : Facts → ℕ → Content → Type 0
HasWidths facts count content = (store place : ℕ) (x : Item) (e : Element) → store < count → slice_get (content (Numbered store)) place ≡ Some e → is_item x e ≡ true → weight x ≤ store_width facts store

module _ (facts : Facts) (count : ℕ) (content : Content) (stores : List Store) (whole : List Pat) (widths : HasWidths facts count content) where
  abbrev Caught : Pat → Catch → Type 0
  Caught p catch = IsCaught facts whole p catch

  abbrev catch_of : Item → Option ℕ → Catch
  catch_of x place = record { item = Some x; place = place }

  -- a pattern that is matched within its width, and does not repeat another
  within : (p : Pat) (x : Item) (place : Option ℕ) → is_matched p ≡ true → width_in facts whole p ≡ item_width facts p → least_width p ≤ weight x → weight x ≤ item_width facts p
      → (IsAnyItem (Some p) → (n : ℕ) × (place ≡ Some n)) → Caught p (catch_of x place)
  within p x place matched same least most any =
      record { least = omega (arith, least); most = omega (arith, most, same); alone = omega (arith, most); kind = sym matched; any = any }

  char_caught : (c : ℕ) (x : Item) → is_item x (element.Char c) ≡ true → Caught (pattern.Char c) (catch_of x None)
  char_caught c x same =
      let units = equal_weights x (element.Char c) same in
      within (pattern.Char c) x None refl refl (omega (arith, units)) (omega (arith, units)) (λ any. absurd any)

  mark_caught : (m : ℕ) (x : Item) → is_item x (element.Mark m) ≡ true → Caught (pattern.Mark m) (catch_of x None)
  mark_caught m x same =
      let units = equal_weights x (element.Mark m) same in
      within (pattern.Mark m) x None refl refl (omega (arith, units)) (omega (arith, units)) (λ any. absurd any)

  any_caught : (s : ℕ) → s < count → (x : Item) (place : Option ℕ) → place_of x (content (Numbered s)) ≡ place → is_some place ≡ true → Caught (pattern.Any s) (catch_of x place)
  any_caught s less x None is found = absurd (false_true found)
  any_caught s less x (Some n) is found =
      let at = found_at (is_item x) (content (Numbered s)) n is in
      within (pattern.Any s) x (Some n) refl refl (some_weight x) (widths s n x at.element less at.listed at.passes) (λ any. (n, refl))

  other_caught : (s : ℕ) (x : Item) → IsUnmarked x → Caught (pattern.NotAny s) (catch_of x None)
  other_caught s x plain = within (pattern.NotAny s) x None refl refl (some_weight x) (omega (arith, light x plain, at_least_two facts)) (λ any. absurd any)

  index_caught : (s k : ℕ) → s < count → (x : Item) (place : Option ℕ) → is_element x (element_at (content (Numbered s)) place) ≡ true → Caught (pattern.Index s k) (catch_of x None)
  index_caught s k less x None same = absurd (false_true same)
  index_caught s k less x (Some n) same = by_element (slice_get (content (Numbered s)) n) refl same
    where
      by_element : (e : Option Element) → slice_get (content (Numbered s)) n ≡ e → is_element x e ≡ true → Caught (pattern.Index s k) (catch_of x None)
      by_element None is same = absurd (false_true same)
      by_element (Some e) is same = within (pattern.Index s k) x None refl refl (some_weight x) (widths s n x e less is same) (λ any. absurd any)

  -- an item that repeats another, which was caught before it
  repeated : (others : List Pat) (rest : List Pat) (seen : List Catch) (k : ℕ) (x : Item) → others ++ rest ≡ whole → AreCaught facts whole others seen → is_same x (item_caught seen k) ≡ true
      → Caught (pattern.ContextAt k) (catch_of x None)
  repeated others rest seen zero x parts all same = absurd (false_true same)
  repeated others rest seen (suc before) x parts all same = by_catch (slice_get seen before) refl same
    where
      by_item : (catch : Catch) → slice_get seen before ≡ Some catch → (y : Option Item) → catch.item ≡ y → is_same x y ≡ true → Caught (pattern.ContextAt (suc before)) (catch_of x None)
      by_item catch is None item same = absurd (false_true same)
      by_item catch is (Some y) item same =
          record { least = omega (arith, some_weight x); most = at_most; alone = omega (arith, weighty x); kind = refl; any = λ any. absurd any }
        where
          found : CaughtAt facts whole others before catch
          found = caught_at facts whole others seen before catch all is

          alone : units (item_list (Some y)) ≤ item_width facts found.p
          alone = subst (λ (i : Option Item). units (item_list i) ≤ item_width facts found.p) item found.caught.alone

          index : suc before - 1 ≡ before
          index = omega arith

          width : width_in facts whole (pattern.ContextAt (suc before)) ≡ item_width facts found.p
          width =
              ap (λ (n : ℕ). option_map_or (item_width facts) (slice_get whole n) 3) index
              ∙ ap (λ (o : Option Pat). option_map_or (item_width facts) o 3) (ap (λ (ps : List Pat). slice_get ps before) (sym parts) ∙ listed_before others rest before found.p found.listed)

          at_most : units (item_list (Some x)) ≤ width_in facts whole (pattern.ContextAt (suc before))
          at_most = omega (arith, alone, width, equal_items x y same)

      by_catch : (o : Option Catch) → slice_get seen before ≡ o → is_same x (option_and_then (λ (catch : Catch). catch.item) o) ≡ true → Caught (pattern.ContextAt (suc before)) (catch_of x None)
      by_catch None is same = absurd (false_true same)
      by_catch (Some catch) is same = by_item catch is catch.item refl same

  -- a condition or `nul`, which catches nothing
  uncaught : (p : Pat) → is_matched p ≡ false → least_width p ≡ 0 → Caught p nothing_caught
  uncaught p unmatched none = record { least = omega (arith, none); most = omega arith; alone = omega arith; kind = sym unmatched; any = not_any p unmatched }
    where
      true_false : true ≡ false → ⊥
      true_false e = grind arith

      not_any : (p : Pat) → is_matched p ≡ false → IsAnyItem (Some p) → (n : ℕ) × (None ≡ Some n)
      not_any (pattern.Any s) unmatched any = absurd (true_false unmatched)
      not_any (pattern.Char c) unmatched any = absurd any
      not_any (pattern.Mark m) unmatched any = absurd any
      not_any (pattern.NotAny s) unmatched any = absurd any
      not_any (pattern.Index s k) unmatched any = absurd any
      not_any (pattern.ContextAt k) unmatched any = absurd any
      not_any (pattern.Equal s v) unmatched any = absurd any
      not_any (pattern.Unequal s v) unmatched any = absurd any
      not_any (pattern.SystemEqual s v) unmatched any = absurd any
      not_any (pattern.SystemUnequal s v) unmatched any = absurd any
      not_any pattern.Nul unmatched any = absurd any

  -- ---- what the items of a context catch

  -- all of a context, if its first items caught what was seen
  abbrev AllCaught : List Pat → List Pat → List Catch → List Item → Type 0
  AllCaught others ps seen text =
      (all : List Catch) → others ++ ps ≡ whole → AreCaught facts whole others seen → Unmarked text → catches_from content seen (map (tab_pattern stores) ps) text ≡ Some all → AreCaught facts whole whole all

  behind : (p : Pat) (others ps : List Pat) (seen : List Catch) (catch : Catch) (text : List Item) → AllCaught (others ++ p ∷ []) ps (seen ++ catch ∷ []) text → Caught p catch
      → (all : List Catch) → others ++ (p ∷ ps) ≡ whole → AreCaught facts whole others seen → Unmarked text
      → catches_from content (seen ++ catch ∷ []) (map (tab_pattern stores) ps) text ≡ Some all → AreCaught facts whole whole all
  behind p others ps seen catch text rest here all parts before plain e =
      rest all (append_assoc others (p ∷ []) ps ∙ parts) (caught_more facts whole others seen p catch before here) plain e

  -- an item that is compared with the next item of the text
  by_match : (p : Pat) (others ps : List Pat) (seen : List Catch) (catch : Catch) (text : List Item) (test : Bool) → AllCaught (others ++ p ∷ []) ps (seen ++ catch ∷ []) text → (test ≡ true → Caught p catch)
      → (all : List Catch) → others ++ (p ∷ ps) ≡ whole → AreCaught facts whole others seen → Unmarked text
      → (if test then catches_from content (seen ++ catch ∷ []) (map (tab_pattern stores) ps) text else None) ≡ Some all → AreCaught facts whole whole all
  by_match p others ps seen catch text true rest here all parts before plain e = behind p others ps seen catch text rest (here refl) all parts before plain e
  by_match p others ps seen catch text false rest here all parts before plain e = absurd (none-some all e)

  rest_plain : (x : Item) (text : List Item) → Unmarked (x ∷ text) → Unmarked text
  rest_plain x text plain = All-tail (λ item. is_mark item ≡ false) x text plain

  abbrev IsBelow : ℕ → Type 0
  IsBelow store = store < count

  rest_below : (ns ms : List ℕ) → All IsBelow (ns ++ ms) → All IsBelow ms
  rest_below [] ms below = below
  rest_below (n ∷ ns) ms below = rest_below ns ms (All-tail IsBelow n (ns ++ ms) below)

  pub all_caught : (others ps : List Pat) → All IsBelow (flat_map stores_of_pattern ps) → (seen : List Catch) (text : List Item) → AllCaught others ps seen text
  all_caught others [] below seen [] all parts before plain e =
      subst (AreCaught facts whole whole) (same_Some seen all e) (subst (λ (ps : List Pat). AreCaught facts whole ps seen) (sym (append-nil others) ∙ parts) before)
  all_caught others [] below seen (x ∷ text) all parts before plain e = absurd (none-some all e)
  all_caught others (pattern.Char c ∷ ps) below seen [] all parts before plain e = absurd (none-some all e)
  all_caught others (pattern.Char c ∷ ps) below seen (x ∷ text) all parts before plain e =
      by_match (pattern.Char c) others ps seen (catch_of x None) text (is_item x (element.Char c)) (all_caught (others ++ pattern.Char c ∷ []) ps (rest_below (stores_of_pattern (pattern.Char c)) (flat_map stores_of_pattern ps) below) (seen ++ catch_of x None ∷ []) text)
      (char_caught c x) all parts before (rest_plain x text plain) e
  all_caught others (pattern.Mark m ∷ ps) below seen [] all parts before plain e = absurd (none-some all e)
  all_caught others (pattern.Mark m ∷ ps) below seen (x ∷ text) all parts before plain e =
      by_match (pattern.Mark m) others ps seen (catch_of x None) text (is_item x (element.Mark m)) (all_caught (others ++ pattern.Mark m ∷ []) ps (rest_below (stores_of_pattern (pattern.Mark m)) (flat_map stores_of_pattern ps) below) (seen ++ catch_of x None ∷ []) text)
      (mark_caught m x) all parts before (rest_plain x text plain) e
  all_caught others (pattern.Any s ∷ ps) below seen [] all parts before plain e = absurd (none-some all e)
  all_caught others (pattern.Any s ∷ ps) below seen (x ∷ text) all parts before plain e =
      let place : Option ℕ = place_of x (content (Numbered s)) in
      by_match (pattern.Any s) others ps seen (catch_of x place) text (is_some place) (all_caught (others ++ pattern.Any s ∷ []) ps (rest_below (stores_of_pattern (pattern.Any s)) (flat_map stores_of_pattern ps) below) (seen ++ catch_of x place ∷ []) text)
      (any_caught s (All-head IsBelow s (flat_map stores_of_pattern ps) below) x place refl) all parts before (rest_plain x text plain) e
  all_caught others (pattern.NotAny s ∷ ps) below seen [] all parts before plain e = absurd (none-some all e)
  all_caught others (pattern.NotAny s ∷ ps) below seen (x ∷ text) all parts before plain e =
      by_match (pattern.NotAny s) others ps seen (catch_of x None) text (not (is_some (place_of x (content (Numbered s))))) (all_caught (others ++ pattern.NotAny s ∷ []) ps (rest_below (stores_of_pattern (pattern.NotAny s)) (flat_map stores_of_pattern ps) below) (seen ++ catch_of x None ∷ []) text)
      (λ told. other_caught s x (All-head (λ item. is_mark item ≡ false) x text plain)) all parts before (rest_plain x text plain) e
  all_caught others (pattern.Index s k ∷ ps) below seen [] all parts before plain e = absurd (none-some all e)
  all_caught others (pattern.Index s k ∷ ps) below seen (x ∷ text) all parts before plain e =
      by_match (pattern.Index s k) others ps seen (catch_of x None) text (is_element x (element_at (content (Numbered s)) (place_caught seen k))) (all_caught (others ++ pattern.Index s k ∷ []) ps (rest_below (stores_of_pattern (pattern.Index s k)) (flat_map stores_of_pattern ps) below) (seen ++ catch_of x None ∷ []) text)
      (index_caught s k (All-head IsBelow s (flat_map stores_of_pattern ps) below) x (place_caught seen k)) all parts before (rest_plain x text plain) e
  all_caught others (pattern.ContextAt k ∷ ps) below seen [] all parts before plain e = absurd (none-some all e)
  all_caught others (pattern.ContextAt k ∷ ps) below seen (x ∷ text) all parts before plain e =
      by_match (pattern.ContextAt k) others ps seen (catch_of x None) text (is_same x (item_caught seen k)) (all_caught (others ++ pattern.ContextAt k ∷ []) ps (rest_below (stores_of_pattern (pattern.ContextAt k)) (flat_map stores_of_pattern ps) below) (seen ++ catch_of x None ∷ []) text)
      (repeated others (pattern.ContextAt k ∷ ps) seen k x parts before) all parts before (rest_plain x text plain) e
  all_caught others (pattern.Equal s v ∷ ps) below seen text all parts before plain e =
      behind (pattern.Equal s v) others ps seen nothing_caught text (all_caught (others ++ pattern.Equal s v ∷ []) ps (rest_below (stores_of_pattern (pattern.Equal s v)) (flat_map stores_of_pattern ps) below) (seen ++ nothing_caught ∷ []) text) (uncaught (pattern.Equal s v) refl refl) all parts before plain e
  all_caught others (pattern.Unequal s v ∷ ps) below seen text all parts before plain e =
      behind (pattern.Unequal s v) others ps seen nothing_caught text (all_caught (others ++ pattern.Unequal s v ∷ []) ps (rest_below (stores_of_pattern (pattern.Unequal s v)) (flat_map stores_of_pattern ps) below) (seen ++ nothing_caught ∷ []) text) (uncaught (pattern.Unequal s v) refl refl) all parts before plain e
  all_caught others (pattern.SystemEqual s v ∷ ps) below seen text all parts before plain e =
      behind (pattern.SystemEqual s v) others ps seen nothing_caught text (all_caught (others ++ pattern.SystemEqual s v ∷ []) ps (rest_below (stores_of_pattern (pattern.SystemEqual s v)) (flat_map stores_of_pattern ps) below) (seen ++ nothing_caught ∷ []) text) (uncaught (pattern.SystemEqual s v) refl refl) all parts before plain e
  all_caught others (pattern.SystemUnequal s v ∷ ps) below seen text all parts before plain e =
      behind (pattern.SystemUnequal s v) others ps seen nothing_caught text (all_caught (others ++ pattern.SystemUnequal s v ∷ []) ps (rest_below (stores_of_pattern (pattern.SystemUnequal s v)) (flat_map stores_of_pattern ps) below) (seen ++ nothing_caught ∷ []) text) (uncaught (pattern.SystemUnequal s v) refl refl) all parts before plain e
  all_caught others (pattern.Nul ∷ ps) below seen text all parts before plain e =
      behind pattern.Nul others ps seen nothing_caught text (all_caught (others ++ pattern.Nul ∷ []) ps (rest_below (stores_of_pattern (pattern.Nul)) (flat_map stores_of_pattern ps) below) (seen ++ nothing_caught ∷ []) text) (uncaught pattern.Nul refl refl) all parts before plain e

-- ---- sums and places

abbrev pub items_in : List Catch → List Item
items_in catches = filter_map (λ (catch : Catch). catch.item) catches

units_in : (o : Option Item) (items : List Item) → units (cons_option o items) ≡ units (item_list o) + units items
units_in None items = omega arith
units_in (Some x) items = omega arith

module _ (facts : Facts) (whole : List Pat) where
  pub units_most : (ps : List Pat) (catches : List Catch) → AreCaught facts whole ps catches → units (items_in catches) ≤ sum_by (width_in facts whole) ps
  units_most [] [] all = omega arith
  units_most [] (c ∷ catches) all = absurd all
  units_most (p ∷ ps) [] all = absurd all
  units_most (p ∷ ps) (c ∷ catches) all =
      omega (arith, all.0.most, units_most ps catches all.1, units_in c.item (items_in catches), sum_by-cons (width_in facts whole) p ps)

  pub units_least : (ps : List Pat) (catches : List Catch) → AreCaught facts whole ps catches → sum_by least_width ps ≤ units (items_in catches)
  units_least [] [] all = omega arith
  units_least [] (c ∷ catches) all = absurd all
  units_least (p ∷ ps) [] all = absurd all
  units_least (p ∷ ps) (c ∷ catches) all =
      omega (arith, all.0.least, units_least ps catches all.1, units_in c.item (items_in catches), sum_by-cons least_width p ps)

  pub caught_size : (ps : List Pat) (catches : List Catch) → AreCaught facts whole ps catches → length catches ≡ length ps
  caught_size [] [] all = refl
  caught_size [] (c ∷ catches) all = absurd all
  caught_size (p ∷ ps) [] all = absurd all
  caught_size (p ∷ ps) (c ∷ catches) all = ap suc (caught_size ps catches all.1)

  count_in : (o : Option Item) (items : List Item) → length (cons_option o items) ≡ cond (is_some o) 1 0 + length items
  count_in None items = omega arith
  count_in (Some x) items = omega arith

  pub caught_count : (ps : List Pat) (catches : List Catch) → AreCaught facts whole ps catches → length (items_in catches) ≡ count_by is_matched ps
  caught_count [] [] all = refl
  caught_count [] (c ∷ catches) all = absurd all
  caught_count (p ∷ ps) [] all = absurd all
  caught_count (p ∷ ps) (c ∷ catches) all =
      count_in c.item (items_in catches)
      ∙ (λ i. cond (all.0.kind i) 1 0 + caught_count ps catches all.1 i)
      ∙ sym (sum_by-cons (λ (q : Pat). cond (is_matched q) 1 0) p ps)

  -- the place that an `any` of a context found
  pub any_place : (ps : List Pat) (catches : List Catch) (before : ℕ) → AreCaught facts whole ps catches → IsAnyItem (slice_get ps before) → (place : ℕ) × (place_caught catches (suc before) ≡ Some place)
  any_place [] catches before all any = absurd any
  any_place (p ∷ ps) [] before all any = absurd all
  any_place (p ∷ ps) (c ∷ catches) zero all any = all.0.any any
  any_place (p ∷ ps) (c ∷ catches) (suc before) all any = any_place ps catches before all.1 any

  -- the item that a pattern of a context caught, among all caught items
  pub record ItemAt (ps : List Pat) (catches : List Catch) (before : ℕ) : Type 0 where
    pub item : Item
    pub caught : item_caught catches (suc before) ≡ Some item
    pub kept : slice_get (items_in catches) (before - count_by is_unmatched (take before ps)) ≡ Some item
    pub few : count_by is_unmatched (take before ps) ≤ before
    pub least : option_map_or least_width (slice_get ps before) 0 ≤ weight item

  item_here : (p : Pat) (ps : List Pat) (c : Catch) (catches : List Catch) → IsCaught facts whole p c → is_matched p ≡ true → (o : Option Item) → c.item ≡ o → ItemAt (p ∷ ps) (c ∷ catches) 0
  item_here p ps c catches caught matched None is = absurd (false_true (sym (ap is_some is) ∙ caught.kind ∙ matched))
  item_here p ps c catches caught matched (Some x) is =
      record {
        item = x;
        caught = is;
        kept = ap (λ (o : Option Item). slice_get (cons_option o (items_in catches)) 0) is;
        few = omega arith;
        least = subst (λ (n : ℕ). least_width p ≤ n) weighed caught.least;
      }
    where
      weighed : units (item_list c.item) ≡ weight x
      weighed = ap (λ (o : Option Item). units (item_list o)) is ∙ omega arith

  item_behind : (p : Pat) (ps : List Pat) (c : Catch) (catches : List Catch) (before : ℕ) → IsCaught facts whole p c → ItemAt ps catches before → (matched : Bool) → is_matched p ≡ matched → (o : Option Item) → c.item ≡ o → ItemAt (p ∷ ps) (c ∷ catches) (suc before)
  item_behind p ps c catches before caught rest true matched None is = absurd (false_true (sym (ap is_some is) ∙ caught.kind ∙ matched))
  item_behind p ps c catches before caught rest true matched (Some x) is =
      record {
        item = rest.item;
        caught = rest.caught;
        kept =
            ap (λ (o : Option Item). slice_get (cons_option o (items_in catches)) (suc before - count_by is_unmatched (take (suc before) (p ∷ ps)))) is
            ∙ ap (slice_get (x ∷ items_in catches)) place
            ∙ rest.kept;
        few = omega (arith, count, rest.few);
        least = rest.least;
      }
    where
      count : count_by is_unmatched (take (suc before) (p ∷ ps)) ≡ count_by is_unmatched (take before ps)
      count = sum_by-cons (λ (q : Pat). cond (is_unmatched q) 1 0) p (take before ps) ∙ ap (λ (b : Bool). cond (not b) 1 0 + count_by is_unmatched (take before ps)) matched ∙ omega arith

      place : suc before - count_by is_unmatched (take (suc before) (p ∷ ps)) ≡ suc (before - count_by is_unmatched (take before ps))
      place = omega (arith, count, rest.few)
  item_behind p ps c catches before caught rest false matched (Some x) is = absurd (false_true (sym (sym (ap is_some is) ∙ caught.kind ∙ matched)))
  item_behind p ps c catches before caught rest false matched None is =
      record {
        item = rest.item;
        caught = rest.caught;
        kept =
            ap (λ (o : Option Item). slice_get (cons_option o (items_in catches)) (suc before - count_by is_unmatched (take (suc before) (p ∷ ps)))) is
            ∙ ap (slice_get (items_in catches)) place
            ∙ rest.kept;
        few = omega (arith, count, rest.few);
        least = rest.least;
      }
    where
      count : count_by is_unmatched (take (suc before) (p ∷ ps)) ≡ 1 + count_by is_unmatched (take before ps)
      count = sum_by-cons (λ (q : Pat). cond (is_unmatched q) 1 0) p (take before ps) ∙ ap (λ (b : Bool). cond (not b) 1 0 + count_by is_unmatched (take before ps)) matched

      place : suc before - count_by is_unmatched (take (suc before) (p ∷ ps)) ≡ before - count_by is_unmatched (take before ps)
      place = omega (arith, count, rest.few)

  pub item_at : (ps : List Pat) (catches : List Catch) (before : ℕ) (p : Pat) → AreCaught facts whole ps catches → slice_get ps before ≡ Some p → is_matched p ≡ true → ItemAt ps catches before
  item_at [] catches before p all listed matched = absurd (none-some p listed)
  item_at (q ∷ ps) [] before p all listed matched = absurd all
  item_at (q ∷ ps) (c ∷ catches) zero p all listed matched = item_here q ps c catches all.0 (ap is_matched (same_Some q p listed) ∙ matched) c.item refl
  item_at (q ∷ ps) (c ∷ catches) (suc before) p all listed matched = item_behind q ps c catches before all.0 (item_at ps catches before p all.1 listed matched) (is_matched q) refl c.item refl
