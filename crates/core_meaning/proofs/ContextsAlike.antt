-- Contexts match in Keyman's own engine as in this product, if each of their items is compared in the same way.
use Rattle.std.specs.Prelude.{◌≡◌, ℕ, zero, suc, ◌+◌, ◌<◌, Bool, true, false, not, ◌&&◌, cond, if◌then◌else◌, List, [], ◌∷◌, ◌++◌, length, map, take, filter_map, count_by, slice_get, unwrap_or, is_some, option_and_then, Option, Some, None}
use Rattle.std.specs.Option.{option_map_or}
use Rattle.std.specs.List.{list_all, cons_option}
use Rattle.std.proofs.Common.{refl, sym, ap, ◌∙◌, arith}
use Rattle.std.proofs.Math.Path.{subst}
use Rattle.std.proofs.lemmas.List.{map-append, append-nil}
use Rattle.std.proofs.lemmas.List.Elements.{filter_map-append}
use Rattle.std.proofs.lemmas.List.Sums.{sum_by-cons}
use Rattle.std.proofs.lemmas.Option.{none-some}
use Rattle.kmn_base.specs.declared.items.Item.{Item}
use Rattle.kmn_base.specs.declared.items.Element.TheVariants as element
use Rattle.rule_model.specs.declared.event_state.Catch.{Catch}
use Rattle.rule_model.specs.declared.tables.Pat.{Pat}
use Rattle.rule_model.specs.declared.tables.Pat.TheVariants as pattern
use Rattle.rule_model.specs.declared.tables.Store.{Store}
use Rattle.rule_model.specs.Keyboard.{Numbered}
use Rattle.rule_model.specs.Match.{Content, is_item, place_of, place_caught, item_caught, element_at, is_element, is_same, same_item, nothing_caught, catches_from}
use Rattle.rule_model.specs.Tab.{tab_pattern}
use Rattle.core_meaning.specs.Contexts.{fails, place_found, is_repeated, core_match}
use Rattle.core_meaning.specs.ContextLaws.{IsAnyItem, NamesAny, is_compared, NamesCompared, AreAlike, FindsAlike, ContextsMatchAlike}

-- an item of a context, with what it caught here and the place that it found there
record Met : Type 0 where
  item : Pat
  catch : Catch
  place : ℕ

-- a place that was caught was found, an `any` caught one, and an item that was compared caught an item of the text
record IsMet (met : Met) : Type 0 where
  same_place : (place : ℕ) → met.catch.place ≡ Some place → met.place ≡ place
  any_place : IsAnyItem (Some met.item) → met.catch.place ≡ Some met.place
  compared : is_compared met.item ≡ true → (x : Item) × (met.catch.item ≡ Some x)

abbrev AllMet : List Met → Type 0
AllMet [] = Unit {0}
AllMet (met ∷ others) = IsMet met × AllMet others

abbrev items_of : List Met → List Pat
items_of met = map (λ (m : Met). m.item) met

abbrev catches_of : List Met → List Catch
catches_of met = map (λ (m : Met). m.catch) met

abbrev places_of : List Met → List ℕ
places_of met = map (λ (m : Met). m.place) met

abbrev seen_of : List Met → List Item
seen_of met = filter_map (λ (m : Met). m.catch.item) met

all_with : (met : List Met) (m : Met) → AllMet met → IsMet m → AllMet (met ++ m ∷ [])
all_with [] m all last = (last, tt)
all_with (first ∷ met) m all last = (all.0, all_with met m all.1 last)

false_true : false ≡ true → ⊥
false_true e = grind arith

-- the place of an `any` was caught and found
any_alike : (met : List Met) → AllMet met → (offset : ℕ) → NamesAny (items_of met) offset → place_caught (catches_of met) offset ≡ Some (place_found (places_of met) offset)
any_alike met all zero named = absurd named
any_alike met all (suc before) named = at_place met all before named
  where
    at_place : (met : List Met) → AllMet met → (n : ℕ) → IsAnyItem (slice_get (items_of met) n) → option_and_then (λ (catch : Catch). catch.place) (slice_get (catches_of met) n) ≡ Some (unwrap_or (slice_get (places_of met) n) 0)
    at_place [] all n named = absurd named
    at_place (m ∷ met) all zero named = all.0.any_place named
    at_place (m ∷ met) all (suc n) named = at_place met all.1 n named

-- each place that was caught was found
places_alike : (met : List Met) → AllMet met → (offset place : ℕ) → place_caught (catches_of met) offset ≡ Some place → place_found (places_of met) offset ≡ place
places_alike met all zero place caught = absurd (none-some place caught)
places_alike met all (suc before) place caught = at_place met all before caught
  where
    at_place : (met : List Met) → AllMet met → (n : ℕ) → option_and_then (λ (catch : Catch). catch.place) (slice_get (catches_of met) n) ≡ Some place → unwrap_or (slice_get (places_of met) n) 0 ≡ place
    at_place [] all n caught = absurd (none-some place caught)
    at_place (m ∷ met) all zero caught = all.0.same_place place caught
    at_place (m ∷ met) all (suc n) caught = at_place met all.1 n caught

-- the first and the second of two that are both true
first_true : (a b : Bool) → (a && b) ≡ true → a ≡ true
first_true true b both = refl
first_true false b both = both

second_true : (a b : Bool) → (a && b) ≡ true → b ≡ true
second_true true b both = both
second_true false b both = absurd (false_true both)

-- `context(k)` compares with the same item, if no condition is before it
repeated_alike : (met : List Met) → AllMet met → (offset : ℕ) → NamesCompared (items_of met) offset → (x : Item) → is_same x (item_caught (catches_of met) offset) ≡ is_repeated (seen_of met) offset x
repeated_alike met all zero named x = absurd named
repeated_alike met all (suc before) named x = at_place met all before named.0 named.1
  where
    at_place : (met : List Met) → AllMet met → (n : ℕ) → n < length (items_of met) → list_all is_compared (take (suc n) (items_of met)) ≡ true
        → is_same x (option_and_then (λ (catch : Catch). catch.item) (slice_get (catches_of met) n)) ≡ option_map_or (same_item x) (slice_get (seen_of met) n) true
    at_place [] all n less compared = absurd (none_less less)
      where
        none_less : n < 0 → ⊥
        none_less h = omega arith
    at_place (m ∷ met) all zero less compared =
        ap (is_same x) caught ∙ ap (λ (o : Option Item). option_map_or (same_item x) (slice_get (cons_option o (seen_of met)) 0) true) (sym caught)
      where
        caught : m.catch.item ≡ Some (all.0.compared (first_true (is_compared m.item) (list_all is_compared []) compared)).0
        caught = (all.0.compared (first_true (is_compared m.item) (list_all is_compared []) compared)).1
    at_place (m ∷ met) all (suc n) less compared =
        at_place met all.1 n (omega arith) rest
        ∙ ap (λ (o : Option Item). option_map_or (same_item x) (slice_get (cons_option o (seen_of met)) (suc n)) true) (sym caught)
      where
        rest : list_all is_compared (take (suc n) (items_of met)) ≡ true
        rest = second_true (is_compared m.item) (list_all is_compared (take (suc n) (items_of met))) compared

        caught : m.catch.item ≡ Some (all.0.compared (first_true (is_compared m.item) (list_all is_compared (take (suc n) (items_of met))) compared)).0
        caught = (all.0.compared (first_true (is_compared m.item) (list_all is_compared (take (suc n) (items_of met))) compared)).1

-- a condition, which catches nothing and finds no place
abbrev met_condition : Pat → Met
met_condition item = record { item = item; catch = nothing_caught; place = 0 }

-- what is left to show of a context: the rest of it after what was caught, found and seen
abbrev Left : Content → List Store → List Pat → List Item → List Catch → List ℕ → List Item → Type 0
Left content stores rest text catches places seen = FindsAlike (catches_from content catches (map (tab_pattern stores) rest) text) (core_match content rest places seen text)

abbrev LeftOf : Content → List Store → List Pat → List Item → List Met → Type 0
LeftOf content stores rest text met = Left content stores rest text (catches_of met) (places_of met) (seen_of met)

-- the same after one more item
left_with : (content : Content) (stores : List Store) (rest : List Pat) (text : List Item) (met : List Met) (m : Met) (seen : List Item) → seen_of (m ∷ []) ≡ seen
    → LeftOf content stores rest text (met ++ m ∷ []) → Left content stores rest text (catches_of met ++ m.catch ∷ []) (places_of met ++ m.place ∷ []) (seen_of met ++ seen)
left_with content stores rest text met m seen same left =
    subst (λ (s : List Item). Left content stores rest text (catches_of met ++ m.catch ∷ []) (places_of met ++ m.place ∷ []) (seen_of met ++ s)) same
    (subst (λ (s : List Item). Left content stores rest text (catches_of met ++ m.catch ∷ []) (places_of met ++ m.place ∷ []) s) (filter_map-append (λ (k : Met). k.catch.item) met (m ∷ []))
    (subst (λ (p : List ℕ). Left content stores rest text (catches_of met ++ m.catch ∷ []) p (seen_of (met ++ m ∷ []))) (map-append (λ (k : Met). k.place) met (m ∷ []))
    (subst (λ (c : List Catch). Left content stores rest text c (places_of (met ++ m ∷ [])) (seen_of (met ++ m ∷ []))) (map-append (λ (k : Met). k.catch) met (m ∷ []))
    left)))

-- the same after a condition, which catches nothing
left_with_condition : (content : Content) (stores : List Store) (rest : List Pat) (text : List Item) (met : List Met) (item : Pat)
    → LeftOf content stores rest text (met ++ met_condition item ∷ []) → Left content stores rest text (catches_of met ++ nothing_caught ∷ []) (places_of met ++ 0 ∷ []) (seen_of met)
left_with_condition content stores rest text met item left =
    subst (λ (s : List Item). Left content stores rest text (catches_of met ++ nothing_caught ∷ []) (places_of met ++ 0 ∷ []) s) (append-nil (seen_of met))
    (left_with content stores rest text met (met_condition item) [] refl left)

-- an item that both compare with the next item of the text, with the same result
left_behind : (content : Content) (stores : List Store) (rest : List Pat) (text : List Item) (met : List Met) (m : Met) (x : Item) (here there : Bool) → here ≡ there → m.catch.item ≡ Some x
    → (here ≡ true → LeftOf content stores rest text (met ++ m ∷ []))
    → FindsAlike (if here then catches_from content (catches_of met ++ m.catch ∷ []) (map (tab_pattern stores) rest) text else None)
    ((if there then core_match content rest else fails) (places_of met ++ m.place ∷ []) (seen_of met ++ x ∷ []) text)
left_behind content stores rest text met m x here there same caught left =
    subst (λ (b : Bool). FindsAlike (if here then catches_from content (catches_of met ++ m.catch ∷ []) (map (tab_pattern stores) rest) text else None)
    ((if b then core_match content rest else fails) (places_of met ++ m.place ∷ []) (seen_of met ++ x ∷ []) text)) same
    (by_test here left)
  where
    by_test : (b : Bool) → (b ≡ true → LeftOf content stores rest text (met ++ m ∷ []))
        → FindsAlike (if b then catches_from content (catches_of met ++ m.catch ∷ []) (map (tab_pattern stores) rest) text else None)
        ((if b then core_match content rest else fails) (places_of met ++ m.place ∷ []) (seen_of met ++ x ∷ []) text)
    by_test true left = left_with content stores rest text met m (x ∷ []) (ap (λ (o : Option Item). cons_option o []) caught) (left refl)
    by_test false left = refl

abbrev met_item : Pat → Item → Option ℕ → ℕ → Met
met_item item x caught found = record { item = item; catch = record { item = Some x; place = caught }; place = found }

condition_met : (item : Pat) → is_compared item ≡ false → (IsAnyItem (Some item) → ⊥) → IsMet (met_condition item)
condition_met item compared not_any =
    record {
      same_place = λ place caught. absurd (none-some place caught);
      any_place = λ any. absurd (not_any any);
      compared = λ told. absurd (false_true (sym compared ∙ told));
    }

-- an item of a context that is not an `any`
item_met : (item : Pat) (x : Item) (found : ℕ) → (IsAnyItem (Some item) → ⊥) → IsMet (met_item item x None found)
item_met item x found not_any =
    record {
      same_place = λ place caught. absurd (none-some place caught);
      any_place = λ any. absurd (not_any any);
      compared = λ told. (x, refl);
    }

some_place : (o : Option ℕ) → is_some o ≡ true → o ≡ Some (unwrap_or o 0)
some_place None told = absurd (false_true told)
some_place (Some place) told = refl

any_met : (store : ℕ) (x : Item) (place : Option ℕ) → is_some place ≡ true → IsMet (met_item (pattern.Any store) x place (unwrap_or place 0))
any_met store x place told =
    record {
      same_place = λ found caught. ap (λ (o : Option ℕ). unwrap_or o 0) caught;
      any_place = λ any. some_place place told;
      compared = λ told. (x, refl);
    }

-- an `index` compares with the same element
index_alike : (content : Content) (store offset : ℕ) (met : List Met) → AllMet met → NamesAny (items_of met) offset → (x : Item)
    → is_element x (element_at (content (Numbered store)) (place_caught (catches_of met) offset)) ≡ is_element x (slice_get (content (Numbered store)) (place_found (places_of met) offset))
index_alike content store offset met all named x = ap (λ (o : Option ℕ). is_element x (element_at (content (Numbered store)) o)) (any_alike met all offset named)

rest_condition : (n : ℕ) (item : Pat) (rest : List Pat) → is_compared item ≡ false → n ≡ count_by is_compared (item ∷ rest) → n ≡ count_by is_compared rest
rest_condition n item rest told count = count ∙ sum_by-cons (λ (p : Pat). cond (is_compared p) 1 0) item rest ∙ ap (λ (b : Bool). cond b 1 0 + count_by is_compared rest) told ∙ none_more (count_by is_compared rest)
  where
    none_more : (n : ℕ) → 0 + n ≡ n
    none_more n = omega arith

rest_item : (n : ℕ) (item : Pat) (rest : List Pat) → is_compared item ≡ true → suc n ≡ count_by is_compared (item ∷ rest) → n ≡ count_by is_compared rest
rest_item n item rest told count = one_less n (count_by is_compared rest) (count ∙ sum_by-cons (λ (p : Pat). cond (is_compared p) 1 0) item rest ∙ ap (λ (b : Bool). cond b 1 0 + count_by is_compared rest) told)
  where
    one_less : (n m : ℕ) → suc n ≡ 1 + m → n ≡ m
    one_less n m e = omega arith

alike_with : (met : List Met) (m : Met) (rest : List Pat) → AreAlike (items_of met ++ m.item ∷ []) rest → AreAlike (items_of (met ++ m ∷ [])) rest
alike_with met m rest alike = subst (λ (others : List Pat). AreAlike others rest) (sym (map-append (λ (k : Met). k.item) met (m ∷ []))) alike

left_alike : (content : Content) (stores : List Store) (context : List Pat) (text : List Item) (met : List Met) → AllMet met → AreAlike (items_of met) context → length text ≡ count_by is_compared context → LeftOf content stores context text met
left_alike content stores [] [] met all alike count = (refl, places_alike met all)
left_alike content stores [] (x ∷ text) met all alike count = absurd (none_left (length text) count)
  where
    none_left : (n : ℕ) → suc n ≡ 0 → ⊥
    none_left n e = omega arith
left_alike content stores (pattern.Equal s v ∷ rest) text met all alike count =
    let m = met_condition (pattern.Equal s v) in
    left_with_condition content stores rest text met (pattern.Equal s v)
    (left_alike content stores rest text (met ++ m ∷ []) (all_with met m all (condition_met (pattern.Equal s v) refl (λ any. any)))
    (alike_with met m rest alike.1) (rest_condition (length text) (pattern.Equal s v) rest refl count))
left_alike content stores (pattern.Unequal s v ∷ rest) text met all alike count =
    let m = met_condition (pattern.Unequal s v) in
    left_with_condition content stores rest text met (pattern.Unequal s v)
    (left_alike content stores rest text (met ++ m ∷ []) (all_with met m all (condition_met (pattern.Unequal s v) refl (λ any. any)))
    (alike_with met m rest alike.1) (rest_condition (length text) (pattern.Unequal s v) rest refl count))
left_alike content stores (pattern.SystemEqual s v ∷ rest) text met all alike count =
    let m = met_condition (pattern.SystemEqual s v) in
    left_with_condition content stores rest text met (pattern.SystemEqual s v)
    (left_alike content stores rest text (met ++ m ∷ []) (all_with met m all (condition_met (pattern.SystemEqual s v) refl (λ any. any)))
    (alike_with met m rest alike.1) (rest_condition (length text) (pattern.SystemEqual s v) rest refl count))
left_alike content stores (pattern.SystemUnequal s v ∷ rest) text met all alike count =
    let m = met_condition (pattern.SystemUnequal s v) in
    left_with_condition content stores rest text met (pattern.SystemUnequal s v)
    (left_alike content stores rest text (met ++ m ∷ []) (all_with met m all (condition_met (pattern.SystemUnequal s v) refl (λ any. any)))
    (alike_with met m rest alike.1) (rest_condition (length text) (pattern.SystemUnequal s v) rest refl count))
left_alike content stores (pattern.Char c ∷ rest) [] met all alike count = refl
left_alike content stores (pattern.Char c ∷ rest) (x ∷ text) met all alike count =
    let m = met_item (pattern.Char c) x None 0 in
    left_behind content stores rest text met m x (is_item x (element.Char c)) (is_item x (element.Char c)) refl refl
    (λ told. left_alike content stores rest text (met ++ m ∷ []) (all_with met m all (item_met (pattern.Char c) x 0 (λ any. any))) (alike_with met m rest alike.1) (rest_item (length text) (pattern.Char c) rest refl count))
left_alike content stores (pattern.Mark c ∷ rest) [] met all alike count = refl
left_alike content stores (pattern.Mark c ∷ rest) (x ∷ text) met all alike count =
    let m = met_item (pattern.Mark c) x None 0 in
    left_behind content stores rest text met m x (is_item x (element.Mark c)) (is_item x (element.Mark c)) refl refl
    (λ told. left_alike content stores rest text (met ++ m ∷ []) (all_with met m all (item_met (pattern.Mark c) x 0 (λ any. any))) (alike_with met m rest alike.1) (rest_item (length text) (pattern.Mark c) rest refl count))
left_alike content stores (pattern.Any s ∷ rest) [] met all alike count = refl
left_alike content stores (pattern.Any s ∷ rest) (x ∷ text) met all alike count =
    let m = met_item (pattern.Any s) x (place_of x (content (Numbered s))) (unwrap_or (place_of x (content (Numbered s))) 0) in
    left_behind content stores rest text met m x (is_some (place_of x (content (Numbered s)))) (is_some (place_of x (content (Numbered s)))) refl refl
    (λ told. left_alike content stores rest text (met ++ m ∷ []) (all_with met m all (any_met s x (place_of x (content (Numbered s))) told)) (alike_with met m rest alike.1) (rest_item (length text) (pattern.Any s) rest refl count))
left_alike content stores (pattern.NotAny s ∷ rest) [] met all alike count = refl
left_alike content stores (pattern.NotAny s ∷ rest) (x ∷ text) met all alike count =
    let m = met_item (pattern.NotAny s) x None 0 in
    left_behind content stores rest text met m x (not (is_some (place_of x (content (Numbered s))))) (not (is_some (place_of x (content (Numbered s))))) refl refl
    (λ told. left_alike content stores rest text (met ++ m ∷ []) (all_with met m all (item_met (pattern.NotAny s) x 0 (λ any. any))) (alike_with met m rest alike.1) (rest_item (length text) (pattern.NotAny s) rest refl count))
left_alike content stores (pattern.Index s k ∷ rest) [] met all alike count = refl
left_alike content stores (pattern.Index s k ∷ rest) (x ∷ text) met all alike count =
    let m = met_item (pattern.Index s k) x None (place_found (places_of met) k) in
    left_behind content stores rest text met m x (is_element x (element_at (content (Numbered s)) (place_caught (catches_of met) k))) (is_element x (slice_get (content (Numbered s)) (place_found (places_of met) k))) (index_alike content s k met all alike.0 x) refl
    (λ told. left_alike content stores rest text (met ++ m ∷ []) (all_with met m all (item_met (pattern.Index s k) x (place_found (places_of met) k) (λ any. any))) (alike_with met m rest alike.1) (rest_item (length text) (pattern.Index s k) rest refl count))
left_alike content stores (pattern.ContextAt k ∷ rest) [] met all alike count = refl
left_alike content stores (pattern.ContextAt k ∷ rest) (x ∷ text) met all alike count =
    let m = met_item (pattern.ContextAt k) x None 0 in
    left_behind content stores rest text met m x (is_same x (item_caught (catches_of met) k)) (is_repeated (seen_of met) k x) (repeated_alike met all k alike.0 x) refl
    (λ told. left_alike content stores rest text (met ++ m ∷ []) (all_with met m all (item_met (pattern.ContextAt k) x 0 (λ any. any))) (alike_with met m rest alike.1) (rest_item (length text) (pattern.ContextAt k) rest refl count))
left_alike content stores (pattern.Nul ∷ rest) text met all alike count = absurd alike.0

pub contexts_match_alike : ContextsMatchAlike
contexts_match_alike content stores context text alike count = left_alike content stores context text [] tt alike count
