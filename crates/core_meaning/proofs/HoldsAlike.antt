-- A context holds in Keyman's own engine exactly where it does in this product, if the window is long enough for it.
use Rattle.std.specs.Prelude.{◌≡◌, ℕ, ◌+◌, ◌-◌, ◌≤◌, ◌⊎◌, Bool, true, false, not, ◌&&◌, ◌||◌, nat_eq, nat_le, cond, if◌then◌else◌, List, [], ◌∷◌, ◌++◌, length, map, drop, count_by, Option, None}
use Rattle.std.specs.List.{list_all, list_any}
use Rattle.std.proofs.Common.{refl, sym, ap, ◌∙◌, arith, inl, inr}
use Rattle.std.proofs.Math.Path.{subst}
use Rattle.std.proofs.Math.Seq.{drop-append-add}
use Rattle.std.proofs.lemmas.List.{length-append, length-drop}
use Rattle.std.proofs.lemmas.List.Sums.{sum_by-cons}
use Rattle.std.proofs.lemmas.Bool.Decides.{leb_tells}
use Rattle.kmn_base.specs.declared.items.Item.{Item}
use Rattle.rule_model.specs.declared.event_state.Catch.{Catch}
use Rattle.rule_model.specs.declared.tables.Pat.{Pat}
use Rattle.rule_model.specs.declared.tables.Pat.TheVariants as pattern
use Rattle.rule_model.specs.declared.tables.Store.{Store}
use Rattle.rule_model.specs.Match.{Content, takes_item, catches_from}
use Rattle.rule_model.specs.Hold.{is_true, is_at_start, pattern_count}
use Rattle.rule_model.specs.Patterns.{is_nul}
use Rattle.rule_model.specs.Tab.{tab_pattern}
use Rattle.core_meaning.specs.Events.{is_18, CoreKeyboard, last_items}
use Rattle.core_meaning.specs.Contexts.{Tried, begins_with_nul, core_condition, core_match}
use Rattle.core_meaning.specs.ContextLaws.{is_compared, IsAlike, AreAlike, FindsAlike, AreTriedAlike, caught_of, ContextsHoldAlike}
use Rattle.core_meaning.proofs.ContextsAlike.{contexts_match_alike}
use Rattle.core_meaning.proofs.ConditionsAlike.{conditions_are_alike}

-- an item that is compared in the same way is not a `nul`, and is compared here exactly where it is there
no_nul : (others : List Pat) (item : Pat) → IsAlike others item → is_nul item ≡ false
no_nul others (pattern.Char c) alike = refl
no_nul others (pattern.Mark m) alike = refl
no_nul others (pattern.Any s) alike = refl
no_nul others (pattern.NotAny s) alike = refl
no_nul others (pattern.Index s k) alike = refl
no_nul others (pattern.ContextAt k) alike = refl
no_nul others (pattern.Equal s v) alike = refl
no_nul others (pattern.Unequal s v) alike = refl
no_nul others (pattern.SystemEqual s v) alike = refl
no_nul others (pattern.SystemUnequal s v) alike = refl
no_nul others pattern.Nul alike = absurd alike

no_start : (stores : List Store) (others : List Pat) (item : Pat) → IsAlike others item → is_at_start (tab_pattern stores item) ≡ false
no_start stores others (pattern.Char c) alike = refl
no_start stores others (pattern.Mark m) alike = refl
no_start stores others (pattern.Any s) alike = refl
no_start stores others (pattern.NotAny s) alike = refl
no_start stores others (pattern.Index s k) alike = refl
no_start stores others (pattern.ContextAt k) alike = refl
no_start stores others (pattern.Equal s v) alike = refl
no_start stores others (pattern.Unequal s v) alike = refl
no_start stores others (pattern.SystemEqual s v) alike = refl
no_start stores others (pattern.SystemUnequal s v) alike = refl
no_start stores others pattern.Nul alike = absurd alike

same_kind : (stores : List Store) (others : List Pat) (item : Pat) → IsAlike others item → takes_item (tab_pattern stores item) ≡ is_compared item
same_kind stores others (pattern.Char c) alike = refl
same_kind stores others (pattern.Mark m) alike = refl
same_kind stores others (pattern.Any s) alike = refl
same_kind stores others (pattern.NotAny s) alike = refl
same_kind stores others (pattern.Index s k) alike = refl
same_kind stores others (pattern.ContextAt k) alike = refl
same_kind stores others (pattern.Equal s v) alike = refl
same_kind stores others (pattern.Unequal s v) alike = refl
same_kind stores others (pattern.SystemEqual s v) alike = refl
same_kind stores others (pattern.SystemUnequal s v) alike = refl
same_kind stores others pattern.Nul alike = absurd alike

no_first_nul : (others context : List Pat) → AreAlike others context → begins_with_nul context ≡ false
no_first_nul others [] alike = refl
no_first_nul others (item ∷ context) alike = no_nul others item alike.0

no_starts : (stores : List Store) (others context : List Pat) → AreAlike others context → list_any is_at_start (map (tab_pattern stores) context) ≡ false
no_starts stores others [] alike = refl
no_starts stores others (item ∷ context) alike = λ i. no_start stores others item alike.0 i || no_starts stores (others ++ item ∷ []) context alike.1 i

same_count : (stores : List Store) (others context : List Pat) → AreAlike others context → pattern_count (map (tab_pattern stores) context) ≡ count_by is_compared context
same_count stores others [] alike = refl
same_count stores others (item ∷ context) alike =
    sum_by-cons (λ p. cond (takes_item p) 1 0) (tab_pattern stores item) (map (tab_pattern stores) context)
    ∙ (λ i. cond (same_kind stores others item alike.0 i) 1 0 + same_count stores (others ++ item ∷ []) context alike.1 i)
    ∙ sym (sum_by-cons (λ (p : Pat). cond (is_compared p) 1 0) item context)

same_conditions : (kb : CoreKeyboard) (content : Content) (stores : List Store) (context : List Pat) → AreTriedAlike content stores context
    → list_all (core_condition kb content) context ≡ list_all (is_true content) (map (tab_pattern stores) context)
same_conditions kb content stores [] alike = refl
same_conditions kb content stores (item ∷ context) alike = λ i. conditions_are_alike kb content stores item alike.0 i && same_conditions kb content stores context alike.1 i

-- the text has n items exactly where the window has, if it is long enough
test_of : (a b : ℕ) → a ≤ b → nat_le a b ≡ true
test_of a b fits = grind (arith, leb_tells)

same_room : (n : ℕ) (before window : List Item) → (n ≤ length window) ⊎ (before ≡ []) → nat_le n (length (before ++ window)) ≡ nat_le n (length window)
same_room n before window (inl fits) = test_of n (length (before ++ window)) longer ∙ sym (test_of n (length window) fits)
  where
    longer : n ≤ length (before ++ window)
    longer = subst (λ (m : ℕ). n ≤ m) (sym (length-append before window)) (omega arith)
same_room n before window (inr none) = ap (λ (b : List Item). nat_le n (length (b ++ window))) none

-- the last n items of the text are those of the window, if it has as many
last_of_text : (n : ℕ) (before window : List Item) → n ≤ length window → drop (length (before ++ window) - n) (before ++ window) ≡ last_items n window
last_of_text n before window fits =
    ap (λ (m : ℕ). drop m (before ++ window)) (ap (λ (m : ℕ). m - n) (length-append before window) ∙ apart (length before) (length window) fits)
    ∙ drop-append-add before window (length window - n)
  where
    apart : (a b : ℕ) → n ≤ b → a + b - n ≡ a + (b - n)
    apart a b h = omega arith

count_of_last : (n : ℕ) (window : List Item) → n ≤ length window → length (last_items n window) ≡ n
count_of_last n window fits = length-drop (length window - n) window ∙ back (length window) fits
  where
    back : (b : ℕ) → n ≤ b → b - (b - n) ≡ n
    back b h = omega arith

fits_of : (a b : ℕ) → nat_le a b ≡ true → a ≤ b
fits_of a b told = grind (arith, leb_tells)

-- both hold by the same conditions and the same length of the text, and then match in the same way
by_tests : (conditions room : Bool) (here : Option (List Catch)) (there : Tried) → (room ≡ true → FindsAlike here there)
    → FindsAlike (if conditions && room then here else None) (if (room && true) && conditions then there else (false, []))
by_tests true true here there alike = alike refl
by_tests true false here there alike = refl
by_tests false true here there alike = refl
by_tests false false here there alike = refl

by_same_tests : (conditions conditions_there room room_here : Bool) (here : Option (List Catch)) (there : Tried) → conditions_there ≡ conditions → room_here ≡ room → (room ≡ true → FindsAlike here there)
    → FindsAlike (if conditions && room_here then here else None) (if (room && true) && conditions_there then there else (false, []))
by_same_tests conditions conditions_there room room_here here there same_conditions same_room alike =
    subst (λ (b : Bool). FindsAlike (if conditions && room_here then here else None) (if (room && true) && b then there else (false, []))) (sym same_conditions)
    (subst (λ (b : Bool). FindsAlike (if conditions && b then here else None) (if (room && true) && conditions then there else (false, []))) (sym same_room)
    (by_tests conditions room here there alike))

-- what a context catches here, given whether it has a `nul` and how many items it compares
abbrev caught_with : Content → List Store → List Pat → List Item → Bool → ℕ → Option (List Catch)
caught_with content stores context left start count =
    if list_all (is_true content) (map (tab_pattern stores) context) && (if start then nat_eq (length left) count else nat_le count (length left))
    then catches_from content [] (map (tab_pattern stores) context) (drop (length left - count) left)
    else None

-- whether a context holds there, given whether it begins with a `nul`
abbrev held_with : CoreKeyboard → Content → List Pat → List Item → Bool → Tried
held_with kb content context window nul =
    if (nat_le (count_by is_compared (if nul then drop 1 context else context)) (length window) && (not nul || nat_le (length window) (count_by is_compared (if nul then drop 1 context else context)))) && list_all (core_condition kb content) context
    then core_match content (if nul then drop 1 context else context) (if nul && is_18 kb.version then 0 ∷ [] else []) [] (last_items (count_by is_compared (if nul then drop 1 context else context)) window)
    else (false, [])

pub contexts_hold_alike : ContextsHoldAlike
contexts_hold_alike kb content stores context before window alike tried long =
    subst (λ (nul : Bool). FindsAlike (caught_of content (map (tab_pattern stores) context) (before ++ window)) (held_with kb content context window nul)) (sym (no_first_nul [] context alike))
    (subst (λ (start : Bool). FindsAlike (caught_with content stores context (before ++ window) start (pattern_count (map (tab_pattern stores) context))) (held_with kb content context window false)) (sym (no_starts stores [] context alike))
    (subst (λ (n : ℕ). FindsAlike (caught_with content stores context (before ++ window) false n) (held_with kb content context window false)) (sym (same_count stores [] context alike))
    (by_same_tests (list_all (is_true content) (map (tab_pattern stores) context)) (list_all (core_condition kb content) context) (nat_le count (length window)) (nat_le count (length (before ++ window)))
    (catches_from content [] (map (tab_pattern stores) context) (drop (length (before ++ window) - count) (before ++ window))) (core_match content context [] [] (last_items count window))
    (same_conditions kb content stores context tried) (same_room count before window long) matched)))
  where
    count : ℕ
    count = count_by is_compared context

    matched : nat_le count (length window) ≡ true → FindsAlike (catches_from content [] (map (tab_pattern stores) context) (drop (length (before ++ window) - count) (before ++ window))) (core_match content context [] [] (last_items count window))
    matched told =
        subst (λ (text : List Item). FindsAlike (catches_from content [] (map (tab_pattern stores) context) text) (core_match content context [] [] (last_items count window)))
        (sym (last_of_text count before window (fits_of count (length window) told)))
        (contexts_match_alike content stores context (last_items count window) alike (count_of_last count window (fits_of count (length window) told)))
