-- The number of items that a compiled context matches, and whether it has a `nul`, do not depend on the stores.
use Rattle.std.proofs.Common.{◌≡◌, ℕ, ◌+◌, ◌-◌, ◌∙◌, true, false, cond, None, drop, take, List, [], ◌∷◌, map, length, refl, sym}
use Rattle.std.proofs.lemmas.List.{take_rest}
use Rattle.std.proofs.lemmas.List.Sums.{sum_by-cons}
use Rattle.std.specs.Prelude.{◌||◌, nat_eq, nat_le, if◌then◌else◌}
use Rattle.std.specs.List.{list_any}
use Rattle.kmn_base.specs.declared.items.Item.{Item}
use Rattle.rule_model.specs.declared.event_state.Catch.{Catch}
use Rattle.rule_model.specs.declared.tables.Store.{Store}
use Rattle.rule_model.specs.declared.tables.Pat.{Pat}
use Rattle.rule_model.specs.declared.tables.Pat.TheVariants as pattern
use Rattle.rule_model.specs.Match.{Content, takes_item, catches_from}
use Rattle.rule_model.specs.Hold.{is_at_start, pattern_count, has_room}
use Rattle.rule_model.specs.Tab.{tab_pattern}
use Rattle.rule_model.specs.Plain.{caught_last}

-- whether a pattern matches an item does not depend on the stores
pub takes_same : (stores : List Store) (p : Pat) → takes_item (tab_pattern stores p) ≡ takes_item (tab_pattern [] p)
takes_same stores (pattern.Char c) = refl
takes_same stores (pattern.Mark m) = refl
takes_same stores (pattern.Any s) = refl
takes_same stores (pattern.NotAny s) = refl
takes_same stores (pattern.Index s offset) = refl
takes_same stores (pattern.ContextAt offset) = refl
takes_same stores (pattern.Equal s value) = refl
takes_same stores (pattern.Unequal s value) = refl
takes_same stores (pattern.SystemEqual id value) = refl
takes_same stores (pattern.SystemUnequal id value) = refl
takes_same stores pattern.Nul = refl

start_same : (stores : List Store) (p : Pat) → is_at_start (tab_pattern stores p) ≡ is_at_start (tab_pattern [] p)
start_same stores (pattern.Char c) = refl
start_same stores (pattern.Mark m) = refl
start_same stores (pattern.Any s) = refl
start_same stores (pattern.NotAny s) = refl
start_same stores (pattern.Index s offset) = refl
start_same stores (pattern.ContextAt offset) = refl
start_same stores (pattern.Equal s value) = refl
start_same stores (pattern.Unequal s value) = refl
start_same stores (pattern.SystemEqual id value) = refl
start_same stores (pattern.SystemUnequal id value) = refl
start_same stores pattern.Nul = refl

-- the number of items that a context matches does not depend on the stores
pub pattern_count_same : (stores : List Store) (context : List Pat) → pattern_count (map (tab_pattern stores) context) ≡ pattern_count (map (tab_pattern []) context)
pattern_count_same stores [] = refl
pattern_count_same stores (p ∷ ps) =
    sum_by-cons (λ q. cond (takes_item q) 1 0) (tab_pattern stores p) (map (tab_pattern stores) ps)
    ∙ (λ j. cond (takes_same stores p j) 1 0 + pattern_count_same stores ps j)
    ∙ sym (sum_by-cons (λ q. cond (takes_item q) 1 0) (tab_pattern [] p) (map (tab_pattern []) ps))

any_start_same : (stores : List Store) (context : List Pat) → list_any is_at_start (map (tab_pattern stores) context) ≡ list_any is_at_start (map (tab_pattern []) context)
any_start_same stores [] = refl
any_start_same stores (p ∷ ps) = λ j. start_same stores p j || any_start_same stores ps j

has_room_same : (stores : List Store) (context : List Pat) (left : List Item) → has_room (map (tab_pattern stores) context) left ≡ has_room (map (tab_pattern []) context) left
has_room_same stores context left =
    let count = pattern_count_same stores context in
    λ j. if any_start_same stores context j then nat_eq (length left) (count j) else nat_le (count j) (length left)

-- what a context catches if the list is long enough, and if it is not
pub caught_last_with_room : (content : Content) (stores : List Store) (context : List Pat) (left : List Item) (count : ℕ) (seen : List Catch) → has_room (map (tab_pattern []) context) left ≡ true → count ≡ pattern_count (map (tab_pattern []) context) → seen ≡ []
    → catches_from content seen (map (tab_pattern stores) context) (take (length left - (length left - count)) (drop (length left - count) left)) ≡ caught_last content (map (tab_pattern stores) context) left
caught_last_with_room content stores context left count seen room is none =
    let patterns = map (tab_pattern stores) context in
    (λ j. catches_from content (none j) patterns (take_rest left (length left - count) j))
    ∙ sym (λ j. if (has_room_same stores context left ∙ room) j then catches_from content [] patterns (drop (length left - (pattern_count_same stores context ∙ sym is) j) left) else None)

pub caught_last_without_room : (content : Content) (stores : List Store) (context : List Pat) (left : List Item) → has_room (map (tab_pattern []) context) left ≡ false
    → None ≡ caught_last content (map (tab_pattern stores) context) left
caught_last_without_room content stores context left room =
    let patterns = map (tab_pattern stores) context in
    sym (λ j. if (has_room_same stores context left ∙ room) j then catches_from content [] patterns (drop (length left - pattern_count patterns) left) else None)
