-- Whether a rule holds is decided by the window, since no context is longer.
use Rattle.std.proofs.Common.{◌≡◌, ◌≢◌, ℕ, ◌+◌, ◌-◌, ◌≤◌, min, Bool, List, [], ◌∷◌, length, drop, map, Some, refl, sym, ◌∙◌, ap, subst, inl, inr, arith, eqb, leb}
use Rattle.std.specs.Prelude.{◌&&◌, if◌then◌else◌, None, slice_get}
use Rattle.std.specs.List.{list_all, list_any, All}
use Rattle.std.proofs.lemmas.Bool.{cases_lt}
use Rattle.std.proofs.lemmas.Bool.Decides.{nat_tests}
use Rattle.std.proofs.lemmas.List.{drop-drop, length-map}
use Rattle.std.proofs.lemmas.List.Elements.{All-head, All-tail, All-get_or}
use Rattle.std.proofs.lemmas.Option.{get_or_from_slice_get, slice_get_within}
use Rattle.kmn_base.specs.declared.items.Item.{Item}
use Rattle.kmn_base.specs.declared.keys.KeyPress.{KeyPress}
use Rattle.kmn_base.specs.Lists.{window}
use Rattle.kmn_base.proofs.Lists.{length-window}
use Rattle.rule_model.specs.declared.tables.Group.{Group}
use Rattle.rule_model.specs.declared.tables.Rule.{Rule}
use Rattle.rule_model.specs.declared.tables.Store.{Store}
use Rattle.rule_model.specs.declared.tables.Tables.{Tables}
use Rattle.rule_model.specs.Keyboard.{Pattern, RuleMeaning}
use Rattle.rule_model.specs.Choose.{first, first_with}
use Rattle.rule_model.specs.Match.{Content, catches_from}
use Rattle.rule_model.specs.Hold.{is_true, is_at_start, pattern_count, has_room, caught_by, holds}
use Rattle.rule_model.proofs.CaughtParts.{fitting_place}
use Rattle.rule_model.specs.Tab.{tab_pattern, tab_rule}
use Rattle.rule_index.proofs.ContextCounts.{few_patterns}
use Rattle.rule_matching.specs.MatchState.{AreShort}
use Rattle.rule_engine.specs.Event.{GroupChangesOwn, HasShortContexts, PlatformStays}

same_eq : (len n : ℕ) → n ≤ 63 → eqb len n ≡ eqb (min 64 len) n
same_eq len n few = elim (cases_lt len 64) [
  | inl short ↦ ap (λ (k : ℕ). eqb k n) (let e : len ≡ min 64 len = omega arith in e)
  | inr long ↦ let a : len ≢ n = omega arith in let b : min 64 len ≢ n = omega arith in grind (arith, nat_tests)
]

same_le : (len n : ℕ) → n ≤ 63 → leb n len ≡ leb n (min 64 len)
same_le len n few = grind (arith, nat_tests)

same_room : (context : List Pattern) (left : List Item) → length context ≤ 63 → has_room context left ≡ has_room context (window left)
same_room context left few =
    let n : ℕ = pattern_count context in
    let count : n ≤ 63 = omega (arith, few_patterns context) in
    let len : length (window left) ≡ min 64 (length left) = length-window left in
    let eq : eqb (length left) n ≡ eqb (length (window left)) n = same_eq (length left) n count ∙ ap (λ (k : ℕ). eqb k n) (sym len) in
    let le : leb n (length left) ≡ leb n (length (window left)) = same_le (length left) n count ∙ ap (λ (k : ℕ). leb n k) (sym len) in
    λ i. if list_any is_at_start context then eq i else le i

same_end : (n : ℕ) (left : List Item) → n ≤ 63 → drop (length left - n) left ≡ drop (length (window left) - n) (window left)
same_end n left few =
    let len : length (window left) ≡ min 64 (length left) = length-window left in
    let place : (length left - 64) + (length (window left) - n) ≡ length left - n = omega arith in
    ap (λ (k : ℕ). drop k left) (sym place) ∙ sym (drop-drop (length (window left) - n) (length left - 64) left)

-- if a context has at most 63 items, its rule holds on a list exactly where it holds on the window of the list, and catches the same
holds_in_window : (content : Content) (left : List Item) (press : KeyPress) (rule : RuleMeaning) → length rule.context ≤ 63
    → holds content left press rule ≡ holds content (window left) press rule
holds_in_window content left press rule few =
    let room = same_room rule.context left few in
    let end : _ = same_end (pattern_count rule.context) left (omega (arith, few_patterns rule.context)) in
    λ i. if list_all (is_true content) rule.context && room i
    then caught_by (catches_from content [] rule.context (end i)) (fitting_place content press rule.key)
    else None

-- if the contexts of rules are short, the first rule that holds on a list is the first that holds on its window
pub first_in_window : (content : Content) (left : List Item) (press : KeyPress) (stores : List Store) (using_keys : Bool) (rules : List Rule) → AreShort rules
    → first (holds content (window left) press) (map (tab_rule stores using_keys) rules) ≡ first (holds content left press) (map (tab_rule stores using_keys) rules)
first_in_window content left press stores using_keys [] short = refl
first_in_window content left press stores using_keys (rule ∷ rules) short =
    let one : length rule.context ≤ 60 = All-head (λ (r : Rule). length r.context ≤ 60) rule rules short in
    let count : length (map (tab_pattern stores) rule.context) ≤ 63 = omega (arith, one, length-map rule.context (tab_pattern stores)) in
    let here = sym (holds_in_window content left press (tab_rule stores using_keys rule) count) in
    let behind = first_in_window content left press stores using_keys rules (All-tail (λ (r : Rule). length r.context ≤ 60) rule rules short) in
    λ i. first_with (tab_rule stores using_keys rule) (here i) (behind i)

-- if all groups of tables have a property, each of them has it
all_at : (P : Group → Type 0) (groups : List Group) (n : ℕ) (group : Group) → All P groups → slice_get groups n ≡ Some group → P group
all_at P groups n group all is =
    subst P (get_or_from_slice_get groups n group group is) (All-get_or P groups n group (slice_get_within groups n group is) all)

pub short_in_group : (tables : Tables) (n : ℕ) (group : Group) → HasShortContexts tables → slice_get tables.groups n ≡ Some group → AreShort group.rules
short_in_group tables n group short is = all_at (λ (g : Group). AreShort g.rules) tables.groups n group short is

pub own_in_group : (tables : Tables) (n : ℕ) (group : Group) → PlatformStays tables → slice_get tables.groups n ≡ Some group → GroupChangesOwn (length tables.stores) group
own_in_group tables n group own is = all_at (GroupChangesOwn (length tables.stores)) tables.groups n group own is
