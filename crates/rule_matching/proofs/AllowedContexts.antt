-- What a context catches, pattern by pattern, if each condition and each `nul` is satisfied, and that this decides whether a record holds.
use Rattle.std.proofs.Common.{◌≡◌, ℕ, ◌-◌, ◌<◌, ◌≤◌, Bool, true, false, List, [], ◌∷◌, ◌++◌, length, drop, map, Option, Some, None, refl, sym, ◌∙◌, ap, inl, inr, arith}
use Rattle.std.specs.Prelude.{if◌then◌else◌, ◌&&◌, ◌||◌, not, nat_eq, nat_le}
use Rattle.std.specs.List.{list_all, list_any}
use Rattle.std.proofs.lemmas.Bool.{cases_Bool, eqb-true, le-leb, lt-leb}
use Rattle.std.proofs.Math.Bool.{and-false}
use Rattle.kmn_base.specs.declared.items.Item.{Item}
use Rattle.kmn_base.specs.declared.keys.KeyPress.{KeyPress}
use Rattle.kmn_base.specs.declared.keys.RuleKey.TheVariants as key
use Rattle.virtual_keys.specs.Fits.{key_fits}
use Rattle.rule_model.specs.declared.event_state.Catch.{Catch}
use Rattle.rule_model.specs.declared.tables.Rule.{Rule}
use Rattle.rule_model.specs.declared.tables.Store.{Store}
use Rattle.rule_model.specs.Keyboard.{Pattern, IsChar, IsMark, IsAny, IsNotAny, IsIndex, IsContextAt, IfEqual, IfUnequal, AtStart}
use Rattle.rule_model.specs.Match.{Content, takes_item, catches_from}
use Rattle.rule_model.specs.Hold.{is_true, is_at_start, pattern_count, has_room, caught_by, holds}
use Rattle.rule_model.specs.Tab.{tab_pattern, tab_rule}
use Rattle.rule_matching.specs.Matching.{is_allowed, allowed, allowed_catches}
use Rattle.rule_model.proofs.PlainContexts.{pattern_count_same}

-- if a pattern takes an item, it is allowed
pub taking_is_allowed : (content : Content) (whole : Bool) (pattern : Pattern) → takes_item pattern ≡ true → is_allowed content whole pattern ≡ true
taking_is_allowed content whole (IsChar c) takes = refl
taking_is_allowed content whole (IsMark m) takes = refl
taking_is_allowed content whole (IsAny store) takes = refl
taking_is_allowed content whole (IsNotAny store) takes = refl
taking_is_allowed content whole (IsIndex store offset) takes = refl
taking_is_allowed content whole (IsContextAt offset) takes = refl
taking_is_allowed content whole (IfEqual store value) takes = absurd (cc)
taking_is_allowed content whole (IfUnequal store value) takes = absurd (cc)
taking_is_allowed content whole AtStart takes = absurd (cc)

if_none : {X : Type 0} (b : Bool) (x : Option X) → x ≡ None → (if b then x else None) ≡ None
if_none true x none = none
if_none false x none = refl

module _ (content : Content) (whole : Bool) (seen : List Catch) (pattern : Pattern) (patterns : List Pattern) (text : List Item) where
  -- if the first pattern is allowed, the patterns after it decide
  others_decide : is_allowed content whole pattern ≡ true
      → allowed_catches content whole seen (pattern ∷ patterns) text ≡ (if allowed content whole patterns then catches_from content seen (pattern ∷ patterns) text else None)
  others_decide is = ap (λ (b : Bool). if b && allowed content whole patterns then catches_from content seen (pattern ∷ patterns) text else None) is

  -- if the first pattern takes an item, it catches the same with the conditions as without them
  pub allowed_with_item : takes_item pattern ≡ true → (catch : Catch) (behind : List Item)
      → catches_from content seen (pattern ∷ patterns) text ≡ catches_from content (seen ++ catch ∷ []) patterns behind
      → allowed_catches content whole seen (pattern ∷ patterns) text ≡ allowed_catches content whole (seen ++ catch ∷ []) patterns behind
  allowed_with_item takes catch behind is =
      others_decide (taking_is_allowed content whole pattern takes)
      ∙ ap (λ (caught : Option (List Catch)). if allowed content whole patterns then caught else None) is

-- if the patterns catch nothing, they catch nothing with their conditions
pub allowed_catches_none : (content : Content) (whole : Bool) (seen : List Catch) (patterns : List Pattern) (text : List Item)
    → catches_from content seen patterns text ≡ None → allowed_catches content whole seen patterns text ≡ None
allowed_catches_none content whole seen patterns text none = if_none (allowed content whole patterns) (catches_from content seen patterns text) none

-- testing the conditions and the length for the first pattern and the others together is the same as testing them pattern by pattern
one_and_others : (here start others any whole : Bool)
    → ((here && others) && (if start || any then whole else true)) ≡ ((here && (not start || whole)) && (others && (if any then whole else true)))
one_and_others false start others any whole = refl
one_and_others true false false any whole = refl
one_and_others true false true any whole = refl
one_and_others true true false any true = refl
one_and_others true true false any false = refl
one_and_others true true true true true = refl
one_and_others true true true false true = refl
one_and_others true true true any false = refl

conditions_and_room : (content : Content) (whole : Bool) (patterns : List Pattern)
    → (list_all (is_true content) patterns && (if list_any is_at_start patterns then whole else true)) ≡ allowed content whole patterns
conditions_and_room content whole [] = refl
conditions_and_room content whole (pattern ∷ patterns) =
    one_and_others (is_true content pattern) (is_at_start pattern) (list_all (is_true content) patterns) (list_any is_at_start patterns) whole
    ∙ ap (λ (b : Bool). is_allowed content whole pattern && b) (conditions_and_room content whole patterns)

-- `caught_by` can be applied before or after a test
caught_by_if : (b : Bool) (catches : Option (List Catch)) → caught_by (if b then catches else None) (Some None) ≡ (if b then caught_by catches (Some None) else None)
caught_by_if true catches = refl
caught_by_if false catches = refl

caught_by_none : (catches : Option (List Catch)) → caught_by catches None ≡ None
caught_by_none None = refl
caught_by_none (Some catches) = refl

if_same : (b c : Bool) → (if b then c else c) ≡ c
if_same true c = refl
if_same false c = refl

-- if a number is less than another, they are not equal
not_larger : (a b : ℕ) → a < b → nat_eq a b ≡ false
not_larger a b less = elim (cases_Bool (nat_eq a b)) [
  | inl same ↦ absurd (omega (arith, less, eqb-true a b same))
  | inr other ↦ other
]

module _ (content : Content) (press : KeyPress) (stores : List Store) (using_keys : Bool) (rule : Rule) (left : List Item) (count : ℕ) where
  abbrev patterns : List Pattern
  patterns = map (tab_pattern stores) rule.context

  abbrev is_fitting : Bool
  is_fitting = key_fits (if using_keys then rule.key else key.Any) press

  abbrev found : ℕ → Option (List Catch)
  found taken = catches_from content [] patterns (drop (length left - taken) left)

  -- if the key of a record does not fit, the record does not hold
  pub unfitting_holds_not : is_fitting ≡ false → None ≡ holds content left press (tab_rule stores using_keys rule)
  unfitting_holds_not unfit =
      let caught : Option (List Catch) = found (pattern_count patterns) in
      let may : Bool = list_all (is_true content) patterns && has_room patterns left in
      sym (ap (λ (b : Bool). if may then caught_by caught (if b then Some None else None) else None) unfit
      ∙ if_none may (caught_by caught None) (caught_by_none caught))

  -- if a record takes more items than there are, it does not hold
  pub short_holds_not : count ≡ pattern_count (map (tab_pattern []) rule.context) → length left < count
      → None ≡ holds content left press (tab_rule stores using_keys rule)
  short_holds_not is short =
      let taken : ℕ = pattern_count patterns in
      let less : length left < taken = omega (arith, short, is, pattern_count_same stores rule.context) in
      let conditions : Bool = list_all (is_true content) patterns in
      let place : Option (Option ℕ) = if is_fitting then Some None else None in
      let roomless : has_room patterns left ≡ false
      = (λ i. if list_any is_at_start patterns then not_larger (length left) taken less i else lt-leb taken (length left) less i)
      ∙ if_same (list_any is_at_start patterns) false in
      sym (ap (λ (b : Bool). if conditions && b then caught_by (found taken) place else None) roomless
      ∙ ap (λ (b : Bool). if b then caught_by (found taken) place else None) (and-false conditions))

  -- if the key of a record fits and the list has enough items, the record catches what its context catches if each condition and each
  -- `nul` is satisfied
  pub allowed_holds : is_fitting ≡ true → count ≡ pattern_count (map (tab_pattern []) rule.context) → count ≤ length left
      → caught_by (allowed_catches content (nat_eq (length left) count) [] patterns (drop (length left - count) left)) (Some None)
      ≡ holds content left press (tab_rule stores using_keys rule)
  allowed_holds fit is few =
      let whole : Bool = nat_eq (length left) count in
      let same : count ≡ pattern_count patterns = is ∙ sym (pattern_count_same stores rule.context) in
      let enough : nat_le count (length left) ≡ true = le-leb count (length left) few in
      let start : Bool = list_any is_at_start patterns in
      let conditions : Bool = list_all (is_true content) patterns in
      caught_by_if (allowed content whole patterns) (found count)
      ∙ (ap (λ (b : Bool). if b then caught_by (found count) (Some None) else None) (sym (conditions_and_room content whole patterns))
      ∙ ((λ i. if conditions && (if start then whole else sym enough i) then caught_by (found count) (if sym fit i then Some None else None) else None)
      ∙ ap (λ (taken : ℕ). if conditions && (if start then nat_eq (length left) taken else nat_le taken (length left))
      then caught_by (found taken) (if is_fitting then Some None else None) else None) same))
