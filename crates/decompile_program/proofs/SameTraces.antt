-- If two keyboards behave the same, they have the same traces.
use Rattle.std.proofs.Common.{◌≡◌, ℕ, zero, suc, ◌+◌, Bool, false, List, [], ◌∷◌, length, Option, None, Some, refl, sym, ◌∙◌, ap, subst, if◌then◌else◌}
use Rattle.std.specs.List.{AllZip}
use Rattle.kmn_base.specs.declared.events.Event.{Event}
use Rattle.kmn_base.specs.declared.events.Event.TheVariants as event
use Rattle.kmn_base.specs.declared.items.Item.{Item}
use Rattle.kmn_base.specs.declared.items.Element.{Element}
use Rattle.kmn_base.specs.declared.keys.KeyPress.{KeyPress}
use Rattle.kmn_base.specs.declared.limits.TheConstants.{EVENT_ENTRIES}
use Rattle.kmn_base.specs.Lists.{without_last}
use Rattle.rule_model.specs.declared.event_state.EventState.{EventState}
use Rattle.rule_model.specs.declared.event_state.Caught.{Caught}
use Rattle.rule_model.specs.Keyboard.{Ref, Output, RuleMeaning, GroupMeaning, Keyboard, First}
use Rattle.rule_model.specs.Content.{content, group_at}
use Rattle.rule_model.specs.Hold.{holds, holds_with, caught_by}
use Rattle.rule_model.proofs.CaughtParts.{fitting_place}
use Rattle.rule_model.specs.Act.{act, items_caught}
use Rattle.rule_model.specs.Choose.{Chosen, first, first_with, best, best_with, goes_before, choose}
use Rattle.rule_model.specs.Enter.{nothing, act_if_any, do_unmatched, do_group, in_group, enter_group}
use Rattle.rule_model.specs.KeyEvent.{begin_event, after_key}
use Rattle.rule_model.specs.Event.{State, happening_of, happening, event_refusal, unless_refused, event_of}
use Rattle.rule_model.specs.Trace.{trace, trace_of, steps_from, first_state}
use Rattle.compile_laws.proofs.Patterns.{context_caught, context_caught-same, holds-parts}
use Rattle.compile_laws.proofs.Traces.{steps_from-same}
use Rattle.compile_laws.proofs.Keyboards.{after_key-enters, trace-steps}
use Rattle.compile_laws.proofs.Groups.{default-same}
use Rattle.decompile_program.proofs.Alike.{SameEntry, SameOptional, SameRule, SameGroup, SameIfAny, Alike}

module _ (a b : Keyboard) (groups : Ref → Ref → Type 0) where
  holds-same : (values : List (List Element)) (left : List Item) (press : KeyPress) (x y : RuleMeaning) → SameRule a b groups x y
      → holds (content a.stores values) left press x ≡ holds (content b.stores values) left press y
  holds-same values left press x y same =
      holds-parts [] (content a.stores values) left press x
      ∙ ap (λ c. caught_by c (fitting_place (content a.stores values) press x.key)) (context_caught-same (content a.stores values) (content b.stores values) x.context y.context (same.context values) left)
      ∙ ap (λ k. caught_by (context_caught (content b.stores values) left y.context) (fitting_place (content a.stores values) press k)) same.first_key
      ∙ ap (λ k. caught_by (context_caught (content b.stores values) left y.context) (if k then Some None else None)) (same.fits press)
      ∙ ap (λ k. caught_by (context_caught (content b.stores values) left y.context) (fitting_place (content b.stores values) press k)) (sym same.second_key)
      ∙ sym (holds-parts [] (content b.stores values) left press y)

  -- two choices are the same
  SameChosen : Option Chosen → Option Chosen → Type 0
  SameChosen None None = Unit {0}
  SameChosen None (Some y) = ⊥
  SameChosen (Some x) None = ⊥
  SameChosen (Some x) (Some y) = SameRule a b groups x.0 y.0 × (x.1 ≡ y.1)

  first_with-same : (x y : RuleMeaning) (c : Option Caught) (more others : Option Chosen) → SameRule a b groups x y → SameChosen more others → SameChosen (first_with x c more) (first_with y c others)
  unfolding SameChosen
  first_with-same x y None more others same rest = rest
  first_with-same x y (Some c) more others same rest = (same, refl)

  first-same : (values : List (List Element)) (left : List Item) (press : KeyPress) (xs ys : List RuleMeaning) → AllZip (SameRule a b groups) xs ys
      → SameChosen (first (holds (content a.stores values) left press) xs) (first (holds (content b.stores values) left press) ys)
  unfolding SameChosen
  first-same values left press [] [] same = tt
  first-same values left press [] (y ∷ ys) same = absurd same
  first-same values left press (x ∷ xs) [] same = absurd same
  first-same values left press (x ∷ xs) (y ∷ ys) (same, more) =
      subst (λ c. SameChosen (first_with x (holds (content a.stores values) left press x) (first (holds (content a.stores values) left press) xs)) (first_with y c (first (holds (content b.stores values) left press) ys)))
      (holds-same values left press x y same)
      (first_with-same x y (holds (content a.stores values) left press x) _ _ same (first-same values left press xs ys more))

  module _ (e f : Ref → EventState → EventState) (entry : SameEntry groups e f) (press : KeyPress) (names : a.dictionary ≡ b.dictionary) where
    optional-same : (x y : Option (List Output)) → SameOptional a b groups x y → (s : EventState) → act_if_any a e x s ≡ act_if_any b f y s
    optional-same None None same s = refl
    optional-same None (Some ys) same s = absurd same
    optional-same (Some xs) None same s = absurd same
    optional-same (Some xs) (Some ys) same s = same e f entry nothing s

    unmatched-same : (x y : Option (List Output)) (using other : Bool) → SameOptional a b groups x y → using ≡ other → (s : EventState) → do_unmatched a e press x using s ≡ do_unmatched b f press y other s
    unmatched-same None None using other same k s = λ i. if k i then default-same a b names press s i else s
    unmatched-same None (Some ys) using other same k s = absurd same
    unmatched-same (Some xs) None using other same k s = absurd same
    unmatched-same (Some xs) (Some ys) using other same k s = same e f entry nothing s

    do-same : (x y : GroupMeaning) (c d : Option Chosen) → SameGroup a b groups x y → SameChosen c d → (s : EventState) → do_group a e press x c s ≡ do_group b f press y d s
    unfolding SameChosen
    do-same x y None None group same s = unmatched-same x.on_nomatch y.on_nomatch x.using_keys y.using_keys group.unmatched group.keys s
    do-same x y None (Some d) group same s = absurd same
    do-same x y (Some c) None group same s = absurd same
    do-same x y (Some c) (Some d) group (rule, caught) s =
        optional-same x.on_match y.on_match group.matched (act a e c.1 c.0.output (record s { left = without_last (length (items_caught c.1)) s.left }))
        ∙ ap (act_if_any b f y.on_match)
        (rule.output e f entry c.1 (record s { left = without_last (length (items_caught c.1)) s.left })
        ∙ ap (λ k. act b f k d.0.output (record s { left = without_last (length (items_caught k)) s.left })) caught)

    -- if neither keyboard has cased keys and the second chooses the first rule that holds, corresponding groups have the same effect
    in-same : a.cased ≡ [] → b.cased ≡ [] → b.choice ≡ First → (x y : Option GroupMeaning) → SameIfAny a b groups x y → (s : EventState) → in_group a e press x s ≡ in_group b f press y s
    in-same ac bc cb None None same s = refl
    in-same ac bc cb None (Some y) same s = absurd same
    in-same ac bc cb (Some x) None same s = absurd same
    in-same ac bc cb (Some x) (Some y) same s =
        ap (λ cased. do_group a e press x (choose a.choice (holds_with cased (content a.stores s.current) s.left press) x.rules) s) ac
        ∙ ap (λ c. do_group a e press x c s) (same.chosen (holds (content a.stores s.current) s.left press))
        ∙ do-same x y _ _ same (first-same s.current s.left press x.rules y.rules same.rules) s
        ∙ sym (λ i. do_group b f press y (choose (cb i) (holds_with (bc i) (content b.stores s.current) s.left press) y.rules) s)

  module _ (alike : Alike a b groups) where
    level-same : (n : ℕ) (press : KeyPress) → SameEntry groups (enter_group n a press) (enter_group n b press)
    level-same zero press g h same s = refl
    level-same (suc n) press g h same s =
        in-same (enter_group n a press) (enter_group n b press) (level-same n press) press alike.dictionary alike.first_cased alike.second_cased alike.choice
        (group_at a.groups g) (group_at b.groups h) (alike.each g h same) (record s { entered = s.entered + 1 })

    key-same : (press : KeyPress) (s : EventState) → after_key a press s ≡ after_key b press s
    key-same press s = after_key-enters a press s ∙ level-same EVENT_ENTRIES press a.start b.start alike.start s ∙ sym (after_key-enters b press s)

    happening-same : (state : State) (event : Event) → happening a state event ≡ happening b state event
    unfolding happening
    happening-same state (event.Key press) = ap (λ s. happening_of press s state) (key-same press (begin_event state.left state.current state.saved))
    happening-same state event = refl

    event-same : (state : State) (event : Event) → event_of a state event ≡ event_of b state event
    event-same state event = ap (unless_refused (event_refusal state event)) (happening-same state event)

    pub trace_same : (events : List Event) → trace a events ≡ trace b events
    trace_same events =
        trace-steps a events
        ∙ ((λ i. trace_of (alike.first i) (steps_from a 1 events (alike.first i)))
        ∙ (ap (trace_of (first_state b)) (steps_from-same a b event-same 1 events (first_state b))
        ∙ sym (trace-steps b events)))

-- no later rule takes precedence over a rule
abbrev pub NoneBefore : RuleMeaning → List RuleMeaning → Type 0
NoneBefore x [] = Unit {0}
NoneBefore x (y ∷ ys) = (goes_before y x ≡ false) × NoneBefore x ys

abbrev pub AreInOrder : List RuleMeaning → Type 0
AreInOrder [] = Unit {0}
AreInOrder (x ∷ xs) = NoneBefore x xs × AreInOrder xs

NotBefore : RuleMeaning → Option Chosen → Type 0
NotBefore x None = Unit {0}
NotBefore x (Some c) = goes_before c.0 x ≡ false

first-later : (x : RuleMeaning) (caught : RuleMeaning → Option Caught) (ys : List RuleMeaning) → NoneBefore x ys → NotBefore x (first caught ys)
unfolding NotBefore
first-later x caught [] later = tt
first-later x caught (y ∷ ys) (here, later) =
    elim (caught y) as (λ c. NotBefore x (first_with y c (first caught ys))) [ None ↦ first-later x caught ys later | Some c ↦ here ]

stays-first : (x : RuleMeaning) (c : Option Caught) (others : Option Chosen) → NotBefore x others → best_with x c others ≡ first_with x c others
unfolding NotBefore
stays-first x None others later = refl
stays-first x (Some c) None later = refl
stays-first x (Some c) (Some d) later = ap (λ b. if b then Some d else Some (x, c)) later

-- if rules are in order of precedence, the best that holds is the first that holds
pub best_is_first : (caught : RuleMeaning → Option Caught) (xs : List RuleMeaning) → AreInOrder xs → best caught xs ≡ first caught xs
best_is_first caught [] ordered = refl
best_is_first caught (x ∷ xs) (later, ordered) =
    ap (best_with x (caught x)) (best_is_first caught xs ordered) ∙ stays-first x (caught x) (first caught xs) (first-later x caught xs later)
