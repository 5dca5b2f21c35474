-- The laws of a keyboard's steps, which are true for every keyboard.
use Rattle.std.specs.Prelude.{◌≡◌, ◌≢◌, ◌⊎◌, ◌↔◌, ℕ, ◌+◌, ◌-◌, ◌^◌, ◌<◌, ◌≤◌, min, false, List, ◌∷◌, ◌++◌, length, take, drop, Option, Some, None, IsTrue, IsSome, slice_get, All, AllPairs, Contains}
use Rattle.kmn_base.specs.declared.items.Item.{Item}
use Rattle.kmn_base.specs.declared.items.Element.{Element}
use Rattle.kmn_base.specs.declared.keys.KeyPress.{KeyPress}
use Rattle.kmn_base.specs.declared.events.Event.{Event}
use Rattle.kmn_base.specs.declared.events.Event.TheVariants as event
use Rattle.kmn_base.specs.declared.codes.Code.{Code}
use Rattle.kmn_base.specs.declared.limits.TheConstants.{EVENT_ENTRIES, EVENT_PUTS, TEXT_CHARS}
use Rattle.kmn_base.specs.Lists.{characters, without_last, IsSound}
use Rattle.rule_model.specs.declared.event_state.Caught.{Caught}
use Rattle.rule_model.specs.declared.event_state.EventState.{EventState}
use Rattle.rule_model.specs.Keyboard.{Ref, Output, RuleMeaning, GroupMeaning, Keyboard}
use Rattle.rule_model.specs.Act.{act_one, act}
use Rattle.rule_model.specs.Enter.{by_default, do_group, enter_group}
use Rattle.rule_model.specs.Event.{State, whole_text, no_outcome, event_refusal, happening}
use Rattle.rule_model.specs.Choose.{Chosen, goes_before, best, first}
use Rattle.rule_model.specs.KeyEvent.{begin_event, after_key, deleted, inserted}
use Rattle.rule_model.specs.Trace.{Step, trace}

-- whether a rule holds, and what it then catches
abbrev pub Holding : Type 0
Holding = RuleMeaning → Option Caught

-- no rule of a list holds
abbrev pub NoneHolds : Holding → List RuleMeaning → Type 0
NoneHolds holds rules = All (λ rule. holds rule ≡ None) rules

-- a rule of a list holds, and no rule before it does
pub record IsFirst (holds : Holding) (rules : List RuleMeaning) (chosen : Chosen) : Type 0 where
  pub place : ℕ
  pub listed : slice_get rules place ≡ Some chosen.0
  pub held : holds chosen.0 ≡ Some chosen.1
  pub none_before : NoneHolds holds (take place rules)

-- a rule of a list holds, and no other rule of the list that holds precedes it
pub record IsBest (holds : Holding) (rules : List RuleMeaning) (chosen : Chosen) : Type 0 where
  pub listed : Contains rules chosen.0
  pub held : holds chosen.0 ≡ Some chosen.1
  pub none_better : All (λ rule. IsSome (holds rule) → goes_before rule chosen.0 ≡ false) rules

-- all rules of a list have different lines
abbrev pub LinesDiffer : List RuleMeaning → Type 0
LinesDiffer rules = AllPairs (λ a b. a.line ≢ b.line) rules

-- a selected rule precedes each other rule of a list that holds
abbrev pub GoesBeforeOthers : Holding → List RuleMeaning → Chosen → Type 0
GoesBeforeOthers holds rules chosen = All (λ rule. IsSome (holds rule) → (rule ≡ chosen.0) ⊎ IsTrue (goes_before chosen.0 rule)) rules

-- there is no first rule that holds exactly where no rule holds
abbrev pub FirstIsNone : Type 0
FirstIsNone = (holds : Holding) (rules : List RuleMeaning) → (first holds rules ≡ None) ↔ NoneHolds holds rules

-- a rule is the first that holds exactly where it holds and no rule before it in the list holds
abbrev pub FirstIsFirst : Type 0
FirstIsFirst = (holds : Holding) (rules : List RuleMeaning) (chosen : Chosen) → (first holds rules ≡ Some chosen) ↔ IsFirst holds rules chosen

-- there is no best rule that holds exactly where no rule holds
abbrev pub BestIsNone : Type 0
BestIsNone = (holds : Holding) (rules : List RuleMeaning) → (best holds rules ≡ None) ↔ NoneHolds holds rules

-- no rule of the list that holds precedes the best one
abbrev pub BestIsBest : Type 0
BestIsBest = (holds : Holding) (rules : List RuleMeaning) (chosen : Chosen) → best holds rules ≡ Some chosen → IsBest holds rules chosen

-- if lines differ, there is one best rule
abbrev pub OneIsBest : Type 0
OneIsBest = (holds : Holding) (rules : List RuleMeaning) (chosen : Chosen) → LinesDiffer rules → IsBest holds rules chosen → best holds rules ≡ Some chosen

-- if lines differ, the best rule precedes each other rule that holds
abbrev pub BestGoesBeforeOthers : Type 0
BestGoesBeforeOthers = (holds : Holding) (rules : List RuleMeaning) (chosen : Chosen) → LinesDiffer rules → best holds rules ≡ Some chosen → GoesBeforeOthers holds rules chosen

-- no rule precedes itself
abbrev pub NoneBeforeItself : Type 0
NoneBeforeItself = (a : RuleMeaning) → goes_before a a ≡ false

-- if one rule precedes a second and the second precedes a third, the first precedes the third
abbrev pub BeforeIsTransitive : Type 0
BeforeIsTransitive = (a b c : RuleMeaning) → IsTrue (goes_before a b) → IsTrue (goes_before b c) → IsTrue (goes_before a c)

-- if two rules have different lines, one precedes the other
abbrev pub OneGoesBefore : Type 0
OneGoesBefore = (a b : RuleMeaning) → a.line ≢ b.line → IsTrue (goes_before a b) ⊎ IsTrue (goes_before b a)

-- at most 50 groups were entered, and at most 4,096 items were put
pub record IsWithinBudget (entered put : ℕ) : Type 0 where
  pub groups : entered ≤ EVENT_ENTRIES
  pub items : put ≤ EVENT_PUTS

-- a press enters at most 50 groups and puts at most 4,096 items
abbrev pub PressIsWithinBudget : Type 0
PressIsWithinBudget = (kb : Keyboard) (press : KeyPress) (left : List Item) (current : List (List Element)) (saved : List (Option (List Element)))
    → let s = after_key kb press (begin_event left current saved) in IsWithinBudget s.entered s.put

-- no event of a trace enters more than 50 groups or puts more than 4,096 items
abbrev pub StepsAreWithinBudget : Type 0
StepsAreWithinBudget = (kb : Keyboard) (events : List Event)
    → All (λ (step : Step). IsWithinBudget step.happened.outcome.entered step.happened.outcome.put) (trace kb events).done

-- an event that is not a key press enters no group, puts no item and has no other outcome
abbrev pub OnlyKeysAct : Type 0
OnlyKeysAct = (kb : Keyboard) (state : State) (other : Event) → ((press : KeyPress) → other ≢ event.Key press) → (happening kb state other).outcome ≡ no_outcome

-- the number of a step is its position counted from 1, and saturates at 2 ^ 32 - 1
abbrev pub StepsAreNumbered : Type 0
StepsAreNumbered = (kb : Keyboard) (events : List Event) (place : ℕ) (step : Step)
    → slice_get (trace kb events).done place ≡ Some step → step.number ≡ min (place + 1) (2 ^ 32 - 1)

-- there are at most as many steps as events
abbrev pub NoMoreStepsThanEvents : Type 0
NoMoreStepsThanEvents = (kb : Keyboard) (events : List Event) → length (trace kb events).done ≤ length events

-- without a refusal, each event has a step
abbrev pub EachEventHasItsStep : Type 0
EachEventHasItsStep = (kb : Keyboard) (events : List Event) → (trace kb events).refused ≡ None → length (trace kb events).done ≡ length events

-- a refused event is the event after the last step, and has the next number
abbrev pub RefusalFollowsTheSteps : Type 0
RefusalFollowsTheSteps = (kb : Keyboard) (events : List Event) (number : ℕ) (code : Code) → (trace kb events).refused ≡ Some (number, code)
    → (length (trace kb events).done < length events) × (number ≡ min (length (trace kb events).done + 1) (2 ^ 32 - 1))

-- a change keeps a sound left list sound
abbrev pub KeepsSound : (EventState → EventState) → Type 0
KeepsSound step = (s : EventState) → IsSound s.left → IsSound (step s).left

-- entering any group keeps the left list sound
abbrev pub EnteringKeepsSound : (Ref → EventState → EventState) → Type 0
EnteringKeepsSound enter = (group : Ref) → KeepsSound (enter group)

-- if entering a group keeps the left list sound, each item of an output does
abbrev pub ItemKeepsSound : Type 0
ItemKeepsSound = (kb : Keyboard) (enter : Ref → EventState → EventState) (caught : Caught) (output : Output) → EnteringKeepsSound enter → KeepsSound (act_one kb enter caught output)

-- if entering a group keeps the left list sound, the items of an output do
abbrev pub OutputKeepsSound : Type 0
OutputKeepsSound = (kb : Keyboard) (enter : Ref → EventState → EventState) (caught : Caught) (outputs : List Output) → EnteringKeepsSound enter → KeepsSound (act kb enter caught outputs)

-- the default of a group keeps the left list sound
abbrev pub DefaultKeepsSound : Type 0
DefaultKeepsSound = (kb : Keyboard) (press : KeyPress) → KeepsSound (by_default kb press)

-- if entering a group keeps the left list sound, each group does, whichever rule it selects
abbrev pub GroupKeepsSound : Type 0
GroupKeepsSound = (kb : Keyboard) (enter : Ref → EventState → EventState) (press : KeyPress) (group : GroupMeaning) (chosen : Option Chosen)
    → EnteringKeepsSound enter → KeepsSound (do_group kb enter press group chosen)

-- nested entries of groups keep the left list sound, at each depth
abbrev pub GroupsKeepSound : Type 0
GroupsKeepSound = (depth : ℕ) (kb : Keyboard) (press : KeyPress) → EnteringKeepsSound (enter_group depth kb press)

-- a press keeps the left list sound
abbrev pub PressKeepsSound : Type 0
PressKeepsSound = (kb : Keyboard) (press : KeyPress) → KeepsSound (after_key kb press)

-- each event keeps the left list sound
abbrev pub EventKeepsSound : Type 0
EventKeepsSound = (kb : Keyboard) (state : State) (event : Event) → IsSound state.left → IsSound (happening kb state event).after.left

-- each step of a trace leaves a sound left list
abbrev pub StepsAreSound : Type 0
StepsAreSound = (kb : Keyboard) (events : List Event) → All (λ (step : Step). IsSound step.happened.after.left) (trace kb events).done

-- the last characters of the old text that an edit deletes
abbrev pub deleted_text : List Item → List Item → List ℕ
deleted_text old new = drop (length (characters old) - deleted old new) (characters old)

-- the new text is the old text without the deleted characters, followed by the inserted ones
abbrev pub EditGivesTheText : Type 0
EditGivesTheText = (old new : List Item) → without_last (deleted old new) (characters old) ++ inserted old new ≡ characters new

-- the deleted and the inserted text don't begin with the same character
abbrev pub EditIsShort : Type 0
EditIsShort = (old new : List Item) (c : ℕ) (more others : List ℕ) → deleted_text old new ≡ c ∷ more → inserted old new ≢ c ∷ others

-- if a press is not passed on, its outcome describes the edit of the text before the caret; the text after the caret is unchanged
abbrev pub PressEditsTheText : Type 0
PressEditsTheText = (kb : Keyboard) (state : State) (press : KeyPress) → let done = happening kb state (event.Key press) in
    done.outcome.pass ≡ false →
    (without_last done.outcome.delete (characters state.left) ++ done.inserted ≡ characters done.after.left) × (done.after.right ≡ state.right)

-- a press adds at most as many characters as it puts items
abbrev pub PressAddsWhatItPuts : Type 0
PressAddsWhatItPuts = (kb : Keyboard) (press : KeyPress) (left : List Item) (current : List (List Element)) (saved : List (Option (List Element)))
    → let s = after_key kb press (begin_event left current saved) in length (characters s.left) ≤ length (characters left) + s.put

-- a press inserts at most as many characters as it puts items
abbrev pub PressInsertsAtMostWhatItPuts : Type 0
PressInsertsAtMostWhatItPuts = (kb : Keyboard) (press : KeyPress) (left : List Item) (current : List (List Element)) (saved : List (Option (List Element)))
    → let s = after_key kb press (begin_event left current saved) in length (inserted left s.left) ≤ s.put

-- if an event is not refused, the whole text has at most 1,000,000 characters after it
abbrev pub EventKeepsTextInBounds : Type 0
EventKeepsTextInBounds = (kb : Keyboard) (state : State) (event : Event) → event_refusal state event ≡ None
    → length (whole_text state) ≤ TEXT_CHARS → length (whole_text (happening kb state event).after) ≤ TEXT_CHARS

-- the whole text has at most 1,000,000 characters after each step of a trace
abbrev pub StepsKeepTextInBounds : Type 0
StepsKeepTextInBounds = (kb : Keyboard) (events : List Event) → All (λ (step : Step). length (whole_text step.happened.after) ≤ TEXT_CHARS) (trace kb events).done
