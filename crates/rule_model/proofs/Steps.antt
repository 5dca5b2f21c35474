-- If each event keeps a fact, each step of a trace keeps it; and how the steps of a trace are numbered.
use Rattle.std.proofs.Common.{◌≡◌, ℕ, ◌+◌, ◌-◌, ◌^◌, ◌<◌, ◌≤◌, min, zero, suc, List, [], ◌∷◌, length, Option, Some, None, Result, Ok, Err, refl, ap, arith}
use Rattle.std.specs.Prelude.{slice_get}
use Rattle.std.specs.List.{All}
use Rattle.std.proofs.lemmas.List.Elements.{All-nil, All-cons}
use Rattle.std.proofs.lemmas.Option.{none-some, some_pair_parts}
use Rattle.kmn_base.specs.declared.events.Event.{Event}
use Rattle.kmn_base.specs.declared.codes.Code.{Code}
use Rattle.rule_model.specs.Keyboard.{Keyboard}
use Rattle.rule_model.specs.Act.{one_more}
use Rattle.rule_model.specs.Event.{State, Happening, happening, event_refusal, unless_refused, event_of}
use Rattle.rule_model.specs.Trace.{first_state, Step, Steps, step_then, steps_from, trace}
use Rattle.rule_model.specs.StepLaws.{StepsAreNumbered, NoMoreStepsThanEvents, EachEventHasItsStep, RefusalFollowsTheSteps}

-- an event that is not refused keeps a fact about states, and its effect has another property
abbrev pub EventKeeps : (State → Type 0) → (Happening → Type 0) → Keyboard → Type 0
EventKeeps I Q kb = (state : State) (event : Event) → event_refusal state event ≡ None → I state → Q (happening kb state event) × I (happening kb state event).after

module _ (I : State → Type 0) (Q : Happening → Type 0) where
  step_keeps : (number : ℕ) (rest : State → Steps) → ((state : State) → I state → All (λ (step : Step). Q step.happened) (rest state).done)
      → (refusal : Option Code) (happened : Happening) → (refusal ≡ None → Q happened × I happened.after)
      → All (λ (step : Step). Q step.happened) (step_then number rest (unless_refused refusal happened)).done
  step_keeps number rest rest_keeps None happened h =
      All-cons (λ (step : Step). Q step.happened) (record { number = number; happened = happened }) (rest happened.after).done (h refl).0
      (rest_keeps happened.after (h refl).1)
  step_keeps number rest rest_keeps (Some code) happened h = All-nil (λ (step : Step). Q step.happened)

  pub steps_keep : (kb : Keyboard) → EventKeeps I Q kb → (number : ℕ) (events : List Event) (state : State) → I state
      → All (λ (step : Step). Q step.happened) (steps_from kb number events state).done
  steps_keep kb each number [] state h = All-nil (λ (step : Step). Q step.happened)
  steps_keep kb each number (event ∷ events) state h =
      step_keeps number (steps_from kb (one_more number) events) (λ after kept. steps_keep kb each (one_more number) events after kept)
      (event_refusal state event) (happening kb state event) (λ allowed. each state event allowed h)

  pub trace_keeps : (kb : Keyboard) → EventKeeps I Q kb → I (first_state kb) → (events : List Event) → All (λ (step : Step). Q step.happened) (trace kb events).done
  unfolding trace
  trace_keeps kb each h events = steps_keep kb each 1 events (first_state kb) h

-- ---- numbers

-- the number of the step at a position after a number
abbrev number_at : ℕ → ℕ → ℕ
number_at number place = min (place + number) (2 ^ 32 - 1)

step_numbered : (number : ℕ) (rest : State → Steps) → number ≤ 2 ^ 32 - 1
    → ((state : State) (place : ℕ) (step : Step) → slice_get (rest state).done place ≡ Some step → step.number ≡ number_at (one_more number) place)
    → (r : Result Happening Code) (place : ℕ) (step : Step) → slice_get (step_then number rest r).done place ≡ Some step → step.number ≡ number_at number place
step_numbered number rest few h (Ok happened) zero step e =
    let same : ◌≡◌ {A = Step} (record { number = number; happened = happened }) step = cc in
    let mine : number ≡ step.number = ap (λ (s : Step). s.number) same in omega arith
step_numbered number rest few h (Ok happened) (suc place) step e =
    let later : step.number ≡ number_at (one_more number) place = h happened.after place step e in omega arith
step_numbered number rest few h (Err code) place step e = absurd (cc)

steps_numbered : (kb : Keyboard) (number : ℕ) (events : List Event) (state : State) (place : ℕ) (step : Step) → number ≤ 2 ^ 32 - 1
    → slice_get (steps_from kb number events state).done place ≡ Some step → step.number ≡ number_at number place
steps_numbered kb number [] state place step few e = absurd (cc)
steps_numbered kb number (event ∷ events) state place step few e =
    step_numbered number (steps_from kb (one_more number) events) few
    (λ after n s f. steps_numbered kb (one_more number) events after n s (omega arith) f) (event_of kb state event) place step e

pub steps_are_numbered : StepsAreNumbered
unfolding trace
steps_are_numbered kb events place step e = steps_numbered kb 1 events (first_state kb) place step (omega arith) e

-- ---- how many steps there are

step_counted : (number count : ℕ) (rest : State → Steps) → ((state : State) → length (rest state).done ≤ count)
    → (r : Result Happening Code) → length (step_then number rest r).done ≤ suc count
step_counted number count rest h (Ok happened) = let later : length (rest happened.after).done ≤ count = h happened.after in omega arith
step_counted number count rest h (Err code) = omega arith

no_more_steps : (kb : Keyboard) (number : ℕ) (events : List Event) (state : State) → length (steps_from kb number events state).done ≤ length events
no_more_steps kb number [] state = omega arith
no_more_steps kb number (event ∷ events) state =
    step_counted number (length events) (steps_from kb (one_more number) events) (no_more_steps kb (one_more number) events) (event_of kb state event)

step_allowed : (number count : ℕ) (rest : State → Steps) → ((state : State) → (rest state).refused ≡ None → length (rest state).done ≡ count)
    → (r : Result Happening Code) → (step_then number rest r).refused ≡ None → length (step_then number rest r).done ≡ suc count
step_allowed number count rest h (Ok happened) e = ap suc (h happened.after e)
step_allowed number count rest h (Err code) e = absurd (cc)

steps_allowed : (kb : Keyboard) (number : ℕ) (events : List Event) (state : State) → (steps_from kb number events state).refused ≡ None
    → length (steps_from kb number events state).done ≡ length events
steps_allowed kb number [] state e = refl
steps_allowed kb number (event ∷ events) state e =
    step_allowed number (length events) (steps_from kb (one_more number) events) (steps_allowed kb (one_more number) events) (event_of kb state event) e

-- the refusal after some steps is the refusal of the event that follows them
abbrev FollowsSteps : ℕ → ℕ → Steps → Type 0
FollowsSteps number count steps = (refused : ℕ) (code : Code) → steps.refused ≡ Some (refused, code) → (length steps.done < count) × (refused ≡ number_at number (length steps.done))

step_refused : (number count : ℕ) (rest : State → Steps) → number ≤ 2 ^ 32 - 1 → ((state : State) → FollowsSteps (one_more number) count (rest state))
    → (r : Result Happening Code) → FollowsSteps number (suc count) (step_then number rest r)
step_refused number count rest few h (Ok happened) refused code e =
    let later : (length (rest happened.after).done < count) × (refused ≡ number_at (one_more number) (length (rest happened.after).done)) = h happened.after refused code e in
    (omega arith, omega arith)
step_refused number count rest few h (Err other) refused code e =
    let same : number ≡ refused = (some_pair_parts number refused other code e).0 in (omega arith, omega arith)

steps_refused : (kb : Keyboard) (number : ℕ) (events : List Event) (state : State) → number ≤ 2 ^ 32 - 1 → FollowsSteps number (length events) (steps_from kb number events state)
steps_refused kb number [] state few = λ refused code e. absurd (none-some (refused, code) e)
steps_refused kb number (event ∷ events) state few =
    step_refused number (length events) (steps_from kb (one_more number) events) few (λ after. steps_refused kb (one_more number) events after (omega arith)) (event_of kb state event)

pub no_more_steps_than_events : NoMoreStepsThanEvents
unfolding trace
no_more_steps_than_events kb events = no_more_steps kb 1 events (first_state kb)

pub each_event_has_its_step : EachEventHasItsStep
unfolding trace
each_event_has_its_step kb events e = steps_allowed kb 1 events (first_state kb) e

pub refusal_follows_the_steps : RefusalFollowsTheSteps
unfolding trace
refusal_follows_the_steps kb events number code e = steps_refused kb 1 events (first_state kb) (omega arith) number code e
