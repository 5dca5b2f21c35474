-- If the events of two keyboards have the same effects, their traces are the same.
use Rattle.std.proofs.Common.{◌≡◌, ℕ, List, [], ◌∷◌, refl}
use Rattle.kmn_base.specs.declared.events.Event.{Event}
use Rattle.rule_model.specs.Keyboard.{Keyboard}
use Rattle.rule_model.specs.Act.{one_more}
use Rattle.rule_model.specs.Event.{State, event_of}
use Rattle.rule_model.specs.Trace.{step_then, steps_from}

pub steps_from-same :
    (a b : Keyboard) → ((state : State) (event : Event) → event_of a state event ≡ event_of b state event) →
    (n : ℕ) (events : List Event) (state : State) → steps_from a n events state ≡ steps_from b n events state
steps_from-same a b same n [] state = refl
steps_from-same a b same n (event ∷ events) state =
    λ i. step_then n (λ after. steps_from-same a b same (one_more n) events after i) (same state event i)
