-- The effects of a list of events on a keyboard, beginning with an empty text.
use Rattle.std.specs.Prelude.{ℕ, List, [], ◌∷◌, map, filter, Option, Some, None, Result, Ok, Err}
use Rattle.kmn_base.specs.declared.items.Element.{Element}
use Rattle.kmn_base.specs.declared.events.Event.{Event}
use Rattle.kmn_base.specs.declared.codes.Code.{Code}
use Rattle.rule_model.specs.Keyboard.{StoreMeaning, Keyboard}
use Rattle.rule_model.specs.Act.{one_more}
use Rattle.rule_model.specs.Event.{State, Happening, event_of}

-- the option stores of a keyboard, in order
abbrev pub options_of : List StoreMeaning → List StoreMeaning
options_of stores = filter (λ (store : StoreMeaning). store.is_option) stores

-- no value is saved
abbrev pub none_saved : StoreMeaning → Option (List Element)
none_saved store = None

-- the state before the first event: an empty text, each option with its elements, and no saved value
abbrev pub first_state : Keyboard → State
first_state kb =
    record {
      left = [];
      right = [];
      names = map (λ (store : StoreMeaning). store.name) (options_of kb.stores);
      current = map (λ (store : StoreMeaning). store.elements) (options_of kb.stores);
      saved = map none_saved (options_of kb.stores);
    }

-- a step: the effect of an event, with its number
pub record Step : Type 0 where
  pub number : ℕ
  pub happened : Happening

-- the steps up to the end of the events or to the first refusal, and this refusal with its number
pub record Steps : Type 0 where
  pub done : List Step
  pub refused : Option (ℕ × Code)

abbrev pub before_steps : Step → Steps → Steps
before_steps step steps = record { done = step ∷ steps.done; refused = steps.refused }

abbrev pub step_then : ℕ → (State → Steps) → Result Happening Code → Steps
step_then number rest (Ok happened) = before_steps (record { number = number; happened = happened }) (rest happened.after)
step_then number rest (Err code) = record { done = []; refused = Some (number, code) }

-- the steps of events from a state on; the next step has this number
abbrev pub steps_from : Keyboard → ℕ → List Event → State → Steps
steps_from kb number [] state = record { done = []; refused = None }
steps_from kb number (event ∷ events) state =
    step_then number (steps_from kb (one_more number) events) (event_of kb state event)

-- a trace: the state before the first event, and the steps from it on
pub record Trace : Type 0 where
  pub first : State
  pub done : List Step
  pub refused : Option (ℕ × Code)

abbrev pub trace_of : State → Steps → Trace
trace_of first steps = record { first = first; done = steps.done; refused = steps.refused }

-- the trace of all events; steps count from 1
unfoldable pub trace : Keyboard → List Event → Trace
trace kb events = trace_of (first_state kb) (steps_from kb 1 events (first_state kb))
