-- The result of a play: its steps, the items that they output, and the text after them.
use Rattle.std.specs.Prelude.{◌≡◌, ℕ, ◌+◌, List, [], ◌∷◌, length, None}
use Rattle.rule_model.specs.Event.{State, whole_text}
use Rattle.rule_model.specs.Trace.{Step, Trace, trace}
use Rattle.load_maker.specs.Keyboards.{load_keyboard, load_events}

-- the number of items that steps output
abbrev pub items_put : List Step → ℕ
items_put [] = 0
items_put (step ∷ steps) = step.happened.outcome.put + items_put steps

-- the state after steps
abbrev pub last_state : State → List Step → State
last_state state [] = state
last_state state (step ∷ steps) = last_state step.happened.after steps

-- whether a play has no refusal and `count` steps that output `count` items in total, and ends with a text of two characters
pub record Plays (count : ℕ) (traced : Trace) : Type 0 where
  pub refused : traced.refused ≡ None
  pub steps : length traced.done ≡ count
  pub put : items_put traced.done ≡ count
  pub text : length (whole_text (last_state traced.first traced.done)) ≡ 2

-- the script of each load plays on its keyboard without a refusal: in total the presses output one item for each press
abbrev pub LoadsPlay : Type 0
LoadsPlay = (n : ℕ) → Plays (n + 2) (trace (load_keyboard n) (load_events n))
