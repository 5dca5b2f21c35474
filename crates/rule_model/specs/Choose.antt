-- The choice of a group: which of the rules that hold is selected.
use Rattle.std.specs.Prelude.{Bool, ◌&&◌, ◌||◌, nat_eq, nat_lt, if◌then◌else◌, List, [], ◌∷◌, length, Option, Some, None}
use Rattle.rule_model.specs.declared.event_state.Caught.{Caught}
use Rattle.rule_model.specs.Keyboard.{RuleMeaning, Choice, Best, First}

-- a selected rule with what it caught
abbrev pub Chosen : Type 0
Chosen = RuleMeaning × Caught

-- whether a rule precedes another: its context is longer, or equally long and its line is earlier
abbrev pub goes_before : RuleMeaning → RuleMeaning → Bool
goes_before a b =
    nat_lt (length b.context) (length a.context) || (nat_eq (length a.context) (length b.context) && nat_lt a.line b.line)

-- the better of a rule that holds and the best of the rules after it
abbrev pub better : Chosen → Option Chosen → Option Chosen
better chosen None = Some chosen
better chosen (Some other) = if goes_before other.0 chosen.0 then Some other else Some chosen

-- if a rule holds, the better of it and the best of the rules after it
abbrev pub best_with : RuleMeaning → Option Caught → Option Chosen → Option Chosen
best_with rule None others = others
best_with rule (Some caught) others = better (rule, caught) others

-- the best of the rules that hold: no other rule that holds precedes it
abbrev pub best : (RuleMeaning → Option Caught) → List RuleMeaning → Option Chosen
best holds [] = None
best holds (rule ∷ rules) = best_with rule (holds rule) (best holds rules)

abbrev pub first_with : RuleMeaning → Option Caught → Option Chosen → Option Chosen
first_with rule None others = others
first_with rule (Some caught) others = Some (rule, caught)

-- the first of the rules that hold
abbrev pub first : (RuleMeaning → Option Caught) → List RuleMeaning → Option Chosen
first holds [] = None
first holds (rule ∷ rules) = first_with rule (holds rule) (first holds rules)

-- the rule that a keyboard's choice selects among the rules that hold
abbrev pub choose : Choice → (RuleMeaning → Option Caught) → List RuleMeaning → Option Chosen
choose Best = best
choose First = first
