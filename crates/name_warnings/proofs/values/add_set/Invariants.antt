use Rattle.std.proofs.Common.{◌≡◌, drop}
use Rattle.name_warnings.specs.Values.{with_choices}
use Rattle.name_warnings.proofs.values.add_set.Given as goal

abbrev pub invariant-loop-choice : goal.invariant-loop-choice
invariant-loop-choice l = with_choices l.given (drop l.choice-index l.choices) ≡ with_choices l.fn.given l.choices
