use Rattle.std.proofs.Common.{◌≡◌, ◌++◌, drop}
use Rattle.name_warnings.specs.Values.{never_given}
use Rattle.name_warnings.proofs.values.add_never_given.Given as goal

abbrev pub invariant-loop-choice : goal.invariant-loop-choice
invariant-loop-choice l = l.found.items ++ never_given l.options l.others l.given (drop l.choice-index l.choices) ≡ l.fn.found.items ++ never_given l.options l.others l.fn.given l.choices
