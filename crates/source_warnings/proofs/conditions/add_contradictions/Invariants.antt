use Rattle.std.proofs.Common.{◌≡◌, ◌++◌, take}
use Rattle.source_warnings.specs.Conditions.{contradictions}
use Rattle.source_warnings.proofs.conditions.add_contradictions.Given as goal

abbrev pub invariant-loop-group : goal.invariant-loop-group
invariant-loop-group l = l.found.items ≡ l.fn.found.items ++ contradictions (take l.group-index l.groups)
