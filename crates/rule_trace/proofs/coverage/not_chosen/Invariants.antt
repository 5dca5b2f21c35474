use Rattle.std.proofs.Common.{◌≡◌, map, take}
use Rattle.rule_trace.specs.Coverage.{not_chosen}
use Rattle.rule_trace.proofs.coverage.not_chosen.Given as goal

abbrev pub invariant-loop-line : goal.invariant-loop-line
invariant-loop-line l = l.hits.items ≡ map not_chosen (take l.line-index l.lines)
