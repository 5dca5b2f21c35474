use Rattle.std.proofs.Common.{◌≡◌, map, take}
use Rattle.rule_index.specs.Groups.{context_count, listed}
use Rattle.rule_index.proofs.contexts.counts.Given as goal

abbrev pub invariant-loop-context : goal.invariant-loop-context
invariant-loop-context l = l.counts.items ≡ map context_count (listed (take l.context-index l.contexts))
