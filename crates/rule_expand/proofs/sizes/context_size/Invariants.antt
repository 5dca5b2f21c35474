use Rattle.std.proofs.Common.{◌≡◌, ◌+◌, drop}
use Rattle.rule_expand.specs.Sizes.{context_size}
use Rattle.rule_expand.proofs.sizes.context_size.Given as goal

abbrev pub invariant-loop-item : goal.invariant-loop-item
invariant-loop-item l = l.size + context_size (drop l.item-index l.context) ≡ context_size l.context
