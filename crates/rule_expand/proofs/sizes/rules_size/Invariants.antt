use Rattle.std.proofs.Common.{◌≡◌, ◌+◌, drop}
use Rattle.rule_expand.specs.Sizes.{plain_size}
use Rattle.rule_expand.proofs.sizes.rules_size.Given as goal

abbrev pub invariant-loop-rule : goal.invariant-loop-rule
invariant-loop-rule l = l.size + plain_size l.numbers (drop l.rule-index l.rules) ≡ plain_size l.numbers l.rules
