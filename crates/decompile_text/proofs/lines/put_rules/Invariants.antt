use Rattle.std.proofs.Common.{◌≡◌}
use Rattle.decompile_text.specs.OneByOne.{with_rules}
use Rattle.decompile_text.proofs.lines.put_rules.Given as goal

abbrev pub invariant-loop-rule : goal.invariant-loop-rule
invariant-loop-rule l = with_rules l.names l.page l.rule-iterator ≡ with_rules l.names l.initial.page l.group.rules
