use Rattle.std.proofs.Common.{◌≡◌, ◌++◌}
use Rattle.kmx_verifier.proofs.tables.copied_rules.Given as goal

abbrev pub invariant-loop-rule : goal.invariant-loop-rule
invariant-loop-rule l = l.rules ++ l.rule-iterator ≡ l.group.rules
