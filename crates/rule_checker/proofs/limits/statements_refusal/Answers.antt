use Rattle.std.proofs.Common.{arith}
use Rattle.rule_checker.proofs.FirstPassed.{first_passed}
use Rattle.rule_checker.proofs.limits.statements_refusal.Goals as goal

pub returns : goal.returns
returns c = grind (arith, first_passed)
