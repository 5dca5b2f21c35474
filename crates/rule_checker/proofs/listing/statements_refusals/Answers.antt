use Rattle.std.proofs.Common.{arith}
use Rattle.rule_checker.proofs.AllPassed.{all_passed}
use Rattle.rule_checker.proofs.listing.statements_refusals.Goals as goal

pub returns : goal.returns
returns c = grind (arith, all_passed)
