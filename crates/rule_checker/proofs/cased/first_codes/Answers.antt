use Rattle.std.proofs.Common.{arith}
use Rattle.std.proofs.lemmas.Grind.{common_steps}
use Rattle.rule_checker.proofs.cased.first_codes.Goals as goal

pub returns-then-store-eq-CASED_KEYS : goal.returns-then-store-eq-CASED_KEYS
returns-then-store-eq-CASED_KEYS c = grind (arith, common_steps)

pub loop-store-preserved : goal.loop-store-preserved
loop-store-preserved c = grind (arith, common_steps)

pub returns : goal.returns
returns c = grind (arith, common_steps)
