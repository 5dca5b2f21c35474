use Rattle.std.proofs.Common.{arith}
use Rattle.std.proofs.lemmas.Grind.{common_steps}
use Rattle.rule_checker.proofs.Walked.{walked_store}
use Rattle.rule_checker.proofs.walking.walk_stores.Goals as goal

pub loop-store-preserved : goal.loop-store-preserved
loop-store-preserved c = grind (arith, walked_store)

pub returns : goal.returns
returns c = grind (arith, common_steps)
