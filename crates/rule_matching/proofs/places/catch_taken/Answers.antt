use Rattle.std.proofs.Common.{arith}
use Rattle.std.proofs.lemmas.Grind.{common_steps}
use Rattle.rule_matching.proofs.places.catch_taken.Goals as goal

pub push-requires : goal.push-requires
push-requires c = grind (arith, common_steps)

pub loop-one-preserved : goal.loop-one-preserved
loop-one-preserved c = grind (arith, common_steps)

pub returns-clause-caught : goal.returns-clause-caught
returns-clause-caught c = grind (arith, common_steps)
