use Rattle.std.proofs.Common.{arith}
use Rattle.std.proofs.lemmas.Grind.{common_steps}
use Rattle.rule_expand.proofs.StoreLists.{joined_more, joined_all}
use Rattle.rule_expand.proofs.stores.joined_names.Goals as goal

pub returns-in_default : goal.returns-in_default
returns-in_default c = grind (arith, joined_more, joined_all)

pub loop-place-preserved : goal.loop-place-preserved
loop-place-preserved c = grind (arith, joined_more, joined_all)

pub returns : goal.returns
returns c = grind (arith, common_steps)
