use Rattle.std.proofs.Common.{arith}
use Rattle.std.proofs.lemmas.Grind.{common_steps}
use Rattle.rule_expand.proofs.StoreLists.{first_stores, next_store}
use Rattle.rule_expand.proofs.stores.statement_stores.Goals as goal

pub loop-store-preserved : goal.loop-store-preserved
loop-store-preserved c = grind (arith, first_stores, next_store)

pub returns : goal.returns
returns c = grind (arith, common_steps)
