use Rattle.std.proofs.Common.{arith}
use Rattle.std.proofs.lemmas.Grind.{common_steps}
use Rattle.rule_checker.proofs.Listed.{listed_next_store}
use Rattle.rule_checker.proofs.listing.list_stores.Goals as goal

pub loop-store-preserved : goal.loop-store-preserved
loop-store-preserved c = grind (arith, listed_next_store)

pub returns : goal.returns
returns c = grind (arith, common_steps)
