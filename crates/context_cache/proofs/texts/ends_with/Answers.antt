use Rattle.std.proofs.Common.{arith}
use Rattle.std.proofs.lemmas.Grind.{common_steps}
use Rattle.context_cache.proofs.Windows.{ends_short}
use Rattle.context_cache.proofs.texts.ends_with.Goals as goal

pub returns-then-text-count : goal.returns-then-text-count
returns-then-text-count c = grind (arith, ends_short)

pub returns-then-text-place : goal.returns-then-text-place
returns-then-text-place c = grind (arith, common_steps)

pub loop-item-preserved : goal.loop-item-preserved
loop-item-preserved c = grind (arith, common_steps)

pub returns : goal.returns
returns c = grind (arith, common_steps)
