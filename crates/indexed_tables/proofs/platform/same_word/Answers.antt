use Rattle.std.proofs.Common.{arith}
use Rattle.std.proofs.lemmas.Grind.{common_steps}
use Rattle.indexed_tables.proofs.PlatformWords.{not_same_length}
use Rattle.indexed_tables.proofs.platform.same_word.Goals as goal

pub returns-then-word-other : goal.returns-then-word-other
returns-then-word-other c = grind (arith, not_same_length)

pub returns-then-not-same_without_case : goal.returns-then-not-same_without_case
returns-then-not-same_without_case c = grind (arith, common_steps)

pub loop-n-preserved : goal.loop-n-preserved
loop-n-preserved c = grind (arith, common_steps)

pub returns : goal.returns
returns c = grind (arith, common_steps)
