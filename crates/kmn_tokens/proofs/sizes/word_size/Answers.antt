use Rattle.std.proofs.Common.{arith}
use Rattle.std.proofs.lemmas.Grind.{common_steps}
use Rattle.kmn_tokens.proofs.sizes.word_size.Goals as goal

pub loop-size-preserved : goal.loop-size-preserved
loop-size-preserved c = grind (arith, common_steps)

pub returns-else-in_word-clause-is : goal.returns-else-in_word-clause-is
returns-else-in_word-clause-is c = grind (arith, common_steps)

pub returns-else-in_word-clause-within : goal.returns-else-in_word-clause-within
returns-else-in_word-clause-within c = grind (arith, common_steps)

pub returns-after-loop-size-clause-is : goal.returns-after-loop-size-clause-is
returns-after-loop-size-clause-is c = grind (arith, common_steps)

pub returns-after-loop-size-clause-within : goal.returns-after-loop-size-clause-within
returns-after-loop-size-clause-within c = grind (arith, common_steps)
