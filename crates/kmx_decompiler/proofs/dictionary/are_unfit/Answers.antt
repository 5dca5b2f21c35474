use Rattle.std.proofs.Common.{arith}
use Rattle.kmx_decompiler.proofs.DictionaryWords.{one_word_more}
use Rattle.kmx_decompiler.proofs.dictionary.are_unfit.Goals as goal

pub returns-then-branch : goal.returns-then-branch
returns-then-branch c = grind (arith, one_word_more)

pub loop-rest-preserved : goal.loop-rest-preserved
loop-rest-preserved c = grind (arith, one_word_more)

pub returns : goal.returns
returns c = grind (arith, one_word_more)
