use Rattle.std.proofs.Common.{arith}
use Rattle.play_script.proofs.SplitLaws.{word_steps}
use Rattle.play_script.proofs.text_words.TextWordsIterator.next.Goals as goal

pub returns-then-is_empty-clause-steps : goal.returns-then-is_empty-clause-steps
returns-then-is_empty-clause-steps c = grind (arith, word_steps)

pub returns-then-is_empty-clause-goes : goal.returns-then-is_empty-clause-goes
returns-then-is_empty-clause-goes c = grind (arith, word_steps)

pub returns-clause-steps : goal.returns-clause-steps
returns-clause-steps c = grind (arith, word_steps)

pub returns-clause-goes : goal.returns-clause-goes
returns-clause-goes c = grind (arith, word_steps)
