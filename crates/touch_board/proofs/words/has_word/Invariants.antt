use Rattle.std.proofs.Common.{◌≡◌, drop}
use Rattle.touch_board.specs.Words.{has_word}
use Rattle.touch_board.proofs.words.has_word.Given as goal

abbrev pub invariant-loop-at : goal.invariant-loop-at
invariant-loop-at l =
    has_word l.word (drop l.at l.text) ≡ has_word l.word l.text
