use Rattle.std.proofs.Common.{◌≡◌, ◌∷◌}
use Rattle.play_script.specs.Presses.{press_with}
use Rattle.play_script.specs.WordsLeft.{words_left}
use Rattle.play_script.proofs.presses.press_of.Given as goal

abbrev pub invariant-loop-word : goal.invariant-loop-word
invariant-loop-word l = record {
  can : (goal.iterator-loop-word).can_next l.word-iterator;
  finite : (goal.iterator-loop-word).is_finite l.word-iterator;
  press : press_with l.dictionary l.mods (l.last ∷ words_left l.word-iterator) ≡ press_with l.dictionary 0 (words_left l.fn.words);
}
