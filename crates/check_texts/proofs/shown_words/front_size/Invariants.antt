use Rattle.std.proofs.Common.{◌≡◌, ◌+◌, drop}
use Rattle.check_texts.specs.Details.{front_size}
use Rattle.check_texts.proofs.shown_words.front_size.Given as goal

abbrev pub invariant-loop-size : goal.invariant-loop-size
invariant-loop-size l = l.size + front_size l.left (drop l.size l.text) ≡ front_size l.most l.text
