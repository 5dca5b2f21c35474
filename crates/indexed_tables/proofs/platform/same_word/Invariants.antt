use Rattle.std.proofs.Common.{◌≡◌, drop}
use Rattle.rule_model.specs.System.{same_word}
use Rattle.indexed_tables.proofs.platform.same_word.Given as goal

abbrev pub invariant-loop-n : goal.invariant-loop-n
invariant-loop-n l = same_word (drop l.n l.word) (drop l.n l.other) ≡ same_word l.word l.other
