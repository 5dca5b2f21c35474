use Rattle.std.proofs.Common.{◌≡◌, [], ◌++◌, drop}
use Rattle.source_faults.specs.Words.{words_in}
use Rattle.source_faults.proofs.words.add_words.Given as goal

abbrev pub invariant-loop-byte : goal.invariant-loop-byte
invariant-loop-byte l = l.words ++ words_in l.word (drop l.byte-index l.text) ≡ l.fn.words ++ words_in [] l.text
