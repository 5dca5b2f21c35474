use Rattle.std.proofs.Common.{◌≡◌, ◌++◌, drop}
use Rattle.source_faults.specs.Stubs.{new_words}
use Rattle.source_faults.proofs.stubs.new_words.Given as goal

abbrev pub invariant-loop-word : goal.invariant-loop-word
invariant-loop-word l = l.new ++ new_words l.names (drop l.word-index l.words) ≡ new_words l.fn.names l.words
