use Rattle.std.proofs.Common.{◌≡◌, ◌++◌, drop, map}
use Rattle.source_faults.specs.Stubs.{word_store}
use Rattle.source_faults.proofs.stubs.word_stores.Given as goal

abbrev pub invariant-loop-word : goal.invariant-loop-word
invariant-loop-word l = l.stores ++ map word_store (drop l.word-index l.words) ≡ map word_store l.words
