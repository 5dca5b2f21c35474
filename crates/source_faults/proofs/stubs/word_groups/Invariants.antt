use Rattle.std.proofs.Common.{◌≡◌, ◌++◌, drop, map}
use Rattle.source_faults.specs.Stubs.{word_group}
use Rattle.source_faults.proofs.stubs.word_groups.Given as goal

abbrev pub invariant-loop-word : goal.invariant-loop-word
invariant-loop-word l = l.groups ++ map word_group (drop l.word-index l.words) ≡ map word_group l.words
