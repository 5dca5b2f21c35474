use Rattle.std.proofs.Common.{◌≡◌, drop}
use Rattle.std.specs.List.{list_any}
use Rattle.kmn_base.specs.Names.{same_name}
use Rattle.source_faults.proofs.words.has_word.Given as goal

abbrev pub invariant-loop-word : goal.invariant-loop-word
invariant-loop-word l = list_any (same_name l.name) (drop l.word-index l.words) ≡ list_any (same_name l.name) l.words
