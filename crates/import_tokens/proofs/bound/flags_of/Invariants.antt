use Rattle.std.proofs.Common.{◌≡◌, drop}
use Rattle.std.specs.Prelude.{fold}
use Rattle.kmn_items.specs.Brackets.{with_flag, flags_of}
use Rattle.import_tokens.proofs.bound.flags_of.Given as goal

abbrev pub invariant-loop-word : goal.invariant-loop-word
invariant-loop-word l = fold with_flag l.flags (drop l.word-index l.words) ≡ flags_of l.words
