use Rattle.std.proofs.Common.{◌≡◌, ◌+◌, drop}
use Rattle.kmn_items.specs.Brackets.{modifier_count}
use Rattle.import_tokens.proofs.bound.modifier_count.Given as goal

abbrev pub invariant-loop-count : goal.invariant-loop-count
invariant-loop-count l = l.count + modifier_count (drop l.count l.words) ≡ modifier_count l.words
