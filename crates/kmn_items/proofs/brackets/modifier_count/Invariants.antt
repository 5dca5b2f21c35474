use Rattle.std.proofs.Common.{◌≡◌, ◌+◌, drop}
use Rattle.kmn_items.specs.TokenTexts.{with_texts}
use Rattle.kmn_items.specs.Brackets.{modifier_count}
use Rattle.kmn_items.proofs.brackets.modifier_count.Given as goal

abbrev pub invariant-loop-count : goal.invariant-loop-count
invariant-loop-count l = l.count + modifier_count (with_texts l.source (drop l.count l.all)) ≡ modifier_count (with_texts l.source l.all)
