use Rattle.std.proofs.Common.{◌≡◌, drop, false}
use Rattle.import_outline.specs.Outline.{are_readonly_items}
use Rattle.import_outline.proofs.outline.are_readonly_items.Given as goal

abbrev pub invariant-loop-token : goal.invariant-loop-token
invariant-loop-token l = are_readonly_items l.inside (drop l.token-index l.tokens) ≡ are_readonly_items false l.tokens
