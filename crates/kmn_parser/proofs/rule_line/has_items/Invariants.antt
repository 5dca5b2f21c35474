use Rattle.std.proofs.Common.{◌≡◌, drop}
use Rattle.kmn_parser.specs.Line.{has_items}
use Rattle.kmn_items.specs.TokenTexts.{with_texts}
use Rattle.kmn_parser.proofs.rule_line.has_items.Given as goal

abbrev pub invariant-loop-token : goal.invariant-loop-token
invariant-loop-token l = has_items (with_texts l.source (drop l.token-index l.all)) ≡ has_items (with_texts l.source l.all)
