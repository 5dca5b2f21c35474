use Rattle.std.proofs.Common.{◌≡◌, ◌++◌}
use Rattle.kmn_lines.specs.Walks.{parts_left}
use Rattle.import_tokens.specs.Scan.{parts_text}
use Rattle.import_tokens.proofs.scan.parts_text.Given as goal

abbrev pub invariant-loop-part : goal.invariant-loop-part
invariant-loop-part l = l.text ++ parts_text l.source (parts_left l.part-iterator) ≡ parts_text l.source (parts_left l.fn.walk)
