use Rattle.std.proofs.Common.{◌≡◌, ◌++◌}
use Rattle.kmn_lines.specs.Tokens.{parts_tokens, parts_fault}
use Rattle.kmn_lines.specs.Walks.{parts_left}
use Rattle.kmn_tokens.proofs.scan.add_all.Given as goal

abbrev pub invariant-loop-part : goal.invariant-loop-part
invariant-loop-part l =
    (l.out ++ parts_tokens l.source (parts_left l.part-iterator) ≡ l.initial.out ++ parts_tokens l.source (parts_left l.fn.walk))
    × (parts_fault l.source (parts_left l.part-iterator) ≡ parts_fault l.source (parts_left l.fn.walk))
