use Rattle.std.proofs.Common.{◌≡◌}
use Rattle.std.specs.List.{fold}
use Rattle.std.specs.Ordering.{nat_cmp}
use Rattle.std.specs.BTreeSet.{insert_key}
use Rattle.kmn_base.proofs.lines.LineSet.add_all.Given as goal

abbrev pub invariant-loop-line : goal.invariant-loop-line
invariant-loop-line l = fold (insert_key nat_cmp) l.self-inside.lines.keys l.line-iterator ≡ fold (insert_key nat_cmp) l.fn.self l.other
