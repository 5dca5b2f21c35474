use Rattle.std.proofs.Common.{◌≡◌, drop, flat_map}
use Rattle.std.specs.List.{fold}
use Rattle.std.specs.Ordering.{nat_cmp}
use Rattle.std.specs.BTreeSet.{insert_key}
use Rattle.kmn_base.specs.Rising.{rising}
use Rattle.core_constructs.specs.Told.{lines_at}
use Rattle.core_constructs.proofs.line_list.lines_with.Given as goal

abbrev pub invariant-loop-number : goal.invariant-loop-number
invariant-loop-number l = fold (insert_key nat_cmp) l.lines (flat_map (lines_at l.construct l.tables l.facts l.spent) (drop l.number-index l.reached)) ≡ rising (flat_map (lines_at l.construct l.tables l.facts l.spent) l.reached)
