use Rattle.std.proofs.Common.{◌≡◌, drop, flat_map}
use Rattle.std.specs.List.{fold}
use Rattle.std.specs.Ordering.{nat_cmp}
use Rattle.std.specs.BTreeSet.{insert_key}
use Rattle.kmn_base.specs.Rising.{rising}
use Rattle.core_constructs.specs.Found.{found_lines}
use Rattle.core_constructs.proofs.line_list.all_lines.Given as goal

abbrev pub invariant-loop-found : goal.invariant-loop-found
invariant-loop-found l = fold (insert_key nat_cmp) l.lines (flat_map found_lines (drop l.found-index l.all)) ≡ rising (flat_map found_lines l.all)
