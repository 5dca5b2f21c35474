use Rattle.std.proofs.Common.{◌≡◌, drop, flat_map}
use Rattle.std.specs.List.{fold}
use Rattle.std.specs.Ordering.{nat_cmp}
use Rattle.std.specs.BTreeSet.{insert_key}
use Rattle.core_export.specs.Readable.{group_misread_lines, misread_lines}
use Rattle.core_export.proofs.misread.misread_lines.Given as goal

abbrev pub invariant-loop-group : goal.invariant-loop-group
invariant-loop-group l = fold (insert_key nat_cmp) l.lines (flat_map group_misread_lines (drop l.group-index l.groups)) ≡ misread_lines l.groups
