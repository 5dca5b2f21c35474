use Rattle.std.proofs.Common.{◌≡◌, drop, filter, map}
use Rattle.std.specs.List.{fold}
use Rattle.std.specs.Ordering.{nat_cmp}
use Rattle.std.specs.BTreeSet.{insert_key}
use Rattle.core_constructs.specs.Records.{is_told}
use Rattle.core_constructs.specs.Told.{line_of}
use Rattle.core_constructs.proofs.line_list.add_group_lines.Given as goal

abbrev pub invariant-loop-rule : goal.invariant-loop-rule
invariant-loop-rule l = fold (insert_key nat_cmp) l.lines (map line_of (filter (is_told l.construct l.tables l.facts l.known l.group) (drop l.rule-index l.rules)))
    ≡ fold (insert_key nat_cmp) l.fn.lines (map line_of (filter (is_told l.construct l.tables l.facts l.known l.group) l.rules))
