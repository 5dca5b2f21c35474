use Rattle.std.proofs.Common.{◌≡◌, drop, filter, map}
use Rattle.std.specs.List.{fold}
use Rattle.std.specs.Ordering.{nat_cmp}
use Rattle.std.specs.BTreeSet.{insert_key}
use Rattle.core_constructs.specs.Told.{line_of}
use Rattle.core_export.specs.Readable.{is_misread_rule}
use Rattle.core_export.proofs.misread.add_lines.Given as goal

abbrev pub invariant-loop-rule : goal.invariant-loop-rule
invariant-loop-rule l =
    fold (insert_key nat_cmp) l.lines (map line_of (filter is_misread_rule (drop l.rule-index l.rules)))
    ≡ fold (insert_key nat_cmp) l.fn.lines (map line_of (filter is_misread_rule l.rules))
