use Rattle.std.proofs.Common.{◌≡◌, drop, filter, map}
use Rattle.std.specs.List.{fold}
use Rattle.std.specs.Ordering.{nat_cmp}
use Rattle.std.specs.BTreeSet.{insert_key}
use Rattle.core_constructs.specs.Told.{line_of}
use Rattle.core_export.specs.Saves.{rule_saves_twice}
use Rattle.core_export.proofs.saves.add_rules.Given as goal

abbrev pub invariant-loop-rule : goal.invariant-loop-rule
invariant-loop-rule l =
    fold (insert_key nat_cmp) l.lines (map line_of (filter (rule_saves_twice l.groups l.group) (drop l.rule-index l.rules)))
    ≡ fold (insert_key nat_cmp) l.fn.lines (map line_of (filter (rule_saves_twice l.groups l.group) l.rules))
