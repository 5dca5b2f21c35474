use Rattle.std.proofs.Common.{◌≡◌, drop, flat_map}
use Rattle.std.specs.List.{fold}
use Rattle.std.specs.Ordering.{nat_cmp}
use Rattle.std.specs.BTreeSet.{insert_key}
use Rattle.core_export.specs.Readable.{rule_changed}
use Rattle.core_export.proofs.nameless.add_rules.Given as goal

abbrev pub invariant-loop-rule : goal.invariant-loop-rule
invariant-loop-rule l =
    fold (insert_key nat_cmp) l.stores (flat_map (rule_changed l.way) (drop l.rule-index l.rules))
    ≡ fold (insert_key nat_cmp) l.fn.stores (flat_map (rule_changed l.way) l.rules)
