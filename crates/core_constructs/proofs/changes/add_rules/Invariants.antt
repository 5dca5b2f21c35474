use Rattle.std.proofs.Common.{◌≡◌, drop, flat_map}
use Rattle.std.specs.List.{fold}
use Rattle.std.specs.Ordering.{nat_cmp}
use Rattle.std.specs.BTreeSet.{insert_key}
use Rattle.core_constructs.specs.Marks.{rule_items}
use Rattle.core_constructs.specs.Changes.{item_changes}
use Rattle.core_constructs.proofs.changes.add_rules.Given as goal

abbrev pub invariant-loop-rule : goal.invariant-loop-rule
invariant-loop-rule l = fold (insert_key nat_cmp) l.changes (flat_map (item_changes l.used) (flat_map rule_items (drop l.rule-index l.rules))) ≡ fold (insert_key nat_cmp) l.fn.changes (flat_map (item_changes l.used) (flat_map rule_items l.rules))
