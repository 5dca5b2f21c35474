use Rattle.std.proofs.Common.{◌≡◌, drop, flat_map}
use Rattle.std.specs.List.{fold}
use Rattle.std.specs.Ordering.{nat_cmp}
use Rattle.std.specs.BTreeSet.{insert_key}
use Rattle.core_constructs.specs.Marks.{rule_items}
use Rattle.core_constructs.specs.Collected.{collected_of}
use Rattle.core_constructs.proofs.marks.add_rules.Given as goal

abbrev pub invariant-loop-rule : goal.invariant-loop-rule
invariant-loop-rule l = fold (insert_key nat_cmp) l.set (flat_map (collected_of l.what l.stores) (flat_map rule_items (drop l.rule-index l.rules))) ≡ fold (insert_key nat_cmp) l.fn.set (flat_map (collected_of l.what l.stores) (flat_map rule_items l.rules))
