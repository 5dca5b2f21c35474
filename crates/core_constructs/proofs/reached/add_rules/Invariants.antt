use Rattle.std.proofs.Common.{◌≡◌, drop, flat_map}
use Rattle.std.specs.List.{fold}
use Rattle.std.specs.Ordering.{nat_cmp}
use Rattle.std.specs.BTreeSet.{insert_key}
use Rattle.core_constructs.specs.Reached.{rule_entered}
use Rattle.core_constructs.proofs.reached.add_rules.Given as goal

abbrev pub invariant-loop-rule : goal.invariant-loop-rule
invariant-loop-rule l = fold (insert_key nat_cmp) l.reached (flat_map (rule_entered l.group) (drop l.rule-index l.rules)) ≡ fold (insert_key nat_cmp) l.fn.reached (flat_map (rule_entered l.group) l.rules)
