use Rattle.std.proofs.Common.{◌≡◌, drop, flat_map}
use Rattle.std.specs.List.{fold}
use Rattle.std.specs.Ordering.{nat_cmp}
use Rattle.std.specs.BTreeSet.{insert_key}
use Rattle.rule_model.specs.Tab.{rule_options}
use Rattle.core_constructs.proofs.options.add_rules.Given as goal

abbrev pub invariant-loop-rule : goal.invariant-loop-rule
invariant-loop-rule l = fold (insert_key nat_cmp) l.options (flat_map rule_options (drop l.rule-index l.rules)) ≡ fold (insert_key nat_cmp) l.fn.options (flat_map rule_options l.rules)
