use Rattle.std.proofs.Common.{◌≡◌, drop, flat_map}
use Rattle.std.specs.List.{fold}
use Rattle.std.specs.Ordering.{nat_cmp}
use Rattle.std.specs.BTreeSet.{insert_key}
use Rattle.kmn_base.specs.Rising.{rising}
use Rattle.rule_model.specs.Tab.{group_options}
use Rattle.core_constructs.proofs.options.options.Given as goal

abbrev pub invariant-loop-group : goal.invariant-loop-group
invariant-loop-group l = fold (insert_key nat_cmp) l.options (flat_map group_options (drop l.group-index l.groups)) ≡ rising (flat_map group_options l.groups)
