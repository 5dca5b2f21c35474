use Rattle.std.proofs.Common.{◌≡◌, ◌++◌, flat_map, take}
use Rattle.item_checker.specs.Items.{rules_refusals}
use Rattle.item_checker.proofs.rules.add_groups_refusals.Given as goal

abbrev pub invariant-loop-group : goal.invariant-loop-group
invariant-loop-group l = l.refusals ≡ l.fn.refusals ++ flat_map (rules_refusals l.facts) (take l.group-index l.groups)
