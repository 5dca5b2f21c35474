use Rattle.std.proofs.Common.{◌≡◌, ◌++◌, flat_map, take}
use Rattle.store_table.specs.Names.{rules_refusals}
use Rattle.store_table.proofs.listing.add_group_rules_refusals.Given as goal

abbrev pub invariant-loop-group : goal.invariant-loop-group
invariant-loop-group l = l.refusals ≡ l.fn.refusals ++ flat_map (rules_refusals l.stated) (take l.group-index l.groups)
