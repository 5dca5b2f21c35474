use Rattle.std.proofs.Common.{◌≡◌, ◌++◌, flat_map, take}
use Rattle.source_names.specs.Causes.{rules_faults}
use Rattle.source_names.proofs.listing.add_all_rules.Given as goal

abbrev pub invariant-loop-group : goal.invariant-loop-group
invariant-loop-group l = l.causes.items ≡ l.fn.causes.items ++ flat_map (rules_faults l.stores l.groups) (take l.group-index l.statements)
