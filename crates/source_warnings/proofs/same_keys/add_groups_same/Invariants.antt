use Rattle.std.proofs.Common.{◌≡◌, ◌++◌, flat_map, take}
use Rattle.source_warnings.specs.SameKeys.{same_in_group}
use Rattle.source_warnings.proofs.same_keys.add_groups_same.Given as goal

abbrev pub invariant-loop-group : goal.invariant-loop-group
invariant-loop-group l = l.found.items ≡ l.fn.found.items ++ flat_map (same_in_group l.pressed.keys l.contents) (take l.group-index l.groups)
