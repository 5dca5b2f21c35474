use Rattle.std.proofs.Common.{◌≡◌, take}
use Rattle.store_table.specs.Names.{group_names}
use Rattle.name_warnings.proofs.groups.group_names.Given as goal

abbrev pub invariant-loop-group : goal.invariant-loop-group
invariant-loop-group l = l.names ≡ group_names (take l.group-index l.groups)
