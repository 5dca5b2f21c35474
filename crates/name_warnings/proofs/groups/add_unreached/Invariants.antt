use Rattle.std.proofs.Common.{◌≡◌, ◌++◌, take}
use Rattle.name_warnings.specs.Groups.{unreached_groups}
use Rattle.name_warnings.proofs.groups.add_unreached.Given as goal

abbrev pub invariant-loop-group : goal.invariant-loop-group
invariant-loop-group l = l.found.items ≡ l.fn.found.items ++ unreached_groups l.names l.reached.keys l.others (take l.group-index l.groups)
