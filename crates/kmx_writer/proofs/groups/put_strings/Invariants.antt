use Rattle.std.proofs.Common.{◌≡◌, ◌++◌, drop}
use Rattle.std.specs.List.{flat_map}
use Rattle.kmx_format.specs.File.{group_strings}
use Rattle.kmx_writer.proofs.groups.put_strings.Given as goal

abbrev pub invariant-loop-group : goal.invariant-loop-group
invariant-loop-group l = l.out ++ flat_map group_strings (drop l.group-index l.groups) ≡ l.fn.out ++ flat_map group_strings l.groups
