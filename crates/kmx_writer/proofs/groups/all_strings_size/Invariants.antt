use Rattle.std.proofs.Common.{◌≡◌, ◌+◌, length, drop}
use Rattle.std.specs.List.{flat_map}
use Rattle.kmx_format.specs.File.{group_strings}
use Rattle.kmx_writer.proofs.groups.all_strings_size.Given as goal

abbrev pub invariant-loop-group : goal.invariant-loop-group
invariant-loop-group l = l.size + length (flat_map group_strings (drop l.group-index l.groups)) ≡ length (flat_map group_strings l.groups)
