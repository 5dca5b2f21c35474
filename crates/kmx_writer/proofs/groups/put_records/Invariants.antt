use Rattle.std.proofs.Common.{◌≡◌, ◌+◌, ◌*◌, ◌++◌, length, drop}
use Rattle.std.specs.List.{flat_map}
use Rattle.kmx_format.specs.File.{rules_of, group_strings, group_records}
use Rattle.kmx_writer.proofs.groups.put_records.Given as goal

abbrev pub invariant-loop-group : goal.invariant-loop-group
invariant-loop-group l =
    (l.rules_place + 20 * length (flat_map rules_of (drop l.group-index l.groups)) ≡ l.fn.rules_place + 20 * length (flat_map rules_of l.groups))
    × (l.place + length (flat_map group_strings (drop l.group-index l.groups)) ≡ l.fn.place + length (flat_map group_strings l.groups))
    × (l.out ++ group_records l.rules_place l.place (drop l.group-index l.groups) ≡ l.fn.out ++ group_records l.fn.rules_place l.fn.place l.groups)
