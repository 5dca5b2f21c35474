use Rattle.std.proofs.Common.{◌≡◌, ◌+◌, length, drop}
use Rattle.std.specs.List.{flat_map}
use Rattle.kmx_format.specs.File.{rules_of, rule_strings}
use Rattle.kmx_writer.proofs.groups.rule_strings_size.Given as goal

abbrev pub invariant-loop-group : goal.invariant-loop-group
invariant-loop-group l = l.size + length (flat_map rule_strings (flat_map rules_of (drop l.group-index l.groups))) ≡ length (flat_map rule_strings (flat_map rules_of l.groups))
