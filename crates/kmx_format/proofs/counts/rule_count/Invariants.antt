use Rattle.std.proofs.Common.{◌≡◌, ◌+◌, length, drop}
use Rattle.std.specs.List.{flat_map}
use Rattle.kmx_format.specs.File.{rules_of}
use Rattle.kmx_format.proofs.counts.rule_count.Given as goal

abbrev pub invariant-loop-group : goal.invariant-loop-group
invariant-loop-group l = l.count + length (flat_map rules_of (drop l.group-index l.groups)) ≡ length (flat_map rules_of l.groups)
