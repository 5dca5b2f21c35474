use Rattle.std.proofs.Common.{◌+◌, ◌++◌, length, drop}
use Rattle.std.specs.List.{flat_map}
use Rattle.kmx_format.specs.File.{rules_of, rule_strings, rule_records}
use Rattle.kmx_writer.proofs.RuleSteps.{PutsOn}
use Rattle.kmx_writer.proofs.groups.put_rule_records.Given as goal

abbrev pub invariant-loop-group : goal.invariant-loop-group
invariant-loop-group l =
    let rules = flat_map rules_of l.groups in
    PutsOn l.out l.place (flat_map rules_of (drop l.group-index l.groups)) (l.fn.out ++ rule_records l.fn.place rules) (l.fn.place + length (flat_map rule_strings rules))
