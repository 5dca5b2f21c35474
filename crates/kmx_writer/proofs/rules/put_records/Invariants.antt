use Rattle.std.proofs.Common.{◌≡◌, ◌+◌, ◌++◌, length, drop}
use Rattle.std.specs.List.{flat_map}
use Rattle.kmx_format.specs.File.{rule_strings, rule_records}
use Rattle.kmx_writer.proofs.rules.put_records.Given as goal

abbrev pub invariant-loop-rule : goal.invariant-loop-rule
invariant-loop-rule l =
    (l.place + length (flat_map rule_strings (drop l.rule-index l.rules)) ≡ l.fn.place + length (flat_map rule_strings l.rules))
    × (l.out ++ rule_records l.place (drop l.rule-index l.rules) ≡ l.fn.out ++ rule_records l.fn.place l.rules)
