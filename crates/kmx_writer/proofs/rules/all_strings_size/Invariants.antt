use Rattle.std.proofs.Common.{◌≡◌, ◌+◌, length, drop}
use Rattle.std.specs.List.{flat_map}
use Rattle.kmx_format.specs.File.{rule_strings}
use Rattle.kmx_writer.proofs.rules.all_strings_size.Given as goal

abbrev pub invariant-loop-rule : goal.invariant-loop-rule
invariant-loop-rule l = l.size + length (flat_map rule_strings (drop l.rule-index l.rules)) ≡ length (flat_map rule_strings l.rules)
