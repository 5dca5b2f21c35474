use Rattle.std.proofs.Common.{◌≡◌, ◌++◌, drop}
use Rattle.std.specs.List.{flat_map}
use Rattle.kmx_format.specs.File.{rule_strings}
use Rattle.kmx_writer.proofs.rules.put_strings.Given as goal

abbrev pub invariant-loop-rule : goal.invariant-loop-rule
invariant-loop-rule l = l.out ++ flat_map rule_strings (drop l.rule-index l.rules) ≡ l.fn.out ++ flat_map rule_strings l.rules
