use Rattle.std.proofs.Common.{◌≡◌, drop}
use Rattle.std.specs.List.{list_any}
use Rattle.core_export.specs.Readable.{is_misread_rule}
use Rattle.core_export.proofs.misread.some_rule_misread.Given as goal

abbrev pub invariant-loop-rule : goal.invariant-loop-rule
invariant-loop-rule l = list_any is_misread_rule (drop l.rule-index l.rules) ≡ list_any is_misread_rule l.rules
