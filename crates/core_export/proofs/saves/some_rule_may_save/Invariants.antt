use Rattle.std.proofs.Common.{◌≡◌, drop}
use Rattle.std.specs.List.{list_any}
use Rattle.rule_model.specs.declared.tables.Rule.{Rule}
use Rattle.core_export.specs.Saves.{may_save}
use Rattle.core_export.proofs.saves.some_rule_may_save.Given as goal

abbrev pub invariant-loop-rule : goal.invariant-loop-rule
invariant-loop-rule l =
    list_any (λ (rule : Rule). list_any (may_save l.groups) rule.output) (drop l.rule-index l.rules)
    ≡ list_any (λ (rule : Rule). list_any (may_save l.groups) rule.output) l.rules
