use Rattle.std.proofs.Common.{◌≡◌, drop, List, ◌++◌}
use Rattle.rule_model.specs.declared.program.RuleDef.{RuleDef}
use Rattle.rule_model.specs.Naming.{items_from}
use Rattle.store_table.specs.Numbering.{with_items}
use Rattle.store_table.proofs.appearing.add_group.Given as goal

abbrev pub invariant-loop-rule : goal.invariant-loop-rule
invariant-loop-rule l =
    (more : List RuleDef)
    → with_items l.appeared (items_from l.waiting (drop l.rule-index l.rules ++ more))
    ≡ with_items l.initial.appeared (items_from l.initial.waiting (l.rules ++ more))
