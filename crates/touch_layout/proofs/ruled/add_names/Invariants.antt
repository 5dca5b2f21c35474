use Rattle.std.proofs.Common.{◌≡◌, drop}
use Rattle.rule_model.specs.Tab.{tab}
use Rattle.store_table.specs.Numbering.{with_marks}
use Rattle.touch_layout.specs.Ids.{rule_names}
use Rattle.touch_layout.proofs.ruled.add_names.Given as goal

abbrev pub invariant-loop-rule : goal.invariant-loop-rule
invariant-loop-rule l =
    with_marks l.names (rule_names (tab l.keyboard).dictionary (drop l.rule-index l.rules))
    ≡ with_marks l.initial.names (rule_names (tab l.keyboard).dictionary l.rules)
