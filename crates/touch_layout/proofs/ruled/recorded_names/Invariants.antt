use Rattle.std.proofs.Common.{◌≡◌, [], drop}
use Rattle.rule_model.specs.Tab.{tab}
use Rattle.store_table.specs.Numbering.{with_marks}
use Rattle.touch_layout.specs.Ids.{recorded_names}
use Rattle.touch_layout.proofs.ruled.recorded_names.Given as goal

abbrev pub invariant-loop-group : goal.invariant-loop-group
invariant-loop-group l =
    with_marks l.names (recorded_names (tab l.keyboard).dictionary (drop l.group-index l.groups))
    ≡ with_marks [] (recorded_names (tab l.keyboard).dictionary l.groups)
