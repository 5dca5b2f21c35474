use Rattle.std.proofs.Common.{◌≡◌, drop}
use Rattle.std.specs.Prelude.{flat_map}
use Rattle.rule_model.specs.declared.program.GroupDef.{GroupDef}
use Rattle.rule_model.specs.Naming.{items_from}
use Rattle.store_table.specs.Numbering.{with_items}
use Rattle.store_table.proofs.appearing.add_all.Given as goal

abbrev pub invariant-loop-group : goal.invariant-loop-group
invariant-loop-group l =
    with_items l.appeared (items_from l.waiting (flat_map (λ (group : GroupDef). group.rules) (drop l.group-index l.groups)))
    ≡ with_items l.initial.appeared (items_from l.initial.waiting (flat_map (λ (group : GroupDef). group.rules) l.groups))
