use Rattle.std.proofs.Common.{◌≡◌, drop}
use Rattle.std.specs.Prelude.{flat_map}
use Rattle.rule_model.specs.declared.program.GroupDef.{GroupDef}
use Rattle.rule_model.specs.Naming.{rule_items}
use Rattle.rule_expand.specs.Values.{with_values}
use Rattle.rule_expand.proofs.values.add_groups.Given as goal

abbrev pub invariant-loop-group : goal.invariant-loop-group
invariant-loop-group l =
    with_values l.values (flat_map rule_items (flat_map (λ (group : GroupDef). group.rules) (drop l.group-index l.groups)))
    ≡ with_values l.initial.values (flat_map rule_items (flat_map (λ (group : GroupDef). group.rules) l.groups))
