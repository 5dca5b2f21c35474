use Rattle.std.proofs.Common.{rules}
use Rattle.std.specs.Prelude.{flat_map}
use Rattle.rule_model.specs.declared.program.GroupDef.{GroupDef}
use Rattle.rule_model.specs.Naming.{rule_items}
use Rattle.rule_expand.specs.Values.{with_values}
use Rattle.rule_expand.proofs.ValueSets.{group_step}
use Rattle.rule_expand.proofs.values.add_groups.Goals as goal

pub loop-group-preserved : goal.loop-group-preserved
loop-group-preserved c =
    group_step c.loop-group.values c.add_rules.new.values (with_values c.args.values.now (flat_map rule_items (flat_map (λ (group : GroupDef). group.rules) c.args.groups.now)))
    c.args.groups.now c.loop-group.group-index c.group-item.result c.as_slice.result.now (search rules) c.group-item.is c.as_slice.ensures c.loop-group.invariant c.in_ok-add_rules.ensures
