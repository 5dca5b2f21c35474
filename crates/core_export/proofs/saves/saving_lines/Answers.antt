use Rattle.std.proofs.Common.{◌∙◌}
use Rattle.core_export.proofs.Sets.{lines_more}
use Rattle.core_export.proofs.saves.saving_lines.Goals as goal

pub loop-group-preserved : goal.loop-group-preserved
loop-group-preserved c =
    lines_more c.in_ok-saving.saving.items c.as_slice.result.now c.args.groups.now c.loop-group.group-index c.group-item.result c.group-item.result c.loop-group.lines
    c.add_group.new.lines c.loop-group-test.true c.group-item.is c.as_slice.ensures.value c.in_ok-add_group.ensures
    ∙ c.loop-group.invariant
