use Rattle.std.proofs.Common.{ap, ◌∙◌}
use Rattle.decompile_program.specs.Items.{Names, group_called}
use Rattle.decompile_text.proofs.Reached.{next_group}
use Rattle.decompile_text.proofs.lines.put_groups.Goals as goal

pub loop-number-preserved : goal.loop-number-preserved
loop-number-preserved c =
    next_group c.args.names.now c.loop-number.page c.put_group.new.page _ c.args.file.now.groups c.loop-number.number c.group-in-loop-number.result.now c.in-Some.group
    c.in-Some.ensures (c.group-in-loop-number.ensures ∙ ap (λ (names : Names). group_called names c.loop-number.number) c.called-called.ensures) c.in_ok-put_group.ensures c.loop-number.invariant
