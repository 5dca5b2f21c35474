use Rattle.kmx_decompiler.proofs.OrderSteps.{disorder_after, disorder_here}
use Rattle.kmx_decompiler.proofs.order.disorder.Goals as goal

pub loop-group-preserved : goal.loop-group-preserved
loop-group-preserved c =
    disorder_after c.args.file.now.groups c.loop-group.group c.in_ok-records.records _ c.in_ok-records.ensures c.in_default.ensures c.loop-group.invariant

pub returns-in-Some : goal.returns-in-Some
returns-in-Some c =
    disorder_here c.args.file.now.groups c.loop-group.group c.in-Some.rule c.in_ok-records.records _ c.in_ok-records.ensures c.in-Some.ensures c.loop-group.invariant
