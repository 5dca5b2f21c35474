use Rattle.keyman_run.specs.Orders.{compiled_work, layout_work}
use Rattle.keyman_run.specs.Steps.{itself}
use Rattle.keyman_run.specs.Work.{and_then}
use Rattle.keyman_run.proofs.LayoutLaws.{check_behind, layout_in_steps}
use Rattle.keyman_run.proofs.MeaningLaws.{does_as}
use Rattle.keyman_run.proofs.RunLaws.{does_behind, does_stopped}
use Rattle.keyman_run.proofs.running.check_layout.Goals as goal

pub returns-in-Ok : goal.returns-in-Ok
returns-in-Ok g c =
    does_as (and_then (compiled_work c.args.source.now) (check_behind c.args.layout.now)) (layout_work c.args.source.now c.args.layout.now) g.F.Folder _ _ g.S.Sink _ _ c.check_beside.result (layout_in_steps c.args.source.now c.args.layout.now)
    (does_behind itself (compiled_work c.args.source.now) (check_behind c.args.layout.now) g.F.Folder _ _ _ c.in-Ok.compiled g.S.Sink _ _ c.check_beside.result c.in-Ok.ensures.gives c.check_beside.ensures)

pub returns-in-Err : goal.returns-in-Err
returns-in-Err g c =
    does_as (and_then (compiled_work c.args.source.now) (check_behind c.args.layout.now)) (layout_work c.args.source.now c.args.layout.now) g.F.Folder _ _ g.S.Sink _ _ c.print_stop.result (layout_in_steps c.args.source.now c.args.layout.now)
    (does_stopped itself (compiled_work c.args.source.now) (check_behind c.args.layout.now) g.F.Folder _ _ c.in-Err.stop g.S.Sink _ _ c.print_stop.result c.in-Err.ensures.gives c.print_stop.ensures)
