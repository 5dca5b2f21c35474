use Rattle.keyman_run.specs.Orders.{compiled_work, shadow_work}
use Rattle.keyman_run.specs.Steps.{itself}
use Rattle.keyman_run.specs.Work.{and_then}
use Rattle.keyman_run.proofs.MeaningLaws.{does_as}
use Rattle.keyman_run.proofs.RunLaws.{does_behind, does_stopped}
use Rattle.keyman_run.proofs.ShadowLaws.{does_searched, search_behind, shadow_in_steps}
use Rattle.keyman_run.proofs.shadowing.shadow_rules.Goals as goal

pub returns-in-Ok : goal.returns-in-Ok
returns-in-Ok g c =
    does_as (and_then (compiled_work c.args.source.now) search_behind) (shadow_work c.args.source.now) g.F.Folder _ _ g.S.Sink _ _ c.print_dead_rules.result (shadow_in_steps c.args.source.now)
    (does_behind itself (compiled_work c.args.source.now) search_behind g.F.Folder _ _ _ c.in-Ok.compiled g.S.Sink _ _ c.print_dead_rules.result c.in-Ok.ensures.gives
    (does_searched c.in-Ok.compiled g.F.Folder _ g.S.Sink _ _ c.print_dead_rules.result c.print_dead_rules.ensures))

pub returns-in-Err : goal.returns-in-Err
returns-in-Err g c =
    does_as (and_then (compiled_work c.args.source.now) search_behind) (shadow_work c.args.source.now) g.F.Folder _ _ g.S.Sink _ _ c.print_stop.result (shadow_in_steps c.args.source.now)
    (does_stopped itself (compiled_work c.args.source.now) search_behind g.F.Folder _ _ c.in-Err.stop g.S.Sink _ _ c.print_stop.result c.in-Err.ensures.gives c.print_stop.ensures)
