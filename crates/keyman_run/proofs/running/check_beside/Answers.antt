use Rattle.keyman_words.proofs.Printed.{tells_made}
use Rattle.keyman_run.specs.Orders.{keys_work}
use Rattle.keyman_run.specs.Steps.{itself}
use Rattle.keyman_run.proofs.LayoutLaws.{count_behind, does_sound}
use Rattle.keyman_run.proofs.RunLaws.{does_behind, does_stopped}
use Rattle.keyman_run.proofs.running.check_beside.Goals as goal

pub returns-in-Ok : goal.returns-in-Ok
returns-in-Ok g c =
    does_behind itself (keys_work c.args.tables.now c.args.layout.now) count_behind g.F.Folder _ _ _ c.in-Ok.count g.S.Sink _ _ c.print_result.result c.in-Ok.ensures
    (does_sound c.in-Ok.count g.F.Folder _ g.S.Sink _ _ c.print_result.result (tells_made _ _ _ _ _ _ _ c.print_result.ensures c.sound_line.ensures))

pub returns-in-Err : goal.returns-in-Err
returns-in-Err g c =
    does_stopped itself (keys_work c.args.tables.now c.args.layout.now) count_behind g.F.Folder _ _ c.in-Err.stop g.S.Sink _ _ c.print_stop.result c.in-Err.ensures c.print_stop.ensures
