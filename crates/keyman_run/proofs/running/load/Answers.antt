use Rattle.keyman_run.proofs.LoadLaws.{load_told, stop_told}
use Rattle.keyman_run.proofs.running.load.Goals as goal

pub returns-in-Ok : goal.returns-in-Ok
returns-in-Ok g c = load_told c.args.number c.as_slice.result.now c.in-Ok.line g.S.Sink _ _ c.print_line.result c.in-Ok.ensures c.as_slice.ensures c.print_line.ensures

pub returns-in-Err : goal.returns-in-Err
returns-in-Err g c = stop_told c.args.number c.in-Err.stop g.S.Sink _ _ c.print_stop.result c.in-Err.ensures c.print_stop.ensures
