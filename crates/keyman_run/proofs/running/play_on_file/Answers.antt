use Rattle.std.proofs.Common.{List, ℕ, ap}
use Rattle.keyman_run.specs.Endings.{Ending}
use Rattle.keyman_run.specs.Orders.{bytes_work, bytes_play_work}
use Rattle.keyman_run.specs.Steps.{itself}
use Rattle.keyman_run.specs.Work.{Work}
use Rattle.keyman_run.proofs.MeaningLaws.{does_as}
use Rattle.keyman_run.proofs.RunLaws.{does_behind, does_stopped}
use Rattle.keyman_run.proofs.running.play_on_file.Goals as goal

-- the work that follows the bytes
abbrev rest : List ℕ → List ℕ → Work Ending
rest keys bytes = bytes_play_work bytes keys

pub returns-in-Ok : goal.returns-in-Ok
returns-in-Ok g c =
    does_behind itself (bytes_work c.args.file.now) (rest c.args.keys.now) g.F.Folder _ _ _ c.in-Ok.bytes g.S.Sink _ _ c.play_on_bytes.result c.in-Ok.ensures
    (does_as (rest c.args.keys.now c.as_slice.result.now) (rest c.args.keys.now c.in-Ok.bytes) g.F.Folder _ _ g.S.Sink _ _ c.play_on_bytes.result
    (ap (rest c.args.keys.now) c.as_slice.ensures) c.play_on_bytes.ensures)

pub returns-in-Err : goal.returns-in-Err
returns-in-Err g c =
    does_stopped itself (bytes_work c.args.file.now) (rest c.args.keys.now) g.F.Folder _ _ c.in-Err.stop g.S.Sink _ _ c.print_stop.result c.in-Err.ensures c.print_stop.ensures
