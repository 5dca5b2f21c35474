use Rattle.std.proofs.Common.{List, ℕ}
use Rattle.keyman_run.specs.Endings.{Ending, verify_ending}
use Rattle.keyman_run.specs.Inputs.{tables_of_file}
use Rattle.keyman_run.specs.Orders.{bytes_work}
use Rattle.keyman_run.specs.Steps.{itself}
use Rattle.keyman_run.specs.Work.{Work, given, and_then}
use Rattle.keyman_run.specs.Work.Work.{Give}
use Rattle.keyman_run.proofs.FileRuns.{does_file}
use Rattle.keyman_run.proofs.RunLaws.{does_behind, does_stopped}
use Rattle.keyman_run.proofs.running.verify_file.Goals as goal

-- the work that follows the bytes
abbrev rest : List ℕ → Work Ending
rest bytes = and_then (given (tables_of_file bytes)) (λ tables. Give (verify_ending tables))

pub returns-in-Ok : goal.returns-in-Ok
returns-in-Ok g c =
    does_behind itself (bytes_work c.args.file.now) rest g.F.Folder _ _ _ c.in-Ok.bytes g.S.Sink _ _ c.print_file_counts.result c.in-Ok.ensures
    (does_file c.as_slice.result.now c.in-Ok.bytes g.F.Folder _ g.S.Sink _ _ c.print_file_counts.result c.as_slice.ensures c.print_file_counts.ensures)

pub returns-in-Err : goal.returns-in-Err
returns-in-Err g c =
    does_stopped itself (bytes_work c.args.file.now) rest g.F.Folder _ _ c.in-Err.stop g.S.Sink _ _ c.print_stop.result c.in-Err.ensures c.print_stop.ensures
