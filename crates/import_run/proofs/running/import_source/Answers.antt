use Rattle.std.proofs.Common.{List, ℕ}
use Rattle.keyman_words.specs.declared.status.Status.TheVariants as status
use Rattle.keyman_words.specs.Tells.{write_status}
use Rattle.keyman_words.proofs.Printed.{tells_made}
use Rattle.keyman_run.specs.Endings.{Ending}
use Rattle.keyman_run.specs.Steps.{itself}
use Rattle.keyman_run.specs.Work.{Work}
use Rattle.keyman_run.specs.Work.Work.{Give}
use Rattle.keyman_run.proofs.RunLaws.{does_behind, does_written, does_unwritten, does_stopped}
use Rattle.kmn_import.specs.declared.change.Imported.{Imported}
use Rattle.import_run.specs.Orders.{import_ending, source_work}
use Rattle.import_run.specs.Printed.{imported_text}
use Rattle.import_run.proofs.running.import_source.Goals as goal

-- the work that follows the imported source
abbrev rest : List ℕ → Imported → Work Ending
rest target new = Give (import_ending target new)

pub returns-in-Ok-write : goal.returns-in-Ok-write
returns-in-Ok-write g c =
    does_behind itself (source_work c.args.source.now) (rest c.args.target.now) g.F.Folder _ _ _ c.in-Ok.new g.S.Sink _ _ c.print_result.result c.in-Ok.ensures
    (does_written status.Done (imported_text c.in-Ok.new) c.args.target.now c.in-Ok.new.text c.as_slice.result.now g.F.Folder _ _ g.S.Sink _ _ c.print_result.result _
    c.as_slice.ensures c.in-Ok-write.ensures.counts c.in-Ok-write.ensures.told c.in-Ok-write.ensures.writes (tells_made _ _ _ _ _ _ _ c.print_result.ensures c.imported_text.ensures))

pub returns-in-Ok : goal.returns-in-Ok
returns-in-Ok g c =
    rw c.write_status.ensures
    (does_behind itself (source_work c.args.source.now) (rest c.args.target.now) g.F.Folder _ _ _ c.in-Ok.new g.S.Sink _ _ (write_status c.in-Err-write.error) c.in-Ok.ensures
    (does_unwritten status.Done (imported_text c.in-Ok.new) c.args.target.now c.in-Ok.new.text c.as_slice.result.now g.F.Folder _ _ g.S.Sink _ c.in-Err-write.error
    c.in-Err-write.ensures.counts c.in-Err-write.ensures.told c.in-Err-write.ensures.writes))

pub returns : goal.returns
returns g c =
    does_stopped itself (source_work c.args.source.now) (rest c.args.target.now) g.F.Folder _ _ c.in-Err.stop g.S.Sink _ _ c.print_stop.result c.in-Err.ensures c.print_stop.ensures
