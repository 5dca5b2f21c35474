use Rattle.std.proofs.Common.{List, ℕ, IsTrue, sym, subst}
use Rattle.keyman_words.specs.declared.status.Status.TheVariants as status
use Rattle.keyman_words.proofs.Printed.{tells_made}
use Rattle.keyman_run.specs.Endings.{Ending, decompile_ending}
use Rattle.keyman_words.specs.Lines.{decompiled_line}
use Rattle.keyman_run.specs.Orders.{text_work}
use Rattle.keyman_words.specs.Seen.{seen_folder}
use Rattle.keyman_words.specs.Tells.{write_status}
use Rattle.keyman_run.specs.Steps.{itself}
use Rattle.keyman_run.specs.Work.{Work}
use Rattle.keyman_run.specs.Work.Work.{Give}
use Rattle.keyman_run.proofs.MeaningLaws.{failed_unwritten, stopped_unwritten}
use Rattle.keyman_run.proofs.RunLaws.{does_behind, does_written, does_unwritten, does_stopped}
use Rattle.keyman_run.proofs.TextLaws.{text_means}
use Rattle.keyman_run.proofs.running.decompile.Goals as goal

-- the work that follows the text
abbrev rest : List ℕ → List ℕ → Work Ending
rest source text = Give (decompile_ending source text)

pub returns-in-Ok-write-clause-does : goal.returns-in-Ok-write-clause-does
returns-in-Ok-write-clause-does g c =
    does_behind itself (text_work c.args.file.now) (rest c.args.source.now) g.F.Folder _ _ _ c.in-Ok.text g.S.Sink _ _ c.print_result.result c.in-Ok.ensures.gives
    (does_written status.Done (decompiled_line c.in-Ok.text) c.args.source.now c.in-Ok.text c.as_slice.result.now g.F.Folder _ _ g.S.Sink _ _ c.print_result.result _
    c.as_slice.ensures c.in-Ok-write.ensures.counts c.in-Ok-write.ensures.told c.in-Ok-write.ensures.writes (tells_made _ _ _ _ _ _ _ c.print_result.ensures c.decompiled_line.ensures))

pub returns-in-Ok-write-clause-means : goal.returns-in-Ok-write-clause-means
returns-in-Ok-write-clause-means g c = λ told written.
    text_means _ _ c.args.file.now c.args.source.now c.in-Ok.text c.as_slice.result.now (c.in-Ok.ensures.text told) c.as_slice.ensures
    (c.in-Ok-write.ensures.writes (subst IsTrue (sym c.in-Ok.ensures.gives.told) told)).1

pub returns-in-Ok-clause-does : goal.returns-in-Ok-clause-does
returns-in-Ok-clause-does g c =
    rw c.write_status.ensures
    (does_behind itself (text_work c.args.file.now) (rest c.args.source.now) g.F.Folder _ _ _ c.in-Ok.text g.S.Sink _ _ (write_status c.in-Err-write.error) c.in-Ok.ensures.gives
    (does_unwritten status.Done (decompiled_line c.in-Ok.text) c.args.source.now c.in-Ok.text c.as_slice.result.now g.F.Folder _ _ g.S.Sink _ c.in-Err-write.error
    c.in-Err-write.ensures.counts c.in-Err-write.ensures.told c.in-Err-write.ensures.writes))

pub returns-in-Ok-clause-means : goal.returns-in-Ok-clause-means
returns-in-Ok-clause-means g c = λ told written.
    failed_unwritten (text_work c.args.file.now) (seen_folder g.F.Folder c.args.folder.now) (seen_folder g.F.Folder _) _ _ c.args.source.now c.as_slice.result.now c.in-Err-write.error (c.in-Ok.ensures.gives.gives told).1
    (c.in-Err-write.ensures.writes (subst IsTrue (sym c.in-Ok.ensures.gives.told) told)) written

pub returns-clause-does : goal.returns-clause-does
returns-clause-does g c =
    does_stopped itself (text_work c.args.file.now) (rest c.args.source.now) g.F.Folder _ _ c.in-Err.stop g.S.Sink _ _ c.print_stop.result c.in-Err.ensures.gives c.print_stop.ensures

pub returns-clause-means : goal.returns-clause-means
returns-clause-means g c = λ told written.
    stopped_unwritten {A = List ℕ} itself (text_work c.args.file.now) (seen_folder g.F.Folder c.args.folder.now) (seen_folder g.F.Folder _) c.in-Err.stop (c.in-Err.ensures.gives.gives told) written
