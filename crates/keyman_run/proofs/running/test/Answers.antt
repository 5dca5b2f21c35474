use Rattle.std.proofs.Common.{List, ℕ}
use Rattle.rule_model.specs.Tab.{tab}
use Rattle.rule_model.specs.Trace.{trace}
use Rattle.rule_model.specs.Transcript.{events_of, transcript}
use Rattle.keyman_words.specs.declared.status.Status.{Status}
use Rattle.keyman_run.specs.Endings.{play_status}
use Rattle.keyman_run.specs.Orders.{job_work, test_work}
use Rattle.keyman_words.specs.Tells.{write_status}
use Rattle.keyman_run.specs.Steps.{prepared_job}
use Rattle.keyman_run.specs.Work.{and_then}
use Rattle.keyman_run.proofs.MeaningLaws.{does_as, as_meant, play_job}
use Rattle.keyman_run.proofs.RunLaws.{does_behind, does_written, does_unwritten, does_stopped}
use Rattle.keyman_run.proofs.running.test.Goals as goal

pub returns-in-Ok-write : goal.returns-in-Ok-write
returns-in-Ok-write g c =
    let good : Status = play_status (trace (tab c.in-Ok.prepared.compiled.tables) (events_of c.in-Ok.prepared.entries)) c.in-Ok.prepared.entries in
    let lines : List ℕ = transcript (tab c.in-Ok.prepared.compiled.tables) c.in-Ok.prepared.entries in
    let bytes : List ℕ = c.in-Ok.prepared.compiled.bytes in
    does_as (and_then (job_work c.args.names.now.source c.args.names.now.keys) (play_job c.args.names.now.file)) (test_work c.args.names.now.source c.args.names.now.file c.args.names.now.keys) g.F.Folder _ _ g.S.Sink _ _ c.play_file.result
    (as_meant c.args.names.now.source c.args.names.now.file c.args.names.now.keys)
    (does_behind prepared_job (job_work c.args.names.now.source c.args.names.now.keys) (play_job c.args.names.now.file) g.F.Folder _ _ _ c.in-Ok.prepared g.S.Sink _ _ c.play_file.result c.in-Ok.ensures.gives
    (does_written good lines c.args.names.now.file bytes c.as_slice.result.now g.F.Folder _ _ g.S.Sink _ _ c.play_file.result _
    c.as_slice.ensures c.in-Ok-write.ensures.counts c.in-Ok-write.ensures.told c.in-Ok-write.ensures.writes c.play_file.ensures))

pub returns-in-Ok : goal.returns-in-Ok
returns-in-Ok g c =
    let good : Status = play_status (trace (tab c.in-Ok.prepared.compiled.tables) (events_of c.in-Ok.prepared.entries)) c.in-Ok.prepared.entries in
    let lines : List ℕ = transcript (tab c.in-Ok.prepared.compiled.tables) c.in-Ok.prepared.entries in
    let bytes : List ℕ = c.in-Ok.prepared.compiled.bytes in
    rw c.write_status.ensures
    (does_as (and_then (job_work c.args.names.now.source c.args.names.now.keys) (play_job c.args.names.now.file)) (test_work c.args.names.now.source c.args.names.now.file c.args.names.now.keys) g.F.Folder _ _ g.S.Sink _ _ (write_status c.in-Err-write.error)
    (as_meant c.args.names.now.source c.args.names.now.file c.args.names.now.keys)
    (does_behind prepared_job (job_work c.args.names.now.source c.args.names.now.keys) (play_job c.args.names.now.file) g.F.Folder _ _ _ c.in-Ok.prepared g.S.Sink _ _ (write_status c.in-Err-write.error) c.in-Ok.ensures.gives
    (does_unwritten good lines c.args.names.now.file bytes c.as_slice.result.now g.F.Folder _ _ g.S.Sink _ c.in-Err-write.error
    c.in-Err-write.ensures.counts c.in-Err-write.ensures.told c.in-Err-write.ensures.writes)))

pub returns : goal.returns
returns g c =
    does_as (and_then (job_work c.args.names.now.source c.args.names.now.keys) (play_job c.args.names.now.file)) (test_work c.args.names.now.source c.args.names.now.file c.args.names.now.keys) g.F.Folder _ _ g.S.Sink _ _ c.print_stop.result
    (as_meant c.args.names.now.source c.args.names.now.file c.args.names.now.keys)
    (does_stopped prepared_job (job_work c.args.names.now.source c.args.names.now.keys) (play_job c.args.names.now.file) g.F.Folder _ _ c.in-Err.stop g.S.Sink _ _ c.print_stop.result c.in-Err.ensures.gives c.print_stop.ensures)
