use Rattle.std.proofs.Common.{List, ℕ}
use Rattle.rule_model.specs.Keyboard.{Keyboard}
use Rattle.rule_model.specs.Tab.{tab}
use Rattle.rule_trace.specs.Coverage.{lines_of_tables}
use Rattle.keyman_run.specs.Orders.{job_work, trace_work}
use Rattle.keyman_run.specs.Steps.{prepared_job}
use Rattle.keyman_run.specs.Work.{and_then}
use Rattle.keyman_run.proofs.MeaningLaws.{does_as}
use Rattle.keyman_run.proofs.RunLaws.{does_behind, does_stopped}
use Rattle.keyman_run.proofs.TraceLaws.{does_traced, trace_job, traced_as_meant}
use Rattle.keyman_run.proofs.tracing.trace_rules.Goals as goal

pub returns-in-Ok : goal.returns-in-Ok
returns-in-Ok g c =
    let kb : Keyboard = tab c.in-Ok.prepared.compiled.tables in
    let lines : List ℕ = lines_of_tables c.in-Ok.prepared.compiled.tables in
    does_as (and_then (job_work c.args.source.now c.args.keys.now) trace_job) (trace_work c.args.source.now c.args.keys.now) g.F.Folder _ _ g.S.Sink _ _ c.trace_file.result
    (traced_as_meant c.args.source.now c.args.keys.now)
    (does_behind prepared_job (job_work c.args.source.now c.args.keys.now) trace_job g.F.Folder _ _ _ c.in-Ok.prepared g.S.Sink _ _ c.trace_file.result c.in-Ok.ensures.gives
    (does_traced kb lines c.in-Ok.prepared.entries g.F.Folder _ g.S.Sink _ _ c.trace_file.result c.trace_file.ensures))

pub returns-in-Err : goal.returns-in-Err
returns-in-Err g c =
    does_as (and_then (job_work c.args.source.now c.args.keys.now) trace_job) (trace_work c.args.source.now c.args.keys.now) g.F.Folder _ _ g.S.Sink _ _ c.print_stop.result
    (traced_as_meant c.args.source.now c.args.keys.now)
    (does_stopped prepared_job (job_work c.args.source.now c.args.keys.now) trace_job g.F.Folder _ _ c.in-Err.stop g.S.Sink _ _ c.print_stop.result c.in-Err.ensures.gives c.print_stop.ensures)
