use Rattle.std.proofs.Common.{ap}
use Rattle.kmx_format.specs.TablesOf.{tables_of}
use Rattle.play_session.specs.Session.{SessionState}
use Rattle.keyman_run.proofs.TraceLaws.{traces_broken, traces_ended}
use Rattle.keyman_run.proofs.tracing.print_trace.Goals as goal

pub returns-in-Ok-trace_play : goal.returns-in-Ok-trace_play
returns-in-Ok-trace_play g c =
    traces_ended c.in-Ok.session.tables (tables_of c.args.file.now) c.args.entries.now c.in-Ok-trace_play.end g.S.Sink _ _ c.end_of_trace.result
    (ap (λ (session : SessionState). session.tables) c.in-Ok.ensures) c.end_of_trace.ensures
    c.in-Ok-trace_play.ensures.ends c.in-Ok-trace_play.ensures.counts c.in-Ok-trace_play.ensures.told c.in-Ok-trace_play.ensures.prints

pub returns-in-Err : goal.returns-in-Err
returns-in-Err g c =
    traces_broken c.in-Ok.session.tables (tables_of c.args.file.now) c.args.entries.now c.in-Err.error g.S.Sink _ _ c.write_status.result
    (ap (λ (session : SessionState). session.tables) c.in-Ok.ensures) c.write_status.ensures
    c.in-Err.ensures.counts c.in-Err.ensures.told c.in-Err.ensures.prints
