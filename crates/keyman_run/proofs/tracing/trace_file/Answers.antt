use Rattle.std.proofs.Common.{◌≡◌, ◌∙◌, List, ℕ, Some, refl, subst}
use Rattle.kmx_verifier.specs.FaultOf.{fault_of, IsRefusal}
use Rattle.play_transcript.proofs.PrintingLaws.{none_begun}
use Rattle.keyman_run.specs.Steps.{verify_stop}
use Rattle.keyman_run.proofs.FileRuns.{as_stop, tells_unopened}
use Rattle.keyman_run.proofs.TraceLaws.{lines_of_file, traces_written}
use Rattle.keyman_run.proofs.tracing.trace_file.Goals as goal

pub returns-in_default : goal.returns-in_default
returns-in_default g c = record { counts = refl; told = refl; prints = λ told. none_begun _ _ }

pub print_trace-requires-clause-lines : goal.print_trace-requires-clause-lines
print_trace-requires-clause-lines g c =
    lines_of_file c.args.prepared.now.compiled.bytes c.in-Ok-verify.file c.args.prepared.now.compiled.tables c.in-Ok.coverage c.requires.keyboard (c.in-Ok-verify.ensures.1 ∙ c.as_slice.ensures) c.in-Ok.ensures.lines

pub returns-in-Ok-verify : goal.returns-in-Ok-verify
returns-in-Ok-verify g c =
    traces_written c.args.prepared.now.compiled.bytes c.in-Ok-verify.file c.args.prepared.now.compiled.tables c.as_slice-in-Ok-verify.result.now c.args.prepared.now.entries g.S.Sink _ _ c.print_trace.result
    c.requires.keyboard (c.in-Ok-verify.ensures.1 ∙ c.as_slice.ensures) c.as_slice-in-Ok-verify.ensures c.print_trace.ensures

pub returns-in-Err : goal.returns-in-Err
returns-in-Err g c =
    tells_unopened c.args.prepared.now.compiled.bytes c.in-Err.error _ _ g.S.Sink _ _ c.print_stop.result c.requires.file
    (subst (λ (bytes : List ℕ). IsRefusal c.in-Err.error (λ fault. fault_of bytes ≡ Some fault)) c.as_slice.ensures c.in-Err.ensures)
    (as_stop _ (verify_stop c.in-Err.error) g.S.Sink _ _ c.print_stop.result c.from.ensures c.print_stop.ensures)
