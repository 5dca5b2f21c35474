use Rattle.std.proofs.Common.{List, ℕ}
use Rattle.kmn_compiler.specs.declared.compiling.Compiled.{Compiled}
use Rattle.keyman_words.specs.declared.status.Status.TheVariants as status
use Rattle.keyman_words.proofs.Printed.{tells_made}
use Rattle.keyman_run.specs.Endings.{Ending, compile_ending}
use Rattle.keyman_words.specs.Lines.{compiled_line}
use Rattle.keyman_run.specs.Orders.{compiled_work, compile_work}
use Rattle.keyman_words.specs.Tells.{write_status}
use Rattle.keyman_run.specs.Steps.{itself}
use Rattle.keyman_run.specs.Work.{Work, and_then}
use Rattle.keyman_run.specs.Work.Work.{Give}
use Rattle.keyman_run.proofs.MeaningLaws.{does_as, file_behind}
use Rattle.keyman_run.proofs.RunLaws.{does_behind, does_written, does_unwritten, does_stopped}
use Rattle.keyman_run.proofs.running.compile.Goals as goal

-- the work that follows the file
abbrev rest : List ℕ → Compiled → Work Ending
rest file compiled = Give (compile_ending file compiled)

pub returns-in-Ok-write : goal.returns-in-Ok-write
returns-in-Ok-write g c =
    let line : List ℕ = compiled_line c.in-Ok.compiled in
    let bytes : List ℕ = c.in-Ok.compiled.bytes in
    does_as (and_then (compiled_work c.args.source.now) (rest c.args.file.now)) (compile_work c.args.source.now c.args.file.now) g.F.Folder _ _ g.S.Sink _ _ c.print_result.result (file_behind c.args.source.now (rest c.args.file.now))
    (does_behind itself (compiled_work c.args.source.now) (rest c.args.file.now) g.F.Folder _ _ _ c.in-Ok.compiled g.S.Sink _ _ c.print_result.result c.in-Ok.ensures.gives
    (does_written status.Done line c.args.file.now bytes c.as_slice.result.now g.F.Folder _ _ g.S.Sink _ _ c.print_result.result _
    c.as_slice.ensures c.in-Ok-write.ensures.counts c.in-Ok-write.ensures.told c.in-Ok-write.ensures.writes (tells_made _ _ _ _ _ _ _ c.print_result.ensures c.compiled_line.ensures)))

pub returns-in-Ok : goal.returns-in-Ok
returns-in-Ok g c =
    let line : List ℕ = compiled_line c.in-Ok.compiled in
    let bytes : List ℕ = c.in-Ok.compiled.bytes in
    rw c.write_status.ensures
    (does_as (and_then (compiled_work c.args.source.now) (rest c.args.file.now)) (compile_work c.args.source.now c.args.file.now) g.F.Folder _ _ g.S.Sink _ _ (write_status c.in-Err-write.error) (file_behind c.args.source.now (rest c.args.file.now))
    (does_behind itself (compiled_work c.args.source.now) (rest c.args.file.now) g.F.Folder _ _ _ c.in-Ok.compiled g.S.Sink _ _ (write_status c.in-Err-write.error) c.in-Ok.ensures.gives
    (does_unwritten status.Done line c.args.file.now bytes c.as_slice.result.now g.F.Folder _ _ g.S.Sink _ c.in-Err-write.error
    c.in-Err-write.ensures.counts c.in-Err-write.ensures.told c.in-Err-write.ensures.writes)))

pub returns : goal.returns
returns g c =
    does_as (and_then (compiled_work c.args.source.now) (rest c.args.file.now)) (compile_work c.args.source.now c.args.file.now) g.F.Folder _ _ g.S.Sink _ _ c.print_stop.result (file_behind c.args.source.now (rest c.args.file.now))
    (does_stopped itself (compiled_work c.args.source.now) (rest c.args.file.now) g.F.Folder _ _ c.in-Err.stop g.S.Sink _ _ c.print_stop.result c.in-Err.ensures.gives c.print_stop.ensures)
