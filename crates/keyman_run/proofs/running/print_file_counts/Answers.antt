use Rattle.keyman_words.proofs.Printed.{tells_made}
use Rattle.keyman_run.specs.Steps.{verify_stop}
use Rattle.keyman_run.proofs.FileRuns.{as_stop, tells_unread, tells_valid}
use Rattle.keyman_run.proofs.running.print_file_counts.Goals as goal

pub returns-in-Ok : goal.returns-in-Ok
returns-in-Ok g c =
    tells_valid c.args.bytes.now c.in-Ok.file g.S.Sink _ _ c.print_result.result c.in-Ok.ensures.0 c.in-Ok.ensures.1
    (tells_made _ _ _ _ _ _ _ c.print_result.ensures c.valid_line.ensures)

pub returns-in-Err : goal.returns-in-Err
returns-in-Err g c =
    tells_unread c.args.bytes.now c.in-Err.error g.S.Sink _ _ c.print_stop.result c.in-Err.ensures
    (as_stop _ (verify_stop c.in-Err.error) g.S.Sink _ _ c.print_stop.result c.from.ensures c.print_stop.ensures)
