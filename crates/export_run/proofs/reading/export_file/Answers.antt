use Rattle.std.proofs.Common.{rules}
use Rattle.export_run.specs.Reads.{export_stop}
use Rattle.export_run.proofs.Answered.{answers_handed, differs_answered, stop_answered}
use Rattle.export_run.proofs.reading.export_file.Goals as goal

pub returns-in_err-bytes : goal.returns-in_err-bytes
returns-in_err-bytes c =
    answers_handed c.args.file.now (export_stop c.in_err-bytes.field-0.0) c.from_residual.result c.from_residual.ensures.1
    (stop_answered c.args.file.now c.in_err-bytes.field-0.0 c.in_err-bytes.ensures)

pub returns-in_err-differences : goal.returns-in_err-differences
returns-in_err-differences c =
    answers_handed c.args.file.now c.in_err-differences.field-0.0 c.from_residual-in_err-differences.result c.from_residual-in_err-differences.ensures.1
    (differs_answered c.args.file.now c.in_ok-bytes.bytes c.as_slice.result.now c.in_err-differences.field-0.0 (search rules) c.in_ok-bytes.ensures c.in_err-differences.ensures)
