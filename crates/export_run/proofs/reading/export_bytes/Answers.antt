use Rattle.export_run.specs.Reads.{verify_stop}
use Rattle.export_run.proofs.Answered.{fault_stated, states_handed}
use Rattle.export_run.proofs.reading.export_bytes.Goals as goal

pub returns-in_err-file : goal.returns-in_err-file
returns-in_err-file c =
    states_handed c.args.bytes.now (verify_stop c.in_err-file.field-0.0) c.from_residual.result c.from_residual.ensures.1
    (fault_stated c.args.bytes.now c.in_err-file.field-0.0 c.in_err-file.ensures)
