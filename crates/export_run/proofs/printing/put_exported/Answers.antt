use Rattle.std.proofs.Common.{rules, length}
use Rattle.play_transcript.proofs.PrintingLaws.{fault_prints}
use Rattle.export_run.proofs.Differs.{size_begun}
use Rattle.export_run.proofs.printing.put_exported.Goals as goal

pub returns-in_err-put_all-clause-prints : goal.returns-in_err-put_all-clause-prints
returns-in_err-put_all-clause-prints g c = λ told.
    fault_prints _ _ _ _ _ c.from_residual-in_err-put_all.ensures.1
    (size_begun _ _ _ (length c.args.export.now.bytes) c.args.export.now.differences (search rules) (c.in_err-put_all.ensures.prints told))
