use Rattle.std.proofs.Common.{rules}
use Rattle.play_transcript.proofs.PrintingLaws.{fault_prints}
use Rattle.export_run.proofs.Differs.{told_begun, told_groups_begun}
use Rattle.export_run.proofs.telling.put_told.Goals as goal

pub returns-in_err-put_differences-clause-prints : goal.returns-in_err-put_differences-clause-prints
returns-in_err-put_differences-clause-prints g c = λ told.
    fault_prints _ _ _ _ _ c.from_residual.ensures.1 (told_begun _ _ c.args.differences.now _ (search rules) (c.in_err-put_differences.ensures.prints told))

pub returns-in_err-put_groups-clause-prints : goal.returns-in_err-put_groups-clause-prints
returns-in_err-put_groups-clause-prints g c = λ told.
    fault_prints _ _ _ _ _ c.from_residual-in_err-put_groups.ensures.1
    (told_groups_begun _ _ _ c.args.differences.now _ _ (search rules) (search rules) (c.in_ok-put_differences.ensures.prints told)
    (c.in_err-put_groups.ensures.prints (search rules)))
