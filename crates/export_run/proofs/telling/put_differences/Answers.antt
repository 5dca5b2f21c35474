use Rattle.std.proofs.Common.{rules, arith}
use Rattle.play_transcript.proofs.PrintingLaws.{fault_prints, faults}
use Rattle.export_run.specs.Lines.{differs_line}
use Rattle.export_run.proofs.Differs.{line_begun, lines_begin}
use Rattle.std.proofs.lemmas.Grind.{common_steps}
use Rattle.export_run.proofs.telling.put_differences.Goals as goal

pub returns-in_err-put_difference-clause-prints : goal.returns-in_err-put_difference-clause-prints
returns-in_err-put_difference-clause-prints g c = λ told.
    fault_prints _ _ _ _ _ c.from_residual.ensures.1 (line_begun differs_line c.args.differences.now c.loop-difference.difference-index c.difference-item.result c.difference-item.result (omega arith) c.difference-item.is
    _ _ _ _ (c.loop-difference.invariant.printed told) (c.in_err-put_difference.ensures.prints (search rules)))

pub returns-clause-counts : goal.returns-clause-counts
returns-clause-counts g c = grind (arith, faults, lines_begin)

pub returns-clause-told : goal.returns-clause-told
returns-clause-told g c = grind (arith, faults, lines_begin)

pub loop-difference-preserved : goal.loop-difference-preserved
loop-difference-preserved g c = grind (arith, common_steps)

pub returns-clause-prints : goal.returns-clause-prints
returns-clause-prints g c = grind (arith, common_steps)
