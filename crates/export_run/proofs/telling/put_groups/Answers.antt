use Rattle.std.proofs.Common.{rules, arith, refl, ◌∙◌}
use Rattle.play_transcript.proofs.PrintingLaws.{fault_prints}
use Rattle.export_run.specs.Lines.{group_line}
use Rattle.export_run.proofs.Differs.{line_begun, line_printed}
use Rattle.export_run.proofs.telling.put_groups.Goals as goal

pub returns-in_err-put_group-clause-prints : goal.returns-in_err-put_group-clause-prints
returns-in_err-put_group-clause-prints g c = λ told.
    fault_prints _ _ _ _ _ c.from_residual.ensures.1
    (line_begun group_line c.args.differences.now c.loop-difference.difference-index _ _ (omega arith) refl _ _ _ _ (c.loop-difference.invariant.printed told) (c.in_err-put_group.ensures.prints (search rules)))

pub loop-difference-preserved : goal.loop-difference-preserved
loop-difference-preserved g c = record {
  faults = c.in_ok-put_group.ensures.counts ∙ c.loop-difference.invariant.faults;
  told = c.in_ok-put_group.ensures.told ∙ c.loop-difference.invariant.told;
  printed = λ told.
      line_printed group_line c.args.differences.now c.loop-difference.difference-index _ _ (omega arith) refl _ _ _ _ (c.loop-difference.invariant.printed told) (c.in_ok-put_group.ensures.prints (search rules));
}
