use Rattle.std.proofs.Common.{rules, arith, refl, ◌∙◌}
use Rattle.play_transcript.proofs.PrintingLaws.{fault_prints}
use Rattle.export_run.specs.Lines.{file_line}
use Rattle.export_run.proofs.Differs.{line_begun, line_printed}
use Rattle.export_run.proofs.telling.put_file.Goals as goal

pub returns-in_err-put_file_word-clause-prints : goal.returns-in_err-put_file_word-clause-prints
returns-in_err-put_file_word-clause-prints g c = λ told.
    fault_prints _ _ _ _ _ c.from_residual.ensures.1
    (line_begun file_line c.args.constructs.now c.loop-construct.construct-index _ _ (omega arith) refl _ _ _ _ (c.loop-construct.invariant.printed told) (c.in_err-put_file_word.ensures.prints (search rules)))

pub loop-construct-preserved : goal.loop-construct-preserved
loop-construct-preserved g c = record {
  faults = c.in_ok-put_file_word.ensures.counts ∙ c.loop-construct.invariant.faults;
  told = c.in_ok-put_file_word.ensures.told ∙ c.loop-construct.invariant.told;
  printed = λ told.
      line_printed file_line c.args.constructs.now c.loop-construct.construct-index _ _ (omega arith) refl _ _ _ _ (c.loop-construct.invariant.printed told) (c.in_ok-put_file_word.ensures.prints (search rules));
}
