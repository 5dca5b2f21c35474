use Rattle.std.proofs.Common.{◌≡◌, ◌+◌, drop, get_or, false, arith, subst, sym, ◌∙◌}
use Rattle.std.proofs.lemmas.Grind.{common_steps}
use Rattle.kmn_lines.specs.declared.line_state.LineState.{LineState}
use Rattle.kmn_lines.specs.Lines.{ends_line, after_byte, physical_lines}
use Rattle.kmn_lines.proofs.LineStates.{IsBetween}
use Rattle.kmn_lines.proofs.LineStates.{between_after_byte, physical_lines_step}
use Rattle.kmn_lines.proofs.physical_line.physical_line_at.Goals as goal

pub loop-at-preserved : goal.loop-at-preserved
loop-at-preserved c =
    let at = c.loop-at.at in
    let r = c.loop-at.state in
    let read : c.after_byte-state.result ≡ after_byte r at _ _ = c.after_byte-state.ensures in
    let between : IsBetween c.args.from (at + 1) (after_byte r at _ _) = between_after_byte c.args.from at r _ _ c.loop-at.invariant.0 c.loop-at.invariant.2 in
    let on : ends_line (get_or c.args.bytes.now at 0) c.byte_or_end-next.result ≡ false = sym c.ends_line.ensures ∙ c.if-ends_line.false in
    let step : physical_lines c.args.line c.args.from (after_byte r at _ _) (at + 1) (drop (at + 1) c.args.bytes.now) ≡ _ = physical_lines_step c.args.line c.args.from r at c.args.bytes.now _ c.loop-at-test.true c.byte_or_end-next.ensures on in (
      omega arith,
      omega arith,
      subst (IsBetween c.args.from (at + 1)) (sym read) between,
      subst (λ (s : LineState). physical_lines c.args.line c.args.from s (at + 1) (drop (at + 1) c.args.bytes.now) ≡ physical_lines c.args.line c.args.from r at (drop at c.args.bytes.now)) (sym read) step ∙ c.loop-at.invariant.3,
    )

pub returns-then-ends_line-clause-is : goal.returns-then-ends_line-clause-is
returns-then-ends_line-clause-is c = grind (arith, common_steps)

pub returns-then-ends_line-clause-line : goal.returns-then-ends_line-clause-line
returns-then-ends_line-clause-line c = grind (arith, common_steps)

pub returns-then-ends_line-clause-from : goal.returns-then-ends_line-clause-from
returns-then-ends_line-clause-from c = grind (arith, common_steps)

pub returns-then-ends_line-clause-within : goal.returns-then-ends_line-clause-within
returns-then-ends_line-clause-within c = grind (arith, common_steps)

pub returns-clause-is : goal.returns-clause-is
returns-clause-is c = grind (arith, common_steps)

pub returns-clause-line : goal.returns-clause-line
returns-clause-line c = grind (arith, common_steps)

pub returns-clause-from : goal.returns-clause-from
returns-clause-from c = grind (arith, common_steps)

pub returns-clause-within : goal.returns-clause-within
returns-clause-within c = grind (arith, common_steps)
