use Rattle.std.proofs.Common.{List, ℕ, ◌++◌, rules, arith}
use Rattle.kmn_base.specs.Lists.{window}
use Rattle.rule_model.specs.Lines.{event_line}
use Rattle.play_session.specs.Printed.{change_lines}
use Rattle.play_transcript.specs.Printing.{IsBegun}
use Rattle.play_transcript.proofs.PrintingLaws.{fault_prints, begun_front, faults, prints_behind}
use Rattle.play_transcript.proofs.playing.put_step.Goals as goal

pub returns-in_err-put_all-clause-prints : goal.returns-in_err-put_all-clause-prints
returns-in_err-put_all-clause-prints g c = λ told.
    let line : List ℕ = c.args.front.now ++ event_line c.args.step.number c.args.step.outcome c.args.session.now.inserted (window c.args.session.now.state.left) in
    let begun : IsBegun (g.S.Sink.written c.args.out.now) (g.S.Sink.written c.put_all.new.out) line = search rules in
    fault_prints _ _ _ _ _ c.from_residual-in_err-put_all.ensures.1 (begun_front _ _ line (change_lines c.args.front.now c.args.session.now) begun)

pub returns-clause-counts : goal.returns-clause-counts
returns-clause-counts g c = grind (arith, faults, prints_behind)

pub returns-clause-told : goal.returns-clause-told
returns-clause-told g c = grind (arith, faults, prints_behind)

pub returns-clause-prints : goal.returns-clause-prints
returns-clause-prints g c = grind (arith, faults, prints_behind)
