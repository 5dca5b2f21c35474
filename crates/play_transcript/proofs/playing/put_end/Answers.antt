use Rattle.std.proofs.Common.{◌≡◌, ◌++◌, List, ℕ, rules, arith}
use Rattle.kmn_base.specs.Lists.{characters}
use Rattle.rule_model.specs.Lines.{text_line, end_line}
use Rattle.play_transcript.specs.Printing.{IsBegun}
use Rattle.play_transcript.proofs.PrintingLaws.{fault_prints, begun_front, begun_behind, faults}
use Rattle.std.proofs.lemmas.Grind.{common_steps}
use Rattle.play_transcript.proofs.playing.put_end.Goals as goal

pub returns-in_err-put_all-clause-prints : goal.returns-in_err-put_all-clause-prints
returns-in_err-put_all-clause-prints g c = λ told.
    let text : List ℕ = text_line (characters c.args.session.now.state.left) c.args.session.now.state.right in
    let begun : IsBegun (g.S.Sink.written c.args.out.now) (g.S.Sink.written c.put_all.new.out) text = search rules in
    fault_prints _ _ _ _ _ c.from_residual-in_err-put_all.ensures.1 (begun_front _ _ text (end_line c.args.counts.events c.args.counts.failed) begun)

pub returns-in_err-put_all-2-clause-prints : goal.returns-in_err-put_all-2-clause-prints
returns-in_err-put_all-2-clause-prints g c = λ told.
    let text : List ℕ = text_line (characters c.args.session.now.state.left) c.args.session.now.state.right in
    let end : List ℕ = end_line c.args.counts.events c.args.counts.failed in
    let text_put : g.S.Sink.written c.put_all.new.out ≡ g.S.Sink.written c.args.out.now ++ text = search rules in
    let end_put : IsBegun (g.S.Sink.written c.put_all.new.out) (g.S.Sink.written c.put_all-2.new.out) end = search rules in
    fault_prints _ _ _ _ _ c.from_residual-in_err-put_all-2.ensures.1 (begun_behind _ _ _ text end text_put end_put)

pub returns-clause-counts : goal.returns-clause-counts
returns-clause-counts g c = grind (arith, faults)

pub returns-clause-told : goal.returns-clause-told
returns-clause-told g c = grind (arith, faults)

pub returns-clause-ends : goal.returns-clause-ends
returns-clause-ends g c = grind (arith, faults)

pub returns-clause-prints : goal.returns-clause-prints
returns-clause-prints g c = grind (arith, common_steps)
