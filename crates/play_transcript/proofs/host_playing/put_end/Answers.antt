use Rattle.std.proofs.Common.{◌≡◌, ◌++◌, List, ℕ, rules}
use Rattle.rule_model.specs.Lines.{end_line}
use Rattle.play_transcript.specs.Printing.{IsBegun}
use Rattle.play_transcript.proofs.PrintingLaws.{fault_prints, begun_front, begun_behind}
use Rattle.play_transcript.specs.HostText.{field_texts}
use Rattle.play_transcript.proofs.host_playing.put_end.Goals as goal

pub returns-in_err-put_texts-clause-prints : goal.returns-in_err-put_texts-clause-prints
returns-in_err-put_texts-clause-prints g c = λ told.
    fault_prints _ _ _ _ _ c.from_residual-in_err-put_texts.ensures.1
    (begun_front _ _ (field_texts 1 c.args.play.now.host.sessions) (end_line c.args.play.now.events c.args.play.now.failed) (c.in_err-put_texts.ensures.prints told))

pub returns-in_err-put_all-clause-prints : goal.returns-in_err-put_all-clause-prints
returns-in_err-put_all-clause-prints g c = λ told.
    let texts : List ℕ = field_texts 1 c.args.play.now.host.sessions in
    let end : List ℕ = end_line c.args.play.now.events c.args.play.now.failed in
    let texts_put : g.S.Sink.written c.put_texts.new.out ≡ g.S.Sink.written c.args.out.now ++ texts = search rules in
    let end_put : IsBegun (g.S.Sink.written c.put_texts.new.out) (g.S.Sink.written c.put_all.new.out) end = search rules in
    fault_prints _ _ _ _ _ c.from_residual-in_err-put_all.ensures.1 (begun_behind _ _ _ texts end texts_put end_put)
