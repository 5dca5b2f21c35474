use Rattle.std.proofs.Common.{◌≡◌, false, List, ℕ, sym, subst, rules}
use Rattle.play_transcript.specs.Printing.{IsBegun}
use Rattle.play_transcript.proofs.PrintingLaws.{fault_prints}
use Rattle.play_transcript.specs.EachEntry.{is_text_of}
use Rattle.play_transcript.specs.HostPlaying.{turned_to}
use Rattle.play_transcript.proofs.FieldLaws.{expect_differs}
use Rattle.play_transcript.proofs.host_playing.play_expect.Goals as goal

pub returns-in_err-put_line-clause-prints : goal.returns-in_err-put_line-clause-prints
returns-in_err-put_line-clause-prints g c = λ told.
    let differs : is_text_of c.args.text.now (turned_to c.args.play.now) ≡ false = search rules in
    fault_prints _ _ _ _ _ c.from_residual-in_err-put_line.ensures.1
    (subst (λ (lines : List ℕ). IsBegun (g.S.Sink.written c.args.out.now) (g.S.Sink.written c.put_line.new.out) lines)
    (sym (expect_differs c.args.play.now.field c.args.line c.args.text.now (turned_to c.args.play.now) differs)) (search rules))
