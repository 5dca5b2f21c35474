use Rattle.std.proofs.Common.{◌≡◌, ◌++◌, ◌∙◌, List, ℕ, ap, subst, rules, arith}
use Rattle.play_transcript.specs.Printing.{IsBegun}
use Rattle.play_transcript.proofs.PrintingLaws.{fault_prints, faults}
use Rattle.play_transcript.specs.HostText.{front, preview_line}
use Rattle.play_transcript.proofs.FieldLaws.{shown_lines}
use Rattle.play_transcript.proofs.host_playing.play_preview.Goals as goal

pub returns-in_err-put_line-in-Ok-clause-prints : goal.returns-in_err-put_line-in-Ok-clause-prints
returns-in_err-put_line-in-Ok-clause-prints g c = λ told.
    let line : c.in_ok-line-in-Ok.line ≡ preview_line c.in-Ok.preview.outcome c.in-Ok.preview.inserted = search rules in
    fault_prints _ _ _ _ _ c.from_residual-in_err-put_line-in-Ok.ensures.1
    (subst (λ (lines : List ℕ). IsBegun (g.S.Sink.written c.args.out.now) (g.S.Sink.written c.put_line.new.out) lines)
    (ap (λ (text : List ℕ). front c.args.play.now.field ++ text) line
    ∙ shown_lines c.args.play.now c.args.press c.in-Ok.preview.outcome c.in-Ok.preview.inserted c.in-Ok.ensures.happens c.in-Ok.ensures.outcome c.in-Ok.ensures.inserted)
    (c.in_err-put_line-in-Ok.ensures.prints told))

pub returns-in_err-line-in-Ok-clause-counts : goal.returns-in_err-line-in-Ok-clause-counts
returns-in_err-line-in-Ok-clause-counts g c = grind (arith, faults)

pub returns-in_err-line-in-Ok-clause-told : goal.returns-in_err-line-in-Ok-clause-told
returns-in_err-line-in-Ok-clause-told g c = grind (arith, faults)

pub returns-in_err-line-in-Ok-clause-plays : goal.returns-in_err-line-in-Ok-clause-plays
returns-in_err-line-in-Ok-clause-plays g c = grind (arith, faults)

pub returns-in_err-line-in-Ok-clause-prints : goal.returns-in_err-line-in-Ok-clause-prints
returns-in_err-line-in-Ok-clause-prints g c = grind (arith, faults)

pub returns-in_err-put_line-in-Ok-clause-counts : goal.returns-in_err-put_line-in-Ok-clause-counts
returns-in_err-put_line-in-Ok-clause-counts g c = grind (arith, faults)

pub returns-in_err-put_line-in-Ok-clause-told : goal.returns-in_err-put_line-in-Ok-clause-told
returns-in_err-put_line-in-Ok-clause-told g c = grind (arith, faults)

pub returns-in_err-put_line-in-Ok-clause-plays : goal.returns-in_err-put_line-in-Ok-clause-plays
returns-in_err-put_line-in-Ok-clause-plays g c = grind (arith, faults)

pub returns-in_err-code-in-Err-clause-counts : goal.returns-in_err-code-in-Err-clause-counts
returns-in_err-code-in-Err-clause-counts g c = grind (arith, faults)

pub returns-in_err-code-in-Err-clause-told : goal.returns-in_err-code-in-Err-clause-told
returns-in_err-code-in-Err-clause-told g c = grind (arith, faults)

pub returns-in_err-code-in-Err-clause-plays : goal.returns-in_err-code-in-Err-clause-plays
returns-in_err-code-in-Err-clause-plays g c = grind (arith, faults)

pub returns-in_err-code-in-Err-clause-prints : goal.returns-in_err-code-in-Err-clause-prints
returns-in_err-code-in-Err-clause-prints g c = grind (arith, faults)

pub returns-in_ok-put_line-in-Ok-clause-counts : goal.returns-in_ok-put_line-in-Ok-clause-counts
returns-in_ok-put_line-in-Ok-clause-counts g c = grind (arith, faults)

pub returns-in_ok-put_line-in-Ok-clause-told : goal.returns-in_ok-put_line-in-Ok-clause-told
returns-in_ok-put_line-in-Ok-clause-told g c = grind (arith, faults)

pub returns-in_ok-put_line-in-Ok-clause-plays : goal.returns-in_ok-put_line-in-Ok-clause-plays
returns-in_ok-put_line-in-Ok-clause-plays g c = grind (arith, faults)

pub returns-in_ok-put_line-in-Ok-clause-prints : goal.returns-in_ok-put_line-in-Ok-clause-prints
returns-in_ok-put_line-in-Ok-clause-prints g c = grind (arith, faults)

pub returns-in_ok-code-in-Err-clause-counts : goal.returns-in_ok-code-in-Err-clause-counts
returns-in_ok-code-in-Err-clause-counts g c = grind (arith, faults)

pub returns-in_ok-code-in-Err-clause-told : goal.returns-in_ok-code-in-Err-clause-told
returns-in_ok-code-in-Err-clause-told g c = grind (arith, faults)

pub returns-in_ok-code-in-Err-clause-plays : goal.returns-in_ok-code-in-Err-clause-plays
returns-in_ok-code-in-Err-clause-plays g c = grind (arith, faults)

pub returns-in_ok-code-in-Err-clause-prints : goal.returns-in_ok-code-in-Err-clause-prints
returns-in_ok-code-in-Err-clause-prints g c = grind (arith, faults)
