use Rattle.std.proofs.Common.{rules, ◌≡◌, arith, Err, IsSomeAnd, sym, subst}
use Rattle.std.proofs.lemmas.Bool.Decides.{nat_tests}
use Rattle.play_script.specs.Answers.{refusal_of}
use Rattle.play_script.specs.Entries.{script_text}
use Rattle.play_script.proofs.TextLaws.{text_kept, text_broken}
use Rattle.play_script.proofs.lines.script_text.Goals as goal

pub returns-in-Ok-clause-is : goal.returns-in-Ok-clause-is
returns-in-Ok-clause-is c = search (rules, text_kept)

pub returns-in-Err-clause-is : goal.returns-in-Err-clause-is
returns-in-Err-clause-is c =
    subst (λ error. IsSomeAnd (refusal_of error) (λ refusal. script_text c.args.bytes.now ≡ Err refusal)) (sym c.refused-in-Err.ensures)
    (text_broken c.args.bytes.now (grind (arith, nat_tests, c.if-bytes-gt-TEXT_BYTES.false)) c.in-Err.ensures.cases.0)
