use Rattle.std.proofs.Common.{Err, sym, subst}
use Rattle.kmn_base.specs.Answers.{Answers}
use Rattle.kmn_parser.specs.Source.{parsed}
use Rattle.kmn_parser.proofs.LineLemmas.{parsed_text, parsed_other}
use Rattle.kmn_parser.proofs.reading.parse.Goals as goal

pub returns-in-Ok : goal.returns-in-Ok
returns-in-Ok c =
    let e = parsed_text c.args.source.now c.in-Ok.text.now c.if-source-gt-TEXT_BYTES.false c.in-Ok.ensures.cases.0 c.in-Ok.ensures.cases.1 in
    subst (λ read. Answers read c.read_text.result) (sym e) c.read_text.ensures

pub returns-in-Err : goal.returns-in-Err
returns-in-Err c =
    let e = parsed_other c.args.source.now c.if-source-gt-TEXT_BYTES.false c.in-Err.ensures.cases.0 in
    subst (λ error. Answers (parsed c.args.source.now) (Err error)) (sym c.refused-in-Err.ensures) e
