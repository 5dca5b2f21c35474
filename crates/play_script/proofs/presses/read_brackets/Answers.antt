use Rattle.std.proofs.Common.{sym, ◌∙◌}
use Rattle.std.proofs.lemmas.Result.{err_from_is_err_and}
use Rattle.play_script.proofs.LineLaws.{refused_bracket, next_bracket}
use Rattle.play_script.proofs.presses.read_brackets.Goals as goal

pub returns-in_err-read_bracket : goal.returns-in_err-read_bracket
returns-in_err-read_bracket c =
    let p = err_from_is_err_and c.from_residual.result c.from_residual.ensures.1 in
    rw (p.1, p.2) (refused_bracket c.in_err-read_bracket.field-0.0 _ _ _ c.read_bracket.new.reader c.in_err-read_bracket.ensures
    (sym (next_bracket c.args.dictionary.now c.args.line c.loop-piece.rest.now c.in-Some.piece.now c.in-Some.behind.now c.loop-piece.reader c.in-Some.ensures.parts) ∙ c.loop-piece.invariant))
