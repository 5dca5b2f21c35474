use Rattle.std.proofs.Common.{◌+◌, sym, ◌∙◌, arith}
use Rattle.std.proofs.lemmas.Result.{err_from_is_err_and}
use Rattle.std.proofs.lemmas.Grind.{common_steps}
use Rattle.play_script.specs.Lines.{text_lines}
use Rattle.play_script.specs.Entries.{lines_found}
use Rattle.play_script.proofs.LineLaws.{refused_line, next_line}
use Rattle.play_script.proofs.lines.read_lines.Goals as goal

pub returns-in_err-read_line : goal.returns-in_err-read_line
returns-in_err-read_line c =
    let p = err_from_is_err_and c.from_residual.result c.from_residual.ensures.1 in
    rw (p.1, p.2) (refused_line c.in_err-read_line.field-0.0 _ (lines_found c.args.dictionary.now (c.loop-rest.line + 1) (text_lines c.first_line.result.1.now)) _ c.read_line.new.reader c.in_err-read_line.ensures
    (sym (next_line c.args.dictionary.now c.loop-rest.line c.loop-rest.rest.now c.first_line.result.0.now c.first_line.result.1.now c.loop-rest.reader c.first_line.ensures.parts) ∙ c.loop-rest.invariant.0))

pub loop-rest-preserved : goal.loop-rest-preserved
loop-rest-preserved c = grind (arith, next_line)

pub returns : goal.returns
returns c = grind (arith, common_steps)
