use Rattle.std.proofs.Common.{◌+◌, sym, ◌∙◌}
use Rattle.std.proofs.lemmas.Result.{err_from_is_err_and}
use Rattle.play_script.specs.Lines.{text_lines}
use Rattle.text_host.specs.HostEntries.{with_lines}
use Rattle.text_host.proofs.LineLaws.{refused_line, next_line}
use Rattle.text_host.proofs.script.read_lines.Goals as goal

pub returns-in_err-read : goal.returns-in_err-read
returns-in_err-read c =
    let p = err_from_is_err_and c.from_residual.result c.from_residual.ensures.1 in
    rw (p.1, p.2) (refused_line c.in_err-read.field-0.0 _ (with_lines c.args.names.now (c.loop-rest.line + 1) (text_lines c.first_line.result.1.now)) _ c.read.new.self c.in_err-read.ensures
    (sym (next_line c.args.names.now c.loop-rest.line c.loop-rest.rest.now c.first_line.result.0.now c.first_line.result.1.now c.loop-rest.script c.first_line.ensures.parts) ∙ c.loop-rest.invariant.0))
