use Rattle.std.proofs.lemmas.Result.{err_from_is_err_and}
use Rattle.text_host.proofs.LineLaws.{script_refused}
use Rattle.text_host.proofs.script.read_host.Goals as goal

pub returns-in_err-script_text : goal.returns-in_err-script_text
returns-in_err-script_text c =
    let p = err_from_is_err_and c.from_residual.result c.from_residual.ensures.1 in
    rw (p.1, p.2) (script_refused c.args.names.now c.args.bytes.now c.in_err-script_text.field-0.0 c.in_err-script_text.ensures.is)
