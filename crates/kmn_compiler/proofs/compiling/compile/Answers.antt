use Rattle.std.proofs.Common.{sym, subst}
use Rattle.std.proofs.lemmas.Result.{err_from_is_err_and}
use Rattle.kmn_compiler.specs.Source.{CompilesTo}
use Rattle.kmn_compiler.proofs.Accepted.{unaccepted}
use Rattle.kmn_compiler.proofs.compiling.compile.Goals as goal

pub returns : goal.returns
returns c = subst (λ read. CompilesTo read c.args.picture.now c.back.result) (sym c.in_ok-checked.ensures) c.back.ensures

pub returns-in_err-checked : goal.returns-in_err-checked
returns-in_err-checked c =
    let p = err_from_is_err_and c.from_residual.result c.from_residual.ensures.1 in
    rw (p.1, p.2) (unaccepted _ c.args.picture.now c.in_err-checked.field-0.0 c.in_err-checked.ensures)
