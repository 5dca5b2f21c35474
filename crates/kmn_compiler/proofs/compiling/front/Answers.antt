use Rattle.std.proofs.lemmas.Result.{err_from_is_err_and}
use Rattle.rule_checker.proofs.Sources.{source_read}
use Rattle.kmn_compiler.proofs.Checks.{checked_read, unread}
use Rattle.kmn_compiler.proofs.compiling.front.Goals as goal

pub check-requires : goal.check-requires
check-requires c = source_read c.args.source.now c.in_ok-program.program c.in_ok-program.ensures

pub returns : goal.returns
returns c = checked_read c.args.source.now c.in_ok-program.program c.check.result c.in_ok-program.ensures c.check.ensures

pub returns-in_err-program : goal.returns-in_err-program
returns-in_err-program c =
    let p = err_from_is_err_and c.from_residual.result c.from_residual.ensures.1 in
    rw (p.1, p.2) (unread c.args.source.now c.in_err-program.field-0.0 c.in_err-program.ensures)
