use Rattle.kmn_compiler.proofs.Accepted.{accepted_writable, compiled_from, unwritten, answered}
use Rattle.kmn_compiler.proofs.Checks.{is_accepted}
use Rattle.kmn_compiler.proofs.compiling.back.Goals as goal

pub write-requires : goal.write-requires
write-requires c = accepted_writable c.args.checked.now (is_accepted c.args.checked.now c.in_ok-tables.ensures.read c.in_ok-tables.ensures.unrefused) c.in_ok-tables.tables c.in_ok-tables.ensures.compiles

pub returns-in_err-bytes : goal.returns-in_err-bytes
returns-in_err-bytes c =
    let e = c.in_err-bytes.field-0.0 in
    answered c.args.checked.now c.args.picture.now e c.from_residual-in_err-bytes.result c.from_residual-in_err-bytes.ensures.1
    (unwritten c.args.checked.now c.args.picture.now c.in_ok-tables.tables e (is_accepted c.args.checked.now c.in_ok-tables.ensures.read c.in_ok-tables.ensures.unrefused)
    c.in_ok-tables.ensures.compiles c.in_err-bytes.ensures.refused)

pub returns : goal.returns
returns c =
    compiled_from c.args.checked.now c.args.picture.now (record { bytes = c.in_ok-bytes.bytes; tables = c.in_ok-tables.tables })
    (is_accepted c.args.checked.now c.in_ok-tables.ensures.read c.in_ok-tables.ensures.unrefused)
    c.in_ok-tables.ensures.compiles c.in_ok-bytes.ensures.written c.in_ok-bytes.ensures.file c.in_ok-bytes.ensures.within
