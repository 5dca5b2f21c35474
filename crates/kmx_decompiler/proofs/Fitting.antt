-- The file that the text of a file compiles to is within the limits.
use Rattle.std.proofs.Common.{◌≡◌, ◌+◌, ◌≤◌, [], length, refl, sym, subst, arith}
use Rattle.rule_model.specs.declared.program.Program.{Program}
use Rattle.rule_model.specs.declared.tables.Tables.{Tables}
use Rattle.kmx_format.specs.TablesOf.{tables_of}
use Rattle.kmx_format.specs.Writable.{IsWritable}
use Rattle.compile_laws.specs.Ordered.{compiled_tables}
use Rattle.compile_laws.proofs.Ordered.{tables_are_only_ones}
use Rattle.rule_checker.proofs.Written.{tables_written}
use Rattle.decompile_program.specs.Back.{back}
use Rattle.decompile_program.proofs.Uncased.{uncased}
use Rattle.kmx_decompiler.specs.Laws.{TextFits}
use Rattle.kmx_decompiler.proofs.Accepted.{program_is_spelled, program_read, program_unrefused}
use Rattle.kmx_decompiler.proofs.FileBounds.{table_size, file_bound}
use Rattle.kmx_decompiler.proofs.TextItems.{text_long}
use Rattle.kmx_decompiler.proofs.CompiledItems.{few_items}
use Rattle.kmx_decompiler.proofs.WrittenOut.{spelled_written_out}

pub text_fits : TextFits
text_fits bytes has tables compiles =
    let program : Program = back (tables_of bytes) in
    let spelled = program_is_spelled bytes has in
    let read = program_read bytes has in
    let can : IsWritable tables = tables_written program tables read (program_unrefused bytes has) compiles in
    let cased = uncased (tables_of bytes) has.playable (spelled_written_out bytes has.playable has.spelled) in
    let few = few_items (tables_of bytes) (1 + length program.stores + length program.begins) cased spelled.groups in
    let same : tables ≡ compiled_tables program = tables_are_only_ones program tables read.order.own compiles in
    let long = text_long program spelled in
    let short = spelled.short in
    let size : table_size (compiled_tables program) ≤ 1_300_000 = omega (arith, few, long, short) in
    let within : table_size tables ≤ 1_300_000 = subst (λ (t : Tables). table_size t ≤ 1_300_000) (sym same) size in
    record { tables = tables; picture = []; writable = can; picture_size = omega arith; file_size = file_bound tables can within; is = refl }
