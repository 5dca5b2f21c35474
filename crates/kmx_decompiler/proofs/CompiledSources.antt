-- A file that a source compiles to has a text, unless the text or what it compiles to is too large.
use Rattle.std.specs.Prelude.{option_map}
use Rattle.std.specs.Option.{option_or}
use Rattle.kmx_format.specs.File.{file_of}
use Rattle.kmx_format.specs.TablesOf.{tables_of}
use Rattle.rule_checker.proofs.Written.{tables_written}
use Rattle.rule_checker.proofs.Sources.{source_read, accepted_parts}
use Rattle.decompile_program.specs.Back.{back}
use Rattle.kmx_decompiler.specs.declared.no_spelling.NoSpelling.TheVariants.{Unspelled}
use Rattle.kmx_decompiler.specs.Excess.{excess}
use Rattle.kmx_decompiler.specs.Laws.{CompiledHasNoCauses, CompiledLacksNoText}
use Rattle.kmx_decompiler.specs.Places.{least}
use Rattle.kmx_decompiler.specs.Unspelled.{unspelled}
use Rattle.kmx_decompiler.proofs.CompiledCauses.{no_causes_compiled}
use Rattle.kmx_decompiler.proofs.CompiledOrder.{compiled_is_in_order}
use Rattle.kmx_decompiler.proofs.WrittenPrograms.{read_was_written}

pub compiled_has_no_causes : CompiledHasNoCauses
compiled_has_no_causes source program tables picture e compiles small =
    let parts = accepted_parts source program e in
    no_causes_compiled program tables picture (source_read source program parts.0) parts.1 (read_was_written source program parts.0) compiles small

pub compiled_lacks_no_text : CompiledLacksNoText
unfolding unspelled
compiled_lacks_no_text source program tables picture e compiles small =
    let parts = accepted_parts source program e in
    let can = tables_written program tables (source_read source program parts.0) parts.1 compiles in
    let order = compiled_is_in_order program tables picture compiles can small in
    let causes = compiled_has_no_causes source program tables picture e compiles small in
    λ i. option_or (order i) (option_or (option_map Unspelled (least (causes i))) (excess (back (tables_of (file_of tables picture)))))
