-- After a conversion, the tables take the same steps, and the number of bytes is the same.
use Rattle.std.proofs.Common.{◌≡◌, ℕ, List, length}
use Rattle.core_conversions.specs.Laws.{KeepsTraces}
use Rattle.core_conversions.proofs.NulFirst.{nul_first_keeps_traces}
use Rattle.core_conversions.proofs.PlainSides.{plain_sides_keep_traces}
use Rattle.core_conversions.proofs.EmptyAsNomatch.{empty_as_nomatch_keeps_traces}
use Rattle.file_conversions.specs.Conversions.{converted_bytes, converted_tables}
use Rattle.file_conversions.specs.declared.conversions.Conversion.{Conversion}
use Rattle.file_conversions.specs.declared.conversions.Conversion.TheVariants as conversion
use Rattle.file_conversions.proofs.NulWords.{nul_first_size}
use Rattle.file_conversions.proofs.PlainFlags.{plain_size}
use Rattle.file_conversions.proofs.NomatchWords.{nomatch_size}

pub conversion_keeps_traces : (how : Conversion) → KeepsTraces (converted_tables how)
conversion_keeps_traces conversion.NulFirst = nul_first_keeps_traces
conversion_keeps_traces conversion.PlainSides = plain_sides_keep_traces
conversion_keeps_traces conversion.EmptyAsNomatch = empty_as_nomatch_keeps_traces

pub converted_size : (how : Conversion) (bytes : List ℕ) → length (converted_bytes how bytes) ≡ length bytes
converted_size conversion.NulFirst bytes = nul_first_size bytes
converted_size conversion.PlainSides bytes = plain_size bytes
converted_size conversion.EmptyAsNomatch bytes = nomatch_size bytes
