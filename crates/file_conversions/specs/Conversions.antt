-- The three conversions of a file, and what each does to its tables.
use Rattle.std.specs.Prelude.{ℕ, List}
use Rattle.rule_model.specs.declared.tables.Tables.{Tables}
use Rattle.core_conversions.specs.Conversions.{nul_first, plain_sides, empty_as_nomatch}
use Rattle.file_conversions.specs.PlainFlags.{plain_bytes}
use Rattle.file_conversions.specs.NulWords.{nul_first_bytes}
use Rattle.file_conversions.specs.NomatchWords.{nomatch_bytes}
use Rattle.file_conversions.specs.declared.conversions.Conversion.{Conversion}
use Rattle.file_conversions.specs.declared.conversions.Conversion.TheVariants as conversion

-- the bytes after a conversion
abbrev pub converted_bytes : Conversion → List ℕ → List ℕ
converted_bytes conversion.NulFirst bytes = nul_first_bytes bytes
converted_bytes conversion.PlainSides bytes = plain_bytes bytes
converted_bytes conversion.EmptyAsNomatch bytes = nomatch_bytes bytes

-- the tables that the bytes after a conversion are to have
abbrev pub converted_tables : Conversion → Tables → Tables
converted_tables conversion.NulFirst tables = nul_first tables
converted_tables conversion.PlainSides tables = plain_sides tables
converted_tables conversion.EmptyAsNomatch tables = empty_as_nomatch tables
