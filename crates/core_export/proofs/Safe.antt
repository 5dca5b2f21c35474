-- The result of the exporter for a file that does not crash Keyman's own engine, and the file that it then writes.
use Rattle.std.proofs.Common.{◌≡◌, ℕ, false, List, length, Result, Ok, Err, sym, ap₂, subst, ◌∙◌}
use Rattle.kmx_format.specs.TablesOf.{tables_of}
use Rattle.rule_model.specs.declared.tables.Tables.{Tables}
use Rattle.core_export.specs.Saves.{saving_line}
use Rattle.core_export.specs.declared.errors.ExportError.{ExportError}
use Rattle.core_export.specs.declared.errors.ExportError.TheVariants as error
use Rattle.core_export.specs.Readable.{has_nameless, has_misread, is_overfull, AreSafe, IsReadable}
use Rattle.core_export.specs.Export.{with_played_version, SaysTheSame, Replaces, AreUnsafe, IsSafe, IsExportError, ExportsUnconverted}

-- with a lower version, tables are still safe and need the same space
played_safe : (tables : Tables) → AreSafe tables → AreSafe (with_played_version tables)
unfolding saving_line has_nameless has_misread
played_safe tables safe = record { saves = safe.saves; named = safe.named; read = safe.read }

played_fits : (tables : Tables) (size : ℕ) → is_overfull tables size ≡ false → is_overfull (with_played_version tables) size ≡ false
unfolding is_overfull
played_fits tables size fits = fits

-- if a file says the same as one that does not crash the engine, and has its size, it is readable
readable : (bytes out : List ℕ) → IsSafe bytes → SaysTheSame bytes out → length out ≡ length bytes → IsReadable out
readable bytes out safe same size = record {
  valid = same.valid;
  contents = same.contents;
  records = same.records;
  safe = subst AreSafe (sym same.tables) (played_safe (tables_of bytes) safe.tables);
  fits = ap₂ is_overfull same.tables size ∙ played_fits (tables_of bytes) (length bytes) safe.fits;
}

-- if a file does not crash the engine, replacing its words is its export
pub exports_safe : (bytes : List ℕ) (result : Result (List ℕ) ExportError) → AreSafe (tables_of bytes) → is_overfull (tables_of bytes) (length bytes) ≡ false → Replaces bytes result → ExportsUnconverted bytes result
exports_safe bytes (Ok out) tables fits words =
    let safe : IsSafe bytes = record { tables = tables; fits = fits } in
    (safe, words, readable bytes out safe words.4.same words.3.size)
exports_safe bytes (Err (error.SavesTwice line)) tables fits words = absurd words
exports_safe bytes (Err error.Nameless) tables fits words = absurd words
exports_safe bytes (Err (error.Unreadable line)) tables fits words = absurd words
exports_safe bytes (Err error.Overfull) tables fits words = absurd words
exports_safe bytes (Err error.NoZeroUnit) tables fits words = (record { tables = tables; fits = fits }, words)
exports_safe bytes (Err error.Overlapping) tables fits words = (record { tables = tables; fits = fits }, words)
exports_safe bytes (Err error.Memory) tables fits words = words

-- if the tables of a file crash the engine, the file isn't exported for this reason
pub unsafe_exported : (bytes : List ℕ) (why : ExportError) → AreUnsafe (tables_of bytes) why → IsExportError bytes why
unsafe_exported bytes (error.SavesTwice line) unsafe = unsafe
unsafe_exported bytes error.Nameless unsafe = unsafe
unsafe_exported bytes (error.Unreadable line) unsafe = unsafe
unsafe_exported bytes error.Overfull unsafe = absurd unsafe
unsafe_exported bytes error.NoZeroUnit unsafe = absurd unsafe
unsafe_exported bytes error.Overlapping unsafe = absurd unsafe
unsafe_exported bytes error.Memory unsafe = unsafe
