-- The export of the converted file, and what each exported file has.
use Rattle.std.proofs.Common.{◌≡◌, ◌≢◌, ℕ, List, length, Option, Some, None, Ok, Err, refl, sym, ap, subst, ◌∙◌}
use Rattle.std.specs.Prelude.{unwrap_or}
use Rattle.std.proofs.lemmas.Bool.{false≢true}
use Rattle.std.proofs.lemmas.Option.{none-some}
use Rattle.kmn_base.specs.declared.events.Event.{Event}
use Rattle.rule_model.specs.declared.tables.Tables.{Tables}
use Rattle.rule_model.specs.Tab.{tab}
use Rattle.rule_model.specs.Trace.{trace}
use Rattle.kmx_format.specs.TablesOf.{tables_of}
use Rattle.kmx_verifier.specs.declared.faults.Fault.{Fault}
use Rattle.kmx_verifier.specs.FaultOf.{fault_of, IsValid}
use Rattle.file_conversions.specs.Conversions.{converted_bytes, converted_tables}
use Rattle.file_conversions.specs.declared.conversions.Conversion.{Conversion}
use Rattle.file_conversions.specs.declared.conversions.Conversion.TheVariants as conversion
use Rattle.file_conversions.proofs.AllConversions.{conversion_keeps_traces, converted_size}
use Rattle.core_export.specs.declared.errors.ExportError.{ExportError}
use Rattle.core_export.specs.declared.errors.ExportError.TheVariants as error
use Rattle.core_export.specs.Export.{exported, SaysTheSame, ExportsUnconverted, IsConvertedExport, HasNoExport, FindsConverted, HasExport, IsAfter, Converted, Unconverted, Unchanged, IsAfterAll, Exports}
use Rattle.core_export.specs.ExportLaws.{ExportsAreSafe, ExportsPlayAlike, ExportsKeepSize}
use Rattle.core_export.proofs.Named.{exporting_keeps_meaning}

same_number : (a b : ℕ) → Some a ≡ Some b → a ≡ b
same_number a b e = ap (λ (o : Option ℕ). unwrap_or o a) e

-- a file that has an export has no reason against it
pub not_both : (bytes out : List ℕ) (why : ExportError) → why ≢ error.Memory → ExportsUnconverted bytes (Ok out) → ExportsUnconverted bytes (Err why) → ⊥
not_both bytes out (error.SavesTwice line) other h why = none-some line (sym h.0.tables.saves ∙ why)
not_both bytes out error.Nameless other h why = false≢true (sym h.0.tables.named ∙ why.1)
not_both bytes out (error.Unreadable line) other h why = false≢true (sym h.0.tables.read ∙ why.2)
not_both bytes out error.Overfull other h why = false≢true (sym h.0.fits ∙ why.1)
not_both bytes out error.NoZeroUnit other h why = none-some h.1.0 (sym why.1 ∙ h.1.1)
not_both bytes out error.Overlapping other h why =
    let same : h.1.0 ≡ why.1.0 = same_number h.1.0 why.1.0 (sym h.1.1 ∙ why.1.1) in
    why.1.2 (subst (SaysTheSame bytes) (h.1.2 ∙ ap (exported bytes) same) h.1.4.same)
not_both bytes out error.Memory other h why = other refl

-- ---- why a converted file has no export

pub none_valid : (how : Conversion) (bytes converted : List ℕ) (fault : Fault) → fault_of converted ≡ Some fault → HasNoExport how bytes converted
none_valid how bytes converted fault faulty = record { none = λ out h. none-some fault (sym h.valid ∙ faulty) }

pub none_same : (how : Conversion) (bytes converted opened : List ℕ) → opened ≡ converted → (tables_of opened ≡ converted_tables how (tables_of bytes) → ⊥) → HasNoExport how bytes converted
none_same how bytes converted opened is other = record { none = λ out h. other (ap tables_of is ∙ h.tables) }

pub none_exported : (how : Conversion) (bytes converted opened : List ℕ) (why : ExportError) → opened ≡ converted → why ≢ error.Memory → ExportsUnconverted opened (Err why) → HasNoExport how bytes converted
none_exported how bytes converted opened why is other refused =
    record { none = λ out h. not_both converted out why other h.exported (subst (λ (xs : List ℕ). ExportsUnconverted xs (Err why)) is refused) }

-- a converted file that has an export
pub found : (how : Conversion) (bytes converted opened out : List ℕ) → fault_of converted ≡ None → opened ≡ converted → tables_of opened ≡ converted_tables how (tables_of bytes) → ExportsUnconverted opened (Ok out)
    → IsConvertedExport how bytes converted out
found how bytes converted opened out valid is tables exports =
    record {
      valid = valid;
      tables = ap tables_of (sym is) ∙ tables;
      exported = subst (λ (xs : List ℕ). ExportsUnconverted xs (Ok out)) is exports;
    }

-- what is found for a file is found for the bytes that it was opened from
pub found_opened : (how : Conversion) (bytes opened converted : List ℕ) (found : Option (List ℕ)) → opened ≡ bytes → FindsConverted how opened converted found → FindsConverted how bytes converted found
found_opened how bytes opened converted found is = subst (λ (xs : List ℕ). FindsConverted how xs converted found) is

-- a valid file has no fault
pub none_invalid : (how : Conversion) (bytes converted : List ℕ) (fault : Fault) → IsValid bytes → fault_of bytes ≡ Some fault → HasNoExport how bytes converted
none_invalid how bytes converted fault valid faulty = absurd (none-some fault (sym valid ∙ faulty))

-- ---- one conversion

-- the export of a file that was copied
pub own_export : (bytes slice copy out : List ℕ) → copy ≡ slice → slice ≡ bytes → IsValid bytes → ExportsUnconverted bytes (Ok out) → HasExport copy out
own_export bytes slice copy out copied is valid exports =
    subst (λ (xs : List ℕ). HasExport xs out) (sym (copied ∙ is)) (record { valid = valid; exported = exports })

-- the converted file, whose bytes were read from a slice
pub after_converted : (how : Conversion) (bytes after slice out : List ℕ) → after ≡ converted_bytes how bytes → slice ≡ after → IsConvertedExport how bytes slice out → IsAfter how bytes after
after_converted how bytes after slice out is read converted =
    Converted out (subst (λ (xs : List ℕ). IsConvertedExport how bytes xs out) read converted) is

pub exports_converted : (how : Conversion) (bytes after slice out : List ℕ) → slice ≡ after → IsConvertedExport how bytes slice out → HasExport after out
exports_converted how bytes after slice out read converted =
    subst (λ (xs : List ℕ). HasExport xs out) read (record { valid = converted.valid; exported = converted.exported })

pub after_unconverted : (how : Conversion) (bytes after slice : List ℕ) → after ≡ converted_bytes how bytes → slice ≡ after → HasNoExport how bytes slice → IsAfter how bytes bytes
after_unconverted how bytes after slice is read none = Unconverted (subst (HasNoExport how bytes) (read ∙ is) none) refl

pub after_unchanged : (how : Conversion) (bytes after slice : List ℕ) → after ≡ converted_bytes how bytes → slice ≡ after → slice ≡ bytes → IsAfter how bytes bytes
after_unchanged how bytes after slice is read same = Unchanged (sym (read ∙ is) ∙ same) refl

-- the file after a conversion, where the file was read from a slice
pub valid_slice : (bytes slice out : List ℕ) → slice ≡ bytes → HasExport bytes out → IsValid slice
valid_slice bytes slice out read exports = subst IsValid (sym read) exports.valid

pub after_slice : (how : Conversion) (bytes slice after : List ℕ) → slice ≡ bytes → IsAfter how slice after → IsAfter how bytes after
after_slice how bytes slice after read is = subst (λ (xs : List ℕ). IsAfter how xs after) read is

pub same_slice : (how : Conversion) (bytes slice : List ℕ) → slice ≡ bytes → IsAfter how slice slice → IsAfter how bytes bytes
same_slice how bytes slice read is = subst (λ (xs : List ℕ). IsAfter how xs xs) read is

-- ---- the result of the exporter

pub after_three : (bytes first second last : List ℕ) → IsAfter conversion.NulFirst bytes first → IsAfter conversion.PlainSides first second → IsAfter conversion.EmptyAsNomatch second last
    → IsAfterAll bytes last
after_three bytes first second last nul sides empty = record { first = first; second = second; nul = nul; sides = sides; empty = empty }

pub exports_after : (bytes own own_out last out : List ℕ) → own ≡ bytes → HasExport own own_out → IsAfterAll own last → HasExport last out → Exports bytes (Ok out)
exports_after bytes own own_out last out is exports after done = (
  record { own = own_out; exported = subst (λ (xs : List ℕ). ExportsUnconverted xs (Ok own_out)) is exports.exported },
  record { last = last; after = subst (λ (xs : List ℕ). IsAfterAll xs last) is after; exported = done.exported },
)

-- ---- laws

pub exports_are_safe : ExportsAreSafe
exports_are_safe bytes out exports = exports.1.exported.2

-- a file and the file after a conversion take the same steps
after_alike : (how : Conversion) (bytes after : List ℕ) (events : List Event) → IsAfter how bytes after → trace (tab (tables_of after)) events ≡ trace (tab (tables_of bytes)) events
after_alike how bytes after events (Converted out converted is) =
    ap (λ (tables : Tables). trace (tab tables) events) converted.tables ∙ conversion_keeps_traces how (tables_of bytes) events
after_alike how bytes after events (Unconverted none is) = ap (λ (xs : List ℕ). trace (tab (tables_of xs)) events) is
after_alike how bytes after events (Unchanged same is) = ap (λ (xs : List ℕ). trace (tab (tables_of xs)) events) is

all_alike : (bytes last : List ℕ) (events : List Event) → IsAfterAll bytes last → trace (tab (tables_of last)) events ≡ trace (tab (tables_of bytes)) events
all_alike bytes last events after =
    after_alike conversion.EmptyAsNomatch after.second last events after.empty
    ∙ after_alike conversion.PlainSides after.first after.second events after.sides
    ∙ after_alike conversion.NulFirst bytes after.first events after.nul

pub exports_play_alike : ExportsPlayAlike
exports_play_alike bytes out exports events =
    let done = exports.1 in
    exporting_keeps_meaning done.last out done.exported.1.4.same events ∙ all_alike bytes done.last events done.after

-- ---- the number of bytes

after_size : (how : Conversion) (bytes after : List ℕ) → IsAfter how bytes after → length after ≡ length bytes
after_size how bytes after (Converted out converted is) = ap length is ∙ converted_size how bytes
after_size how bytes after (Unconverted none is) = ap length is
after_size how bytes after (Unchanged same is) = ap length is

all_size : (bytes last : List ℕ) → IsAfterAll bytes last → length last ≡ length bytes
all_size bytes last after =
    after_size conversion.EmptyAsNomatch after.second last after.empty
    ∙ after_size conversion.PlainSides after.first after.second after.sides
    ∙ after_size conversion.NulFirst bytes after.first after.nul

pub exports_keep_size : ExportsKeepSize
exports_keep_size bytes out exports =
    let done = exports.1 in
    done.exported.1.3.size ∙ all_size bytes done.last done.after
