-- The file that Keyman's own engine plays, and its properties.
use Rattle.std.specs.Prelude.{◌≡◌, ℕ, zero, suc, ◌+◌, ◌*◌, ◌<◌, ◌≤◌, min, true, false, nat_eq, if◌then◌else◌, List, length, slice_get, Option, Some, None, Result, Ok, Err}
use Rattle.std.specs.Option.{option_or}
use Rattle.rule_model.specs.declared.tables.Tables.{Tables}
use Rattle.kmx_format.specs.declared.places.TheConstants.{CHECKSUM_AT, GROUPS_AT, RULE_CONTEXT_AT, RULE_OUTPUT_AT, STORES_AT, VERSION_AT}
use Rattle.kmx_format.specs.declared.sizes.TheConstants.{STORE_BYTES, GROUP_BYTES, RULE_BYTES}
use Rattle.kmx_format.specs.TablesOf.{word_at, string_at, tables_of}
use Rattle.kmx_view.specs.View.{store_count, group_count}
use Rattle.kmx_verifier.specs.FaultOf.{IsValid}
use Rattle.file_conversions.specs.Conversions.{converted_bytes, converted_tables}
use Rattle.file_conversions.specs.Words.{with_word}
use Rattle.file_conversions.specs.declared.conversions.Conversion.{Conversion}
use Rattle.file_conversions.specs.declared.conversions.Conversion.TheVariants as conversion
use Rattle.core_export.specs.Saves.{saving_line}
use Rattle.core_export.specs.Checksum.{checksum}
use Rattle.core_export.specs.Readable.{are_contents_pointed, are_groups_pointed, has_misread, has_nameless, is_overfull, misread_line, AreSafe, IsReadable}
use Rattle.core_export.specs.declared.errors.ExportError.{ExportError}
use Rattle.core_export.specs.declared.errors.ExportError.TheVariants.{SavesTwice, Nameless, Unreadable, Overfull, NoZeroUnit, Overlapping, Memory}

-- ---- a zero unit of the file

-- the offset of the zero unit that ends the string at an offset, or None if the offset is 0
abbrev pub end_of : List ℕ → ℕ → Option ℕ
end_of bytes offset = if nat_eq offset 0 then None else Some (offset + 2 * length (string_at bytes offset))

-- the zero unit of the first string of a number of key records, outputs before contexts
abbrev pub end_in_records : List ℕ → ℕ → ℕ → Option ℕ
end_in_records bytes place zero = None
end_in_records bytes place (suc count) =
    option_or (option_or (end_of bytes (word_at bytes (place + 12))) (end_of bytes (word_at bytes (place + 16))))
    (end_in_records bytes (place + RULE_BYTES) count)

-- the zero unit of the first string of a group: of its name, its match or nomatch output, or its key records
abbrev pub end_in_group : List ℕ → ℕ → Option ℕ
end_in_group bytes place =
    option_or (option_or (end_of bytes (word_at bytes place)) (option_or (end_of bytes (word_at bytes (place + 8))) (end_of bytes (word_at bytes (place + 12)))))
    (end_in_records bytes (word_at bytes (place + 4)) (word_at bytes (place + 16)))

-- the zero unit of the first string of a number of groups
abbrev pub end_in_groups : List ℕ → ℕ → ℕ → Option ℕ
end_in_groups bytes place zero = None
end_in_groups bytes place (suc count) = option_or (end_in_group bytes place) (end_in_groups bytes (place + GROUP_BYTES) count)

-- the zero unit of the first name or content of a number of stores
abbrev pub end_in_stores : List ℕ → ℕ → ℕ → Option ℕ
end_in_stores bytes place zero = None
end_in_stores bytes place (suc count) =
    option_or (option_or (end_of bytes (word_at bytes (place + 4))) (end_of bytes (word_at bytes (place + 8))))
    (end_in_stores bytes (place + STORE_BYTES) count)

-- a zero unit of the file: the one after the name of the first group, or else after the first string, if any
unfoldable pub zero_unit : List ℕ → Option ℕ
zero_unit bytes = option_or (end_in_groups bytes (word_at bytes GROUPS_AT) (group_count bytes)) (end_in_stores bytes (word_at bytes STORES_AT) (store_count bytes))

-- ---- the words that are replaced

-- bytes in which the word at a place is the offset of the zero unit if the word of the file there is 0
abbrev pub pointed : List ℕ → ℕ → ℕ → List ℕ → List ℕ
pointed bytes unit place out = if nat_eq (word_at bytes place) 0 then with_word place unit out else out

-- bytes in which the contents of a number of stores are pointed to the zero unit
abbrev pub pointed_stores : List ℕ → ℕ → ℕ → ℕ → List ℕ → List ℕ
pointed_stores bytes unit place zero out = out
pointed_stores bytes unit place (suc count) out = pointed_stores bytes unit (place + STORE_BYTES) count (pointed bytes unit (place + 8) out)

-- bytes in which the output and the context of a key record are pointed to the zero unit
abbrev pub pointed_record : List ℕ → ℕ → ℕ → List ℕ → List ℕ
pointed_record bytes unit place out = pointed bytes unit (place + RULE_CONTEXT_AT) (pointed bytes unit (place + RULE_OUTPUT_AT) out)

-- bytes in which the outputs and contexts of a number of key records are pointed to the zero unit
abbrev pub pointed_records : List ℕ → ℕ → ℕ → ℕ → List ℕ → List ℕ
pointed_records bytes unit place zero out = out
pointed_records bytes unit place (suc count) out = pointed_records bytes unit (place + RULE_BYTES) count (pointed_record bytes unit place out)

-- bytes in which the outputs and contexts of all key records of a number of groups are pointed to the zero unit
abbrev pub pointed_groups : List ℕ → ℕ → ℕ → ℕ → List ℕ → List ℕ
pointed_groups bytes unit place zero out = out
pointed_groups bytes unit place (suc count) out =
    pointed_groups bytes unit (place + GROUP_BYTES) count (pointed_records bytes unit (word_at bytes (place + 4)) (word_at bytes (place + 16)) out)

-- the highest version that the engine plays: 15.0
abbrev pub played_version : ℕ → ℕ
played_version version = min version 0x0F00

-- the bytes with their checksum in its word. The checksum is that of the bytes with 0 in this word
abbrev pub summed : List ℕ → List ℕ
summed bytes = with_word CHECKSUM_AT (checksum (with_word CHECKSUM_AT 0 bytes)) (with_word CHECKSUM_AT 0 bytes)

-- bytes with the words of a file replaced: offsets 0 point to the zero unit, and the version and the checksum are written
unfoldable pub replaced : List ℕ → ℕ → List ℕ → List ℕ
replaced bytes unit out =
    summed (with_word VERSION_AT (played_version (word_at bytes VERSION_AT))
    (pointed_groups bytes unit (word_at bytes GROUPS_AT) (group_count bytes) (pointed_stores bytes unit (word_at bytes STORES_AT) (store_count bytes) out)))

-- the file with its own words replaced
abbrev pub exported : List ℕ → ℕ → List ℕ
exported bytes unit = replaced bytes unit bytes

-- ---- the bytes of the replaced words

-- whether a byte belongs to the word at a place, and to a word at a place that is an offset 0
pub record IsInWord (place at : ℕ) : Type 0 where
  pub from : place ≤ at
  pub below : at < place + 4

pub record IsInZero (bytes : List ℕ) (place at : ℕ) : Type 0 where
  pub blank : word_at bytes place ≡ 0
  pub inside : IsInWord place at

-- whether a byte belongs to an offset 0 of the content of one of a number of stores
pub record IsInContents (bytes : List ℕ) (place count at : ℕ) : Type 0 where
  pub index : ℕ
  pub less : index < count
  pub inside : IsInZero bytes (place + STORE_BYTES * index + 8) at

-- whether a byte belongs to an offset 0 of a field of one of a number of key records: field 12 is the output, field 16 the context
pub record IsInRecords (bytes : List ℕ) (field place count at : ℕ) : Type 0 where
  pub index : ℕ
  pub less : index < count
  pub inside : IsInZero bytes (place + RULE_BYTES * index + field) at

-- whether a byte belongs to an offset 0 of a field of a key record of one of a number of groups
pub record IsInGroups (bytes : List ℕ) (field place count at : ℕ) : Type 0 where
  pub index : ℕ
  pub less : index < count
  pub inside : IsInRecords bytes field (word_at bytes (place + GROUP_BYTES * index + 4)) (word_at bytes (place + GROUP_BYTES * index + 16)) at

-- whether a byte of the file belongs to one of the five kinds of words
pub data IsReplaced (bytes : List ℕ) (at : ℕ) : Type 0 where
  InChecksum : IsInWord CHECKSUM_AT at → IsReplaced bytes at
  InVersion : IsInWord VERSION_AT at → IsReplaced bytes at
  InContent : IsInContents bytes (word_at bytes STORES_AT) (store_count bytes) at → IsReplaced bytes at
  InOutput : IsInGroups bytes RULE_OUTPUT_AT (word_at bytes GROUPS_AT) (group_count bytes) at → IsReplaced bytes at
  InContext : IsInGroups bytes RULE_CONTEXT_AT (word_at bytes GROUPS_AT) (group_count bytes) at → IsReplaced bytes at

-- the number of bytes is unchanged, and each byte that is not replaced is that of the file
pub record OnlyReplaced (bytes out : List ℕ) : Type 0 where
  pub size : length out ≡ length bytes
  pub rest : (at : ℕ) → (IsReplaced bytes at → ⊥) → slice_get out at ≡ slice_get bytes at

-- ---- the properties of the file

-- tables with the version lowered to one that the engine plays
abbrev pub with_played_version : Tables → Tables
with_played_version tables = record tables { version = played_version tables.version }

-- `out` says the same as `bytes`: it is valid, has the same tables except for the version, and has no offset 0 of a content,
-- context or output
pub record SaysTheSame (bytes out : List ℕ) : Type 0 where
  pub valid : IsValid out
  pub tables : tables_of out ≡ with_played_version (tables_of bytes)
  pub contents : are_contents_pointed out (word_at out STORES_AT) (store_count out) ≡ true
  pub records : are_groups_pointed out (word_at out GROUPS_AT) (group_count out) ≡ true

-- all that the engine requires of a file
pub record IsExport (bytes out : List ℕ) : Type 0 where
  pub same : SaysTheSame bytes out
  pub version : word_at out VERSION_AT ≡ played_version (word_at bytes VERSION_AT)
  pub checksum : word_at out CHECKSUM_AT ≡ checksum (with_word CHECKSUM_AT 0 out)

-- why the words of a file aren't replaced: it has no string, or its parts overlap, so that with the words replaced it would not
-- say the same; `Memory` has no condition
abbrev pub IsWordsError : List ℕ → ExportError → Type 0
IsWordsError bytes NoZeroUnit = zero_unit bytes ≡ None
IsWordsError bytes Overlapping = (unit : ℕ) × (zero_unit bytes ≡ Some unit) × (SaysTheSame bytes (exported bytes unit) → ⊥)
IsWordsError bytes Memory = Unit {0}
IsWordsError bytes _ = ⊥

-- the result of replacing the words of a file
abbrev pub Replaces : List ℕ → Result (List ℕ) ExportError → Type 0
Replaces bytes (Ok out) = (unit : ℕ) × (zero_unit bytes ≡ Some unit) × (out ≡ exported bytes unit) × OnlyReplaced bytes out × IsExport bytes out
Replaces bytes (Err error) = IsWordsError bytes error

-- why tables crash the engine, the first of three reasons: an event may save twice, first at this line; a store without a name is
-- set and reset; an item is misread, first in the record of this line, or in no record
abbrev pub AreUnsafe : Tables → ExportError → Type 0
AreUnsafe tables (SavesTwice line) = saving_line tables ≡ Some line
AreUnsafe tables Nameless = (saving_line tables ≡ None) × (has_nameless tables ≡ true)
AreUnsafe tables (Unreadable line) = (saving_line tables ≡ None) × (has_nameless tables ≡ false) × (has_misread tables ≡ true) × (line ≡ misread_line tables)
AreUnsafe tables Memory = Unit {0}
AreUnsafe tables _ = ⊥

-- a file does not crash the engine once its words are replaced: its tables are safe, and the engine has space for them
pub record IsSafe (bytes : List ℕ) : Type 0 where
  pub tables : AreSafe (tables_of bytes)
  pub fits : is_overfull (tables_of bytes) (length bytes) ≡ false

-- why a file isn't exported: its tables crash the engine, or the engine has no space for them, or its words aren't replaced. Each
-- reason is given only if no earlier one is true
abbrev pub IsExportError : List ℕ → ExportError → Type 0
IsExportError bytes (SavesTwice line) = AreUnsafe (tables_of bytes) (SavesTwice line)
IsExportError bytes Nameless = AreUnsafe (tables_of bytes) Nameless
IsExportError bytes (Unreadable line) = AreUnsafe (tables_of bytes) (Unreadable line)
IsExportError bytes Overfull = AreSafe (tables_of bytes) × (is_overfull (tables_of bytes) (length bytes) ≡ true)
IsExportError bytes NoZeroUnit = IsSafe bytes × IsWordsError bytes NoZeroUnit
IsExportError bytes Overlapping = IsSafe bytes × IsWordsError bytes Overlapping
IsExportError bytes Memory = Unit {0}

-- the result of exporting a file without converting it
abbrev pub ExportsUnconverted : List ℕ → Result (List ℕ) ExportError → Type 0
ExportsUnconverted bytes (Ok out) = IsSafe bytes × Replaces bytes (Ok out) × IsReadable out
ExportsUnconverted bytes (Err error) = IsExportError bytes error

-- `out` is the export of a converted file, which is valid and has the converted tables
pub record IsConvertedExport (how : Conversion) (bytes converted out : List ℕ) : Type 0 where
  pub valid : IsValid converted
  pub tables : tables_of converted ≡ converted_tables how (tables_of bytes)
  pub exported : ExportsUnconverted converted (Ok out)

-- a converted file has no export
pub record HasNoExport (how : Conversion) (bytes converted : List ℕ) : Type 0 where
  pub none : (out : List ℕ) → IsConvertedExport how bytes converted out → ⊥

-- the export of a converted file, or None if there is none
abbrev pub FindsConverted : Conversion → List ℕ → List ℕ → Option (List ℕ) → Type 0
FindsConverted how bytes converted (Some out) = IsConvertedExport how bytes converted out
FindsConverted how bytes converted None = HasNoExport how bytes converted

-- the file after a conversion: the converted file if it has an export, otherwise the file itself. If the conversion changes no byte,
-- both are the same
pub data IsAfter (how : Conversion) (bytes after : List ℕ) : Type 0 where
  Converted : (out : List ℕ) → IsConvertedExport how bytes after out → after ≡ converted_bytes how bytes → IsAfter how bytes after
  Unconverted : HasNoExport how bytes (converted_bytes how bytes) → after ≡ bytes → IsAfter how bytes after
  Unchanged : converted_bytes how bytes ≡ bytes → after ≡ bytes → IsAfter how bytes after

-- a file and its export
pub record HasExport (bytes out : List ℕ) : Type 0 where
  pub valid : IsValid bytes
  pub exported : ExportsUnconverted bytes (Ok out)

-- a file that has an export without a conversion
pub record HasOwnExport (bytes : List ℕ) : Type 0 where
  pub own : List ℕ
  pub exported : ExportsUnconverted bytes (Ok own)

-- the file after the three conversions: first that of `nul`, then that of the sides of keys, then that of empty contexts
pub record IsAfterAll (bytes last : List ℕ) : Type 0 where
  pub first : List ℕ
  pub second : List ℕ
  pub nul : IsAfter conversion.NulFirst bytes first
  pub sides : IsAfter conversion.PlainSides first second
  pub empty : IsAfter conversion.EmptyAsNomatch second last

-- the export of a file after the three conversions
pub record IsConverted (bytes out : List ℕ) : Type 0 where
  pub last : List ℕ
  pub after : IsAfterAll bytes last
  pub exported : ExportsUnconverted last (Ok out)

-- the result of the exporter: the export of the file after the three conversions. If the file itself isn't exported, this is the error
abbrev pub Exports : List ℕ → Result (List ℕ) ExportError → Type 0
Exports bytes (Ok out) = HasOwnExport bytes × IsConverted bytes out
Exports bytes (Err error) = IsExportError bytes error

-- what an error of a check reports: `Overlapping` if the property does not hold; `Memory` has no condition
abbrev pub Judges : Type 0 → ExportError → Type 0
Judges holds Overlapping = holds → ⊥
Judges holds Memory = Unit {0}
Judges holds _ = ⊥
