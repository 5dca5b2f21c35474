-- Laws of exported files.
use Rattle.std.specs.Prelude.{◌≡◌, ◌≢◌, ℕ, ◌<◌, List, [], ◌∷◌, length, Some, Ok, IsSome}
use Rattle.rule_model.specs.declared.tables.Group.{Group}
use Rattle.std.specs.List.{All}
use Rattle.kmn_base.specs.declared.events.Event.{Event}
use Rattle.rule_model.specs.Tab.{tab}
use Rattle.rule_model.specs.Trace.{trace}
use Rattle.kmx_format.specs.FileUnits.{name_units}
use Rattle.kmx_format.specs.TablesOf.{tables_of}
use Rattle.kmx_format.specs.Writable.{IsFile}
use Rattle.rule_checker.specs.Refused.{checked}
use Rattle.kmn_compiler.specs.Source.{CompilesTo}
use Rattle.kmn_compiler.specs.declared.compiling.Compiled.{Compiled}
use Rattle.core_export.specs.Readable.{IsReadable}
use Rattle.core_export.specs.Export.{zero_unit, exported, Exports, SaysTheSame, IsExport}

-- in a file that is written from tables no parts overlap, so with its words replaced it says the same
abbrev pub WrittenFilesAreExported : Type 0
WrittenFilesAreExported = (bytes : List ℕ) (unit : ℕ) → IsFile bytes → zero_unit bytes ≡ Some unit → SaysTheSame bytes (exported bytes unit)

-- the first group has a name
abbrev pub IsFirstNamed : List Group → Type 0
IsFirstNamed [] = ⊥
IsFirstNamed (group ∷ groups) = name_units group.name ≢ []

-- a file that is written from tables whose first group has a name has a zero unit to point to
abbrev pub NamedFilesHaveZeroUnits : Type 0
NamedFilesHaveZeroUnits = (bytes : List ℕ) (file : IsFile bytes) → IsFirstNamed file.tables.groups → IsSome (zero_unit bytes)

-- each file that a source compiles to, with any picture, has a zero unit and says the same when it is exported
abbrev pub CompiledFilesAreExported : Type 0
CompiledFilesAreExported =
    (source picture : List ℕ) (compiled : Compiled) → CompilesTo (checked source) picture (Ok compiled)
    → (unit : ℕ) × (zero_unit compiled.bytes ≡ Some unit) × SaysTheSame compiled.bytes (exported compiled.bytes unit)

-- a file that says the same as another takes the same steps for all events
abbrev pub ExportingKeepsMeaning : Type 0
ExportingKeepsMeaning = (bytes out : List ℕ) → SaysTheSame bytes out → (events : List Event) → trace (tab (tables_of out)) events ≡ trace (tab (tables_of bytes)) events

-- an exported file is exported to itself, for any zero unit
abbrev pub ExportedFilesStay : Type 0
ExportedFilesStay = (bytes out : List ℕ) (unit : ℕ) → All (λ byte. byte < 256) out → IsExport bytes out → exported out unit ≡ out

-- each file that the exporter writes is one that the engine reads without a crash
abbrev pub ExportsAreSafe : Type 0
ExportsAreSafe = (bytes out : List ℕ) → Exports bytes (Ok out) → IsReadable out

-- each file that the exporter writes takes the same steps as the given file for all events, also if it is converted
abbrev pub ExportsPlayAlike : Type 0
ExportsPlayAlike = (bytes out : List ℕ) → Exports bytes (Ok out) → (events : List Event) → trace (tab (tables_of out)) events ≡ trace (tab (tables_of bytes)) events

-- each file that the exporter writes has the size of the given file
abbrev pub ExportsKeepSize : Type 0
ExportsKeepSize = (bytes out : List ℕ) → Exports bytes (Ok out) → length out ≡ length bytes
