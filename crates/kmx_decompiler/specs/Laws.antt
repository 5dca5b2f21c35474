-- The laws of files that have a text.
use Rattle.std.specs.Prelude.{◌≡◌, ℕ, ◌<◌, ◌≤◌, true, List, [], length, None, Ok}
use Rattle.std.specs.List.{All}
use Rattle.std.specs.Str.{is_utf8}
use Rattle.kmn_base.specs.declared.events.Event.{Event}
use Rattle.kmn_base.specs.declared.limits.TheConstants.{FILE_BYTES}
use Rattle.rule_model.specs.declared.program.Program.{Program}
use Rattle.rule_model.specs.declared.tables.Store.{Store}
use Rattle.rule_model.specs.declared.tables.Group.{Group}
use Rattle.rule_model.specs.declared.tables.Tables.{Tables}
use Rattle.rule_model.specs.Tab.{tab}
use Rattle.rule_model.specs.Trace.{trace}
use Rattle.store_table.specs.First.{first_of}
use Rattle.store_table.specs.Names.{names_refusal}
use Rattle.store_table.specs.Known.{known}
use Rattle.item_checker.specs.Items.{rules_refusal, items_refusal}
use Rattle.rule_checker.specs.Refused.{checked}
use Rattle.kmn_parser.specs.Source.{parsed}
use Rattle.kmx_format.specs.File.{file_of}
use Rattle.kmx_format.specs.TablesOf.{tables_of}
use Rattle.kmx_format.specs.Writable.{IsWritable, IsFile}
use Rattle.kmx_format.specs.Playable.{IsPlayable}
use Rattle.compile_laws.specs.Compiles.{Compiles}
use Rattle.kmn_parser.specs.Programs.{program_text}
use Rattle.kmn_parser.specs.Spelled.{IsSpelled}
use Rattle.decompile_program.specs.Back.{back}
use Rattle.decompile_program.specs.WrittenOut.{CanBeWrittenOut}
use Rattle.kmx_decompiler.specs.Excess.{excess}
use Rattle.kmx_decompiler.specs.Places.{cause_places}
use Rattle.kmx_decompiler.specs.Unspelled.{disorder, unspelled}
use Rattle.kmx_decompiler.specs.Written.{WasWritten}

-- the names of tables are UTF-8
pub record HasTextNames (tables : Tables) : Type 0 where
  pub stores : All (λ (store : Store). is_utf8 store.name ≡ true) tables.stores
  pub groups : All (λ (group : Group). is_utf8 group.name ≡ true) tables.groups

-- bytes that have a text: their tables can be played, and `unspelled` has no reason against a text
pub record HasText (bytes : List ℕ) : Type 0 where
  pub small : All (λ byte. byte < 256) bytes
  pub playable : IsPlayable (tables_of bytes)
  pub spelled : unspelled bytes ≡ None

-- the names that bytes have are UTF-8, whatever the bytes are
abbrev pub NamesAreText : Type 0
NamesAreText = (bytes : List ℕ) → All (λ byte. byte < 256) bytes → HasTextNames (tables_of bytes)

-- if the tables of bytes can be played and `unspelled` has no reason against a text, they can be written out as a program that means
-- the same
abbrev pub SpelledCanBeWrittenOut : Type 0
SpelledCanBeWrittenOut = (bytes : List ℕ) → IsPlayable (tables_of bytes) → unspelled bytes ≡ None → CanBeWrittenOut (tables_of bytes)

-- if bytes have a text, a text can express that program
abbrev pub SpelledIsSpelled : Type 0
SpelledIsSpelled = (bytes : List ℕ) → HasText bytes → IsSpelled (back (tables_of bytes))

-- if bytes have a text, no name of that program is refused: each name is defined, and none is defined twice
abbrev pub SpelledNamesStand : Type 0
SpelledNamesStand = (bytes : List ℕ) → HasText bytes → names_refusal (back (tables_of bytes)) ≡ None

-- if tables can be played, no rule of the program that they are written out as is refused for an item
abbrev pub SpelledRulesStand : Type 0
SpelledRulesStand = (bytes : List ℕ) → IsPlayable (tables_of bytes) → first_of (rules_refusal (known (back (tables_of bytes)))) [] (back (tables_of bytes)).groups ≡ None

-- if bytes have a text, no item of the program's stores and rules is refused, and no store is refused as a whole
abbrev pub SpelledItemsStand : Type 0
SpelledItemsStand = (bytes : List ℕ) → HasText bytes → items_refusal (back (tables_of bytes)) ≡ None

-- if bytes have a text, a checker accepts the text of that program
abbrev pub TextIsAccepted : Type 0
TextIsAccepted = (bytes : List ℕ) → HasText bytes → checked (program_text (back (tables_of bytes))) ≡ Ok (back (tables_of bytes))

-- if bytes have a text, each compilation of the program has a file, without a picture, that is within the limits
abbrev pub TextFits : Type 0
TextFits = (bytes : List ℕ) → HasText bytes → (tables : Tables) → Compiles (back (tables_of bytes)) tables → IsFile (file_of tables [])

-- if bytes have a text, each compilation of the program takes the same steps as the bytes, for all events
abbrev pub TextKeepsMeaning : Type 0
TextKeepsMeaning =
    (bytes : List ℕ) → HasText bytes → (tables : Tables) → Compiles (back (tables_of bytes)) tables
    → (events : List Event) → trace (tab tables) events ≡ trace (tab (tables_of bytes)) events

-- the records of a file that a program compiles to are in an order that a text can keep
abbrev pub CompiledIsInOrder : Type 0
CompiledIsInOrder =
    (program : Program) (tables : Tables) (picture : List ℕ) → Compiles program tables → IsWritable tables → length (file_of tables picture) ≤ FILE_BYTES
    → disorder 0 (tables_of (file_of tables picture)).groups ≡ None

-- a program that is read from a source is a program as a source writes it
abbrev pub ReadWasWritten : Type 0
ReadWasWritten = (source : List ℕ) (program : Program) → parsed source ≡ Ok program → WasWritten program

-- each part of a file that a source compiles to has a spelling
abbrev pub CompiledHasNoCauses : Type 0
CompiledHasNoCauses =
    (source : List ℕ) (program : Program) (tables : Tables) (picture : List ℕ) → checked source ≡ Ok program → Compiles program tables
    → length (file_of tables picture) ≤ FILE_BYTES → cause_places (file_of tables picture) ≡ []

-- a file that a source compiles to has a text, unless the text or what it compiles to is too large
abbrev pub CompiledLacksNoText : Type 0
CompiledLacksNoText =
    (source : List ℕ) (program : Program) (tables : Tables) (picture : List ℕ) → checked source ≡ Ok program → Compiles program tables
    → length (file_of tables picture) ≤ FILE_BYTES → unspelled (file_of tables picture) ≡ excess (back (tables_of (file_of tables picture)))
