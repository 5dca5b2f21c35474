-- An exported file of which nothing is reported types the same texts in Keyman's own engine as the given file does in this product.
use Rattle.std.specs.Prelude.{◌≡◌, ℕ, ◌<◌, Bool, List, Ok}
use Rattle.std.specs.List.{All}
use Rattle.kmn_base.specs.declared.keys.KeyPress.{KeyPress}
use Rattle.rule_model.specs.Tab.{tab}
use Rattle.kmx_format.specs.declared.places.TheConstants.{FLAGS_AT}
use Rattle.kmx_format.specs.TablesOf.{word_at, tables_of}
use Rattle.core_meaning.specs.Events.{CoreVersion}
use Rattle.core_meaning.specs.Laws.{IsCommonPress}
use Rattle.core_meaning.specs.Steps.{core_texts}
use Rattle.core_export.specs.Export.{Exports}
use Rattle.core_laws.specs.Laws.{own_texts, IsPlain, IsUntold}

-- the export of a file types in that engine what the file types here: in each version, for each first value of the flag that output has ended,
-- from each first text on, for presses that don't hold both sides of control or of alt and aren't keys of the keypad
abbrev pub ExportTypesAlike : (bytes out : List ℕ) → Type 0
ExportTypesAlike bytes out =
    (version : CoreVersion) (ended : Bool) (text : List ℕ) (presses : List KeyPress) → All IsCommonPress presses
    → core_texts version (tables_of out) ended text presses ≡ own_texts (tab (tables_of bytes)) text presses

-- this is so if nothing is reported of the export, and it has nothing that differs and is not reported
abbrev pub UntoldExportsTypeAlike : Type 0
UntoldExportsTypeAlike =
    (bytes out : List ℕ) → All (λ byte. byte < 256) out → Exports bytes (Ok out) → IsUntold (word_at out FLAGS_AT) (tables_of out) → IsPlain (tables_of out) → ExportTypesAlike bytes out
