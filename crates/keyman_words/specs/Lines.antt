-- The lines that are printed when work is done.
use Rattle.std.specs.Prelude.{ℕ, List, [], ◌∷◌, length, codes}
use Rattle.std.specs.List.{concat}
use Rattle.std.specs.Fmt.{decimal}
use Rattle.kmx_format.specs.File.{all_rules}
use Rattle.rule_model.specs.Lines.{hexadecimal}
use Rattle.rule_model.specs.declared.tables.Tables.{Tables}
use Rattle.kmn_compiler.specs.declared.compiling.Compiled.{Compiled}

-- the line of a compiled keyboard: its counts and its size
unfoldable pub compiled_line : Compiled → List ℕ
compiled_line compiled = concat (
    codes "compiled stores=" ∷ decimal (length compiled.tables.stores)
    ∷ codes " groups=" ∷ decimal (length compiled.tables.groups)
    ∷ codes " rules=" ∷ decimal (length (all_rules compiled.tables))
    ∷ codes " bytes=" ∷ decimal (length compiled.bytes)
    ∷ codes "\n" ∷ [])

-- the line of a valid file: its version and its counts
unfoldable pub valid_line : Tables → List ℕ
valid_line tables = concat (
    codes "valid version=" ∷ hexadecimal tables.version
    ∷ codes " stores=" ∷ decimal (length tables.stores)
    ∷ codes " groups=" ∷ decimal (length tables.groups)
    ∷ codes " rules=" ∷ decimal (length (all_rules tables))
    ∷ codes "\n" ∷ [])

-- the line of a decompiled text: its size
unfoldable pub decompiled_line : List ℕ → List ℕ
decompiled_line source = concat (codes "decompiled bytes=" ∷ decimal (length source) ∷ codes "\n" ∷ [])

-- the line of a layout that keeps all rules: the number of its keys
unfoldable pub sound_line : ℕ → List ℕ
sound_line count = concat (codes "layout sound keys=" ∷ decimal count ∷ codes "\n" ∷ [])
