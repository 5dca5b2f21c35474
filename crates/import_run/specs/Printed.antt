-- What an import prints.
use Rattle.std.specs.Prelude.{ℕ, ◌+◌, nat_eq, if◌then◌else◌, List, [], ◌∷◌, ◌++◌, flat_map, codes}
use Rattle.std.specs.List.{concat}
use Rattle.std.specs.Fmt.{decimal}
use Rattle.kmn_lines.specs.Lines.{ends_line}
use Rattle.import_lines.specs.declared.change_kind.ChangeKind.{ChangeKind}
use Rattle.import_lines.specs.declared.change_kind.ChangeKind.TheVariants as change
use Rattle.kmn_import.specs.declared.change.Change.{Change}
use Rattle.kmn_import.specs.declared.change.Imported.{Imported}

-- the number of physical lines of bytes: LF, CR and CR LF end a line, and the last line may have no end
abbrev pub line_count : List ℕ → ℕ
line_count [] = 0
line_count (byte ∷ []) = 1
line_count (byte ∷ next ∷ bytes) = (if ends_line byte next then 1 else 0) + line_count (next ∷ bytes)

-- the number of lines that changes in rising order name, after a change of this line
abbrev pub changed_count : ℕ → List Change → ℕ
changed_count line [] = 0
changed_count line (found ∷ changes) = (if nat_eq found.line line then 0 else 1) + changed_count found.line changes

-- the line of an imported source, with its numbers of lines and of changed lines
unfoldable pub imported_line : ℕ → ℕ → List ℕ
imported_line lines changed = concat (codes "imported lines=" ∷ decimal lines ∷ codes " changed=" ∷ decimal changed ∷ codes "\n" ∷ [])

-- the word of a change
abbrev pub change_word : ChangeKind → List ℕ
change_word change.Bytes = codes "bytes"
change_word change.Range = codes "range"
change_word change.Key = codes "key"
change_word change.Header = codes "header"
change_word change.Version = codes "version"
change_word change.Caps = codes "caps"
change_word change.Mnemonic = codes "mnemonic"
change_word change.Begin = codes "begin"
change_word change.Layer = codes "layer"
change_word change.Readonly = codes "readonly"

-- the line of a change
unfoldable pub change_line : Change → List ℕ
change_line found = concat (codes "changed " ∷ decimal found.line ∷ codes " " ∷ change_word found.kind ∷ codes "\n" ∷ [])

-- what is printed for an imported source: its numbers, and then each change
abbrev pub imported_text : Imported → List ℕ
imported_text new = imported_line (line_count new.text) (changed_count 0 new.changes) ++ flat_map change_line new.changes
