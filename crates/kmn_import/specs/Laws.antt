-- The laws of importing a source.
use Rattle.std.specs.Prelude.{◌≡◌, ◌⊎◌, ℕ, List, [], length, Some, Ok, Err}
use Rattle.std.specs.List.{AllZip}
use Rattle.kmn_base.specs.declared.refusals.Refusal.{Refusal}
use Rattle.kmn_lines.specs.Lines.{logicals}
use Rattle.kmn_lines.specs.Laws.{line_ends}
use Rattle.kmn_lines.specs.declared.logical.Logical.{Logical}
use Rattle.rule_model.specs.declared.program.Program.{Program}
use Rattle.rule_checker.specs.Refused.{checked}
use Rattle.import_lines.specs.declared.rewrite.WrittenLine.{WrittenLine}
use Rattle.import_lines.specs.Written.{line_bytes, inner_ends, begins_lf, ends_cr, is_empty}
use Rattle.kmn_import.specs.declared.change.Imported.{Imported}
use Rattle.kmn_import.specs.Utf16.{marked_text}
use Rattle.kmn_import.specs.Import.{imported, rewritten_source, written_source}

-- an accepted source is kept byte by byte, without a change
abbrev pub AcceptedSourcesAreKept : Type 0
AcceptedSourcesAreKept = (bytes : List ℕ) (program : Program) → checked bytes ≡ Ok program → imported bytes ≡ Ok (record { text = bytes; changes = [] })

-- an imported text is accepted
abbrev pub ImportedSourcesAreAccepted : Type 0
ImportedSourcesAreAccepted = (bytes : List ℕ) (new : Imported) → imported bytes ≡ Ok new → (program : Program) × (checked new.text ≡ Ok program)

-- so an imported text is imported as it is
abbrev pub ImportedSourcesAreKept : Type 0
ImportedSourcesAreKept = (bytes : List ℕ) (new : Imported) → imported bytes ≡ Ok new → imported new.text ≡ Ok (record { text = new.text; changes = [] })

-- a refusal is the compiler's refusal of the source, of its text in UTF-8, or of a rewritten text
abbrev pub RefusalsAreTheCompilers : Type 0
RefusalsAreTheCompilers =
    (bytes : List ℕ) (refusal : Refusal) → imported bytes ≡ Err refusal
    → (text : List ℕ) × ((checked text ≡ Err refusal) × ((text ≡ bytes) ⊎ ((marked_text bytes ≡ Some text) ⊎ ((old : List ℕ) × (text ≡ (rewritten_source old).text)))))

-- bytes in which as many lines end, and which begin and end with the same ones
pub record AreAlike (new old : List ℕ) : Type 0 where
  pub inner : inner_ends new ≡ inner_ends old
  pub first : begins_lf new ≡ begins_lf old
  pub last : ends_cr new ≡ ends_cr old
  pub empty : is_empty new ≡ is_empty old

-- a line without a change has the same bytes, and each line has as many line ends as before
pub record IsKeptInPlace (source : List ℕ) (l : Logical) (line : WrittenLine) : Type 0 where
  pub unchanged : line.kinds ≡ [] → line.bytes ≡ line_bytes source l
  pub alike : AreAlike line.bytes (line_bytes source l)

-- each line is kept in its place
abbrev pub RewritingKeepsLines : Type 0
RewritingKeepsLines = (source : List ℕ) → AllZip (IsKeptInPlace source) (logicals source) (written_source source)

-- a rewritten source has as many line ends as the source
abbrev pub LinesAreAsMany : Type 0
LinesAreAsMany = (source : List ℕ) → let new = (rewritten_source source).text in line_ends (length new) new ≡ line_ends (length source) source
