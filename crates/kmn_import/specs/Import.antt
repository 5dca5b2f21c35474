-- What a source is imported as, or why it is refused.
use Rattle.std.specs.Prelude.{ℕ, not, ◌||◌, nat_lt, if◌then◌else◌, List, [], ◌∷◌, ◌++◌, length, take, map, flat_map, Option, Some, None, Result, Ok, Err}
use Rattle.std.specs.Str.{is_utf8}
use Rattle.kmn_base.specs.Texts.{bom_size}
use Rattle.kmn_base.specs.declared.limits.TheConstants.{TEXT_BYTES}
use Rattle.kmn_base.specs.declared.refusals.Refusal.{Refusal}
use Rattle.kmn_lines.specs.Lines.{logicals}
use Rattle.kmn_lines.specs.declared.logical.Logical.{Logical}
use Rattle.rule_model.specs.declared.program.Program.{Program}
use Rattle.rule_checker.specs.Refused.{checked}
use Rattle.import_tokens.specs.Scan.{tokens_of}
use Rattle.import_lines.specs.declared.change_kind.ChangeKind.{ChangeKind}
use Rattle.import_lines.specs.declared.change_kind.ChangeKind.TheVariants as change
use Rattle.import_outline.specs.declared.outline.Outline.{Outline}
use Rattle.import_lines.specs.declared.rewrite.WrittenLine.{WrittenLine}
use Rattle.import_outline.specs.LineKinds.{line_kind}
use Rattle.import_outline.specs.Outline.{source_outline}
use Rattle.import_lines.specs.Rewrites.{line_rewrite, group_after}
use Rattle.import_lines.specs.Written.{written_line}
use Rattle.kmn_import.specs.declared.change.Change.{Change}
use Rattle.kmn_import.specs.declared.change.Imported.{Imported}
use Rattle.kmn_import.specs.Utf16.{marked_text}

-- lines after a group, each rewritten
abbrev pub written_lines : List ℕ → Outline → List ℕ → List Logical → List WrittenLine
written_lines source outline group [] = []
written_lines source outline group (l ∷ ls) =
    let tokens = tokens_of source l in
    let here = group_after group (line_kind tokens) in
    written_line source l (line_rewrite outline here tokens) ∷ written_lines source outline here ls

-- the lines of a source, each rewritten
abbrev pub written_source : List ℕ → List WrittenLine
written_source source = written_lines source (source_outline source) [] (logicals source)

-- the changes of a line with a number
abbrev pub changes_of : ℕ → List ChangeKind → List Change
changes_of number kinds = map (λ (kind : ChangeKind). record { line = number; kind = kind }) kinds

-- the changes of lines, in order
abbrev pub line_changes : List Logical → List WrittenLine → List Change
line_changes [] lines = []
line_changes (l ∷ ls) [] = []
line_changes (l ∷ ls) (line ∷ lines) = changes_of l.first_line line.kinds ++ line_changes ls lines

-- a source with each line rewritten; a byte order mark is kept
abbrev pub rewritten_source : List ℕ → Imported
rewritten_source source =
    record {
      text = take (bom_size source) source ++ flat_map (λ (line : WrittenLine). line.bytes) (written_source source);
      changes = line_changes (logicals source) (written_source source);
    }

-- a text that was converted from other bytes: this is a change of line 1
abbrev pub with_bytes_change : Imported → Imported
with_bytes_change new = record new { changes = record { line = 1; kind = change.Bytes } ∷ new.changes }

-- an imported text if it is accepted, or its refusal
abbrev pub if_accepted : Imported → Result Program Refusal → Result Imported Refusal
if_accepted new (Ok program) = Ok new
if_accepted new (Err refusal) = Err refusal

-- a rewritten text if it is accepted, or its refusal
abbrev pub rewritten_imported : Imported → Result Imported Refusal
rewritten_imported new = if_accepted new (checked new.text)

-- a text, given whether it is accepted: then it is kept, else it is rewritten and must be accepted then
abbrev pub text_imported : List ℕ → Result Program Refusal → Result Imported Refusal
text_imported text (Ok program) = Ok (record { text = text; changes = [] })
text_imported text (Err refusal) =
    if nat_lt TEXT_BYTES (length text) || not (is_utf8 text) then Err refusal
    else rewritten_imported (rewritten_source text)

-- the change of the bytes in an imported text
abbrev pub converted : Result Imported Refusal → Result Imported Refusal
converted (Ok new) = Ok (with_bytes_change new)
converted (Err refusal) = Err refusal

-- a refused source, given its text in UTF-8 if its bytes were UTF-16
abbrev pub refused_imported : List ℕ → Refusal → Option (List ℕ) → Result Imported Refusal
refused_imported bytes refusal (Some text) = converted (text_imported text (checked text))
refused_imported bytes refusal None = text_imported bytes (Err refusal)

-- a source, given whether it is accepted
abbrev pub source_imported : List ℕ → Result Program Refusal → Result Imported Refusal
source_imported bytes (Ok program) = Ok (record { text = bytes; changes = [] })
source_imported bytes (Err refusal) = refused_imported bytes refusal (marked_text bytes)

-- what the bytes of a source are imported as, or the refusal; an accepted source is kept
unfoldable pub imported : List ℕ → Result Imported Refusal
imported bytes = source_imported bytes (checked bytes)
