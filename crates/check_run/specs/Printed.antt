-- What a check of a source prints, also of the touch layout and the script that are checked with it.
use Rattle.std.specs.Prelude.{◌≡◌, ℕ, ◌+◌, nat_eq, Bool, not, if◌then◌else◌, List, [], ◌∷◌, ◌++◌, length, flat_map, count_by, codes, Option, Some, None}
use Rattle.std.specs.List.{concat}
use Rattle.std.specs.Fmt.{decimal}
use Rattle.kmn_base.specs.CodeTexts.{code_text}
use Rattle.kmn_base.specs.declared.refusals.Refusal.{Refusal}
use Rattle.rule_model.specs.Lines.{refusal_line}
use Rattle.refusal_places.specs.declared.placed_refusal.Placed.{Placed}
use Rattle.refusal_details.specs.Explained.{unexplained}
use Rattle.refusal_details.specs.declared.detail.Explained.{Explained}
use Rattle.name_warnings.specs.declared.warning.Warning.{Warning}
use Rattle.name_warnings.specs.declared.warning.WarningKind.{WarningKind}
use Rattle.touch_layout.specs.declared.faults.LayoutFault.{LayoutFault}
use Rattle.keyman_words.specs.Reasons.{reason_line}
use Rattle.keyman_words.specs.Seen.{SinkView}
use Rattle.keyman_words.specs.Tells.{Tells}
use Rattle.keyman_words.specs.declared.reason.Reason.{Reason}
use Rattle.keyman_words.specs.declared.reason.Reason.TheVariants as reason
use Rattle.keyman_words.specs.declared.status.Status.{Status}
use Rattle.keyman_words.specs.declared.status.Status.TheVariants as status
use Rattle.keyman_run.specs.Endings.{Ending}
use Rattle.keyman_run.specs.declared.preparing.Stop.{Stop}
use Rattle.keyman_run.specs.declared.preparing.Stop.TheVariants as stop
use Rattle.check_texts.specs.Advice.{detail_advice}
use Rattle.check_texts.specs.Details.{detail_text, shown_text}
use Rattle.check_texts.specs.Meanings.{meaning}
use Rattle.check_texts.specs.WarningTexts.{is_note, warning_code, warning_text}
use Rattle.check_run.specs.declared.findings.Findings.{Findings}
use Rattle.check_run.specs.declared.findings.Findings.TheVariants as findings
use Rattle.check_run.specs.declared.findings.InputFindings.{InputFindings}
use Rattle.check_run.specs.declared.findings.LayoutFindings.{LayoutFindings}
use Rattle.check_run.specs.declared.findings.LayoutFindings.TheVariants as layouts
use Rattle.check_run.specs.declared.findings.ScriptFindings.{ScriptFindings}
use Rattle.check_run.specs.declared.findings.ScriptFindings.TheVariants as script
use Rattle.check_run.specs.declared.findings.UnknownOption.{UnknownOption}
use Rattle.check_run.specs.Inputs.{is_sound}

-- the text of a place: the line and the column, between the given name of the file and the code
unfoldable pub place_text : Placed → List ℕ
place_text placed = concat (codes ":" ∷ decimal placed.line ∷ codes ":" ∷ decimal placed.column ∷ codes ": error " ∷ [])

-- the line of a refusal, in the form that editors read: the given name of the file, the place, the code with its meaning, and the detail with
-- its advice
unfoldable pub error_line : List ℕ → Explained → List ℕ
error_line file error = concat (
    file ∷ place_text error.placed ∷ code_text error.placed.code ∷ codes ": " ∷ meaning error.placed.code ∷ detail_text error.detail
    ∷ detail_advice error.placed.code error.detail ∷ codes "\n" ∷ [])

-- the line for refusals that are not printed
abbrev pub rest_line : ℕ → List ℕ
rest_line count = if nat_eq count 0 then [] else concat (codes "and " ∷ decimal count ∷ codes " more\n" ∷ [])

-- the text of refusals and of the number of those that are not printed: its last line is the one of the refusal that compilation reports
abbrev pub refused_text : List ℕ → Refusal → List Explained → ℕ → List ℕ
refused_text file first errors more = flat_map (error_line file) errors ++ (rest_line more ++ refusal_line first)

-- whether a warning is a note, and whether it is not
abbrev pub is_noted : Warning → Bool
is_noted warning = is_note warning.kind

abbrev pub is_warned : Warning → Bool
is_warned warning = not (is_note warning.kind)

-- the word before the code of a warning or a note
abbrev pub severity : WarningKind → List ℕ
severity kind = if is_note kind then codes "note " else codes "warning "

-- the line of a warning, in the form that editors read, without a column
unfoldable pub warning_line : List ℕ → Warning → List ℕ
warning_line file warning = concat (
    file ∷ codes ":" ∷ decimal warning.line ∷ codes ": " ∷ severity warning.kind ∷ warning_code warning.kind ∷ codes ": "
    ∷ warning_text warning.kind ∷ codes "\n" ∷ [])

-- the last line of a source that is not refused: the number of warnings, and the number of notes
abbrev pub counts_line : ℕ → ℕ → List ℕ
counts_line warnings notes = concat (codes "checked warnings=" ∷ decimal warnings ∷ codes " notes=" ∷ decimal notes ∷ codes "\n" ∷ [])

-- the line of a touch layout's fault: an error at the start of the file, with the place of the fault, since a place in a layout has no line
unfoldable pub layout_line : List ℕ → LayoutFault → List ℕ
layout_line file fault = concat (
    file ∷ codes ":1:1: error " ∷ code_text fault.code ∷ codes ": " ∷ meaning fault.code
    ∷ codes ": platform " ∷ decimal fault.place.platform
    ∷ codes " layer " ∷ decimal fault.place.layer
    ∷ codes " row " ∷ decimal fault.place.row
    ∷ codes " key " ∷ decimal fault.place.key
    ∷ codes "\n" ∷ [])

-- the line of a reason in the form that editors read: a limit that the picture or the file exceeds is an error of line 1. Its place is the
-- start of its line, and it has no detail. A check refuses no input for another reason
abbrev pub reason_error : List ℕ → Reason → List ℕ
reason_error file (reason.Line found) = error_line file (unexplained found)
reason_error file (reason.Size code size) = error_line file (unexplained (record { line = 1; code = code }))
reason_error file (reason.Layout fault) = layout_line file fault
reason_error file other = []

-- the lines of a touch layout: the line of the reason why it is refused, or the lines of the source's rules whose keys it lacks
abbrev pub layout_lines : (source layout : List ℕ) → LayoutFindings → List ℕ
layout_lines source layout (layouts.Refused why) = reason_error layout why
layout_lines source layout (layouts.Accepted warnings) = flat_map (warning_line source) warnings

-- what is printed of W19 before the name of the option
unfoldable pub no_option : List ℕ
no_option = codes ": warning W19: the keyboard has no option '"

-- W19: the line of an option that a script sets and that the keyboard doesn't have, in the form of the line of a warning
unfoldable pub unknown_line : List ℕ → UnknownOption → List ℕ
unknown_line file unknown = concat (file ∷ codes ":" ∷ decimal unknown.line ∷ no_option ∷ shown_text unknown.name ∷ codes "'\n" ∷ [])

-- the lines of a script: the line of the reason why it is refused, or those of its unknown options
abbrev pub script_lines : List ℕ → ScriptFindings → List ℕ
script_lines file (script.Refused why) = reason_error file why
script_lines file (script.Accepted unknown) = flat_map (unknown_line file) unknown

-- the last line if no layout is refused: the line that a command prints for a refused script, or the numbers of warnings and of notes,
-- where the warnings of a layout and the unknown options are more warnings
abbrev pub script_end : List Warning → List Warning → ScriptFindings → List ℕ
script_end warnings more (script.Refused why) = reason_line why
script_end warnings more (script.Accepted unknown) =
    counts_line (count_by is_warned warnings + (length more + length unknown)) (count_by is_noted warnings)

-- the last line: a command prints it for the first input that is refused
abbrev pub last_line : List Warning → LayoutFindings → ScriptFindings → List ℕ
last_line warnings (layouts.Refused why) found = reason_line why
last_line warnings (layouts.Accepted more) found = script_end warnings more found

-- the text of a source that is not refused: the lines of its warnings, those of the layout and of the script, and the last line
abbrev pub accepted_text : (source layout keys : List ℕ) → List Warning → InputFindings → List ℕ
accepted_text source layout keys warnings inputs =
    flat_map (warning_line source) warnings
    ++ (layout_lines source layout inputs.layout ++ (script_lines keys inputs.script ++ last_line warnings inputs.layout inputs.script))

-- the status of a check of a source that is not refused: warnings refuse no input
unfoldable pub input_status : InputFindings → Status
input_status inputs = if is_sound inputs then status.Done else status.Refused

-- the status of a check
abbrev pub check_status : Findings → Status
check_status (findings.Refused first errors more) = status.Refused
check_status (findings.Accepted warnings inputs) = input_status inputs

-- the name of an input, which is printed only if there is one
abbrev pub name_of : Option (List ℕ) → List ℕ
name_of None = []
name_of (Some name) = name

-- the text of a check
abbrev pub check_text : (source : List ℕ) → (layout keys : Option (List ℕ)) → Findings → List ℕ
check_text source layout keys (findings.Refused first errors more) = refused_text source first errors more
check_text source layout keys (findings.Accepted warnings inputs) = accepted_text source (name_of layout) (name_of keys) warnings inputs

-- how a check ends with what it finds
abbrev pub check_ending : (source : List ℕ) → (layout keys : Option (List ℕ)) → Findings → Ending
check_ending source layout keys found = record { status = check_status found; file = None; printed = check_text source layout keys found }

-- the text of a reason for which a check stops: its last line is the line that compilation prints
abbrev pub stopped_text : List ℕ → Reason → List ℕ
stopped_text file why = reason_error file why ++ reason_line why

-- how a check ends that stops for a reason
abbrev pub stopped_ending : List ℕ → Reason → Ending
stopped_ending file why = record { status = status.Refused; file = None; printed = stopped_text file why }

-- a check that stops prints the text of a reason, or no output
abbrev pub PrintsStopped : {S : Type 0} → List ℕ → Stop → SinkView S → S → S → Status → Type 0
PrintsStopped file (stop.Refused why) sinks out out_after how = Tells status.Refused (stopped_text file why) sinks out out_after how
PrintsStopped file stop.ReadFault sinks out out_after how = (how ≡ status.ReadFault) × (out_after ≡ out)
PrintsStopped file stop.Memory sinks out out_after how = (how ≡ status.Memory) × (out_after ≡ out)
