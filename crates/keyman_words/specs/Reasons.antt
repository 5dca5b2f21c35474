-- The line that is printed for each reason.
use Rattle.std.specs.Prelude.{ℕ, ◌-◌, true, nat_eq, if◌then◌else◌, List, [], ◌∷◌, ◌++◌, length, replicate, codes}
use Rattle.std.specs.List.{concat}
use Rattle.std.specs.Fmt.{decimal, digits}
use Rattle.kmn_base.specs.CodeTexts.{code_text}
use Rattle.kmn_base.specs.declared.codes.Code.{Code}
use Rattle.kmn_base.specs.declared.codes.Code.TheVariants.{G1, G2}
use Rattle.kmx_verifier.specs.declared.faults.Fault.{Fault}
use Rattle.rule_model.specs.Lines.{refusal_line}
use Rattle.rule_model.specs.Transcript.{refused_event_line}
use Rattle.kmx_decompiler.specs.declared.no_spelling.NoSpelling.{NoSpelling}
use Rattle.kmx_decompiler.specs.Reasons.{reason_text}
use Rattle.touch_layout.specs.declared.faults.LayoutFault.{LayoutFault}
use Rattle.keyman_words.specs.declared.reason.Reason.{Reason}
use Rattle.keyman_words.specs.declared.reason.Reason.TheVariants as reason

-- the line of an exceeded limit: the limit, and the size that exceeds it
unfoldable pub size_line : Code → ℕ → List ℕ
size_line code size = concat (codes "refused " ∷ code_text code ∷ codes " size " ∷ decimal size ∷ codes "\n" ∷ [])

-- the code of an item that a fault names, in upper-case hexadecimal with at least two digits
abbrev pub named_code : ℕ → List ℕ
named_code unit = if nat_eq unit 0 then [] else codes " code " ++ (replicate (2 - length (digits 16 true unit)) 48 ++ digits 16 true unit)

-- the line of a file's fault: the rule that the file breaks, the byte offset, and the code that the fault names
unfoldable pub fault_line : Fault → List ℕ
fault_line fault = concat (codes "refused " ∷ code_text fault.code ∷ codes " at " ∷ decimal fault.at ∷ named_code fault.unit ∷ codes "\n" ∷ [])

-- the line of a touch layout's fault: the rule that it breaks, and the platform, layer, row and key, each 0 if none is meant
unfoldable pub place_line : LayoutFault → List ℕ
place_line fault = concat (
    codes "refused " ∷ code_text fault.code
    ∷ codes " platform " ∷ decimal fault.place.platform
    ∷ codes " layer " ∷ decimal fault.place.layer
    ∷ codes " row " ∷ decimal fault.place.row
    ∷ codes " key " ∷ decimal fault.place.key
    ∷ codes "\n" ∷ [])

-- the line of the reason why a file can't be decompiled
unfoldable pub spelling_line : NoSpelling → List ℕ
spelling_line why = concat (codes "refused " ∷ reason_text why ∷ codes "\n" ∷ [])

-- the line of a number that has no load
unfoldable pub number_line : List ℕ
number_line = concat (codes "refused " ∷ code_text G1 ∷ codes "\n" ∷ [])

-- the line of a source that has too many records to search
unfoldable pub records_line : ℕ → List ℕ
records_line count = concat (codes "refused " ∷ code_text G2 ∷ codes " rules " ∷ decimal count ∷ codes "\n" ∷ [])

-- the line of a reason
abbrev pub reason_line : Reason → List ℕ
reason_line (reason.Line refusal) = refusal_line refusal
reason_line (reason.Size code size) = size_line code size
reason_line (reason.File fault) = fault_line fault
reason_line (reason.Layout fault) = place_line fault
reason_line (reason.Text why) = spelling_line why
reason_line reason.Number = number_line
reason_line (reason.Records count) = records_line count
reason_line (reason.Event number code) = refused_event_line number code
