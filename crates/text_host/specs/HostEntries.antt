-- The entries of a script for several fields, or its first refusal: each line is checked for the P codes, then for H1 and H2.
use Rattle.std.specs.Prelude.{ℕ, ◌+◌, nat_eq, nat_le, nat_lt, ◌&&◌, if◌then◌else◌, List, [], ◌∷◌, ◌++◌, map, take, drop, codes, position, Option, Some, None, option_map, Result, Ok, Err}
use Rattle.std.specs.Str.{byte, bytes_eq}
use Rattle.kmn_base.specs.Answers.{and_then}
use Rattle.kmn_base.specs.declared.codes.Code.{Code}
use Rattle.kmn_base.specs.declared.codes.Code.TheVariants.{P03, P05, P07, P08, H1, H2}
use Rattle.kmn_base.specs.declared.limits.TheConstants.{SCRIPT_EVENTS, FIELDS}
use Rattle.kmn_base.specs.declared.refusals.Refusal.{Refusal}
use Rattle.rule_model.specs.declared.script.Entry.{Entry}
use Rattle.rule_model.specs.declared.script.Entry.TheVariants as one_field
use Rattle.play_script.specs.Entries.{script_text, with_found, line_found}
use Rattle.play_script.specs.Lines.{text_lines}
use Rattle.play_script.specs.Presses.{press_with}
use Rattle.play_script.specs.Words.{is_closing, without_blanks, first_word, rest_after_word, words, number}
use Rattle.text_host.specs.declared.entries.HostEntry.{HostEntry}
use Rattle.text_host.specs.declared.entries.HostEntry.TheVariants.{Open, Field, Preview, Act, Expect}
use Rattle.text_host.specs.declared.lines.HostLineKind.{HostLineKind}
use Rattle.text_host.specs.declared.lines.HostLineKind.TheVariants as kind
use Rattle.text_host.specs.declared.lines.LinePart.{LinePart}
use Rattle.text_host.specs.declared.script.HostScript.{HostScript}

-- the refusal of a line with the code of the rule that it breaks
abbrev pub breaks : {A : Type 0} → ℕ → Code → Result A Refusal
breaks line code = Err (record { line = line; code = code })

-- the value of a word or text, or the refusal of its line with a code if it has no value
abbrev pub needed : {A : Type 0} → ℕ → Code → Option A → Result A Refusal
needed line code None = breaks line code
needed line code (Some x) = Ok x

-- a line with one entry, after which no text is allowed
abbrev pub complete : ℕ → HostEntry → ℕ → List ℕ → Result LinePart Refusal
complete line entry events [] = Ok (record { entries = entry ∷ []; events = events })
complete line entry events (c ∷ rest) = breaks line P08

-- the rest of a line after `field`: a number
abbrev pub field_part : ℕ → ℕ → List ℕ → Result LinePart Refusal
field_part line events text =
    and_then (needed line P05 (number (first_word text))) (λ field. complete line (Field line field) events (rest_after_word text))

-- the bracket with which a text begins: its content up to the first ], and the text after that ]
abbrev pub bracket : List ℕ → Option (List ℕ × List ℕ)
bracket [] = None
bracket (c ∷ text) = if nat_eq c (byte "[") then option_map (λ at. (take at text, drop (at + 1) text)) (position is_closing text) else None

-- the number of events and previews after one more, unless it exceeds the limit
abbrev pub counted : ℕ → ℕ → Result ℕ Refusal
counted line events = if nat_lt events SCRIPT_EVENTS then Ok (events + 1) else breaks line P07

-- the rest of a line after `preview`: one bracket
abbrev pub preview_part : List (List ℕ) → ℕ → ℕ → List ℕ → Result LinePart Refusal
preview_part dictionary line events text =
    and_then (needed line P03 (bracket text)) (λ parts.
    and_then (needed line P03 (press_with dictionary 0 (words parts.0))) (λ press.
    and_then (counted line events) (λ count. complete line (Preview line press) count (without_blanks parts.1))))

-- an entry of a script for one field as an entry for the current field
abbrev pub on_field : Entry → HostEntry
on_field (one_field.Act line event) = Act line event
on_field (one_field.Expect line text) = Expect line text

-- a line of any other kind: it has the entries that it has in a script for one field
abbrev pub other_part : List (List ℕ) → ℕ → ℕ → List ℕ → Result LinePart Refusal
other_part dictionary line events text =
    and_then (with_found (Ok (record { entries = []; events = events })) (line_found dictionary line text))
    (λ script. Ok (record { entries = map on_field script.entries; events = script.events }))

-- the kind of a line by its first word; None: the line is read as in a script for one field
abbrev pub kind_of : List ℕ → Option HostLineKind
kind_of word =
    if bytes_eq word (codes "open") then Some kind.Open
    else if bytes_eq word (codes "field") then Some kind.Field
    else if bytes_eq word (codes "preview") then Some kind.Preview
    else None

-- a line without leading blanks, after a number of events and previews: its content, or the first P code that it breaks
abbrev pub kind_part : List (List ℕ) → ℕ → ℕ → Option HostLineKind → List ℕ → Result LinePart Refusal
kind_part dictionary line events None text = other_part dictionary line events text
kind_part dictionary line events (Some kind.Open) text = complete line (Open line) events (rest_after_word text)
kind_part dictionary line events (Some kind.Field) text = field_part line events (rest_after_word text)
kind_part dictionary line events (Some kind.Preview) text = preview_part dictionary line events (rest_after_word text)

-- a line with or without leading blanks: its content, or the first P code that it breaks
abbrev pub line_part : List (List ℕ) → ℕ → ℕ → List ℕ → Result LinePart Refusal
line_part dictionary line events text =
    let tight : List ℕ = without_blanks text in kind_part dictionary line events (kind_of (first_word tight)) tight

-- the number of open fields, if the field with this number is open
abbrev pub if_open : ℕ → ℕ → ℕ → Result ℕ Refusal
if_open line field fields = if nat_le 1 field && nat_le field fields then Ok fields else breaks line H1

-- the number of open fields after one more is opened, unless a script can open no more
abbrev pub one_more : ℕ → ℕ → Result ℕ Refusal
one_more line fields = if nat_lt fields FIELDS then Ok (fields + 1) else breaks line H2

-- the number of open fields after a line with these entries, or H1 or H2: all entries of a line are of the same kind, so the first
-- entry decides; if any field is open, field 1 is open
abbrev pub fields_after : ℕ → List HostEntry → Result ℕ Refusal
fields_after fields [] = Ok fields
fields_after fields (Open line ∷ more) = one_more line fields
fields_after fields (Field line field ∷ more) = if_open line field fields
fields_after fields (Preview line press ∷ more) = if_open line 1 fields
fields_after fields (Act line event ∷ more) = if_open line 1 fields
fields_after fields (Expect line text ∷ more) = if_open line 1 fields

-- the script before its first line: no entries, no events and no open fields
abbrev pub first_script : HostScript
first_script = record { entries = []; events = 0; fields = 0 }

-- a script with the content of a line appended, if the open fields allow the line
abbrev pub with_part : HostScript → LinePart → Result HostScript Refusal
with_part s part =
    and_then (fields_after s.fields part.entries) (λ fields. Ok (record { entries = s.entries ++ part.entries; events = part.events; fields = fields }))

-- a script after the next line is read
abbrev pub with_line : List (List ℕ) → ℕ → List ℕ → HostScript → Result HostScript Refusal
with_line dictionary line text s = and_then (line_part dictionary line s.events text) (with_part s)

-- a script after more lines are read, the first of which has this number
abbrev pub with_lines : List (List ℕ) → ℕ → List (List ℕ) → HostScript → Result HostScript Refusal
with_lines dictionary line [] s = Ok s
with_lines dictionary line (text ∷ lines) s = and_then (with_line dictionary line text s) (with_lines dictionary (line + 1) lines)

-- the entries of a script for several fields over a keyboard with this key dictionary, or its first refusal
unfoldable pub host_entries : List (List ℕ) → List ℕ → Result (List HostEntry) Refusal
host_entries dictionary bytes =
    and_then (script_text bytes) (λ text. and_then (with_lines dictionary 1 (text_lines text) first_script) (λ s. Ok s.entries))
