-- The entries of a script, or its first refusal.
use Rattle.std.specs.Prelude.{ℕ, ◌+◌, not, nat_eq, nat_lt, if◌then◌else◌, List, [], ◌∷◌, ◌++◌, length, codes, Option, Some, None, Result, Ok, Err}
use Rattle.std.specs.List.{slice_split}
use Rattle.std.specs.Str.{byte, bytes_eq, is_utf8}
use Rattle.kmn_base.specs.Answers.{and_then}
use Rattle.kmn_base.specs.Texts.{without_bom}
use Rattle.kmn_base.specs.declared.codes.Code.{Code}
use Rattle.kmn_base.specs.declared.codes.Code.TheVariants.{P01, P02, P03, P04, P05, P06, P07, P08}
use Rattle.kmn_base.specs.declared.refusals.Refusal.{Refusal}
use Rattle.kmn_base.specs.declared.events.Event.TheVariants as event
use Rattle.kmn_base.specs.declared.limits.TheConstants.{TEXT_BYTES, SCRIPT_EVENTS}
use Rattle.rule_model.specs.declared.script.Entry.{Entry}
use Rattle.rule_model.specs.declared.script.Entry.TheVariants.{Act, Expect}
use Rattle.play_script.specs.declared.lines.LineKind.{LineKind}
use Rattle.play_script.specs.declared.lines.LineKind.TheVariants as kind
use Rattle.play_script.specs.Found.{Found, Reads, Breaks}
use Rattle.play_script.specs.Lines.{text_lines}
use Rattle.play_script.specs.Presses.{press_with}
use Rattle.play_script.specs.Strings.{string}
use Rattle.play_script.specs.Words.{is_closing, without_blanks, first_word, rest_after_word, words, number, name}

-- a rule that a line breaks
abbrev pub breaks : ℕ → Code → List Found
breaks line code = Breaks (record { line = line; code = code }) ∷ []

-- what `next` finds for a value that was read, or a broken rule if there is no value
abbrev pub unless_broken : {A : Type 0} → ℕ → Code → (A → List Found) → Option A → List Found
unless_broken line code next None = breaks line code
unless_broken line code next (Some x) = next x

-- what `next` finds for the number with which a text begins and for the rest; P05 if there is no number
abbrev pub with_number : ℕ → (ℕ → List ℕ → List Found) → List ℕ → List Found
with_number line next text = unless_broken line P05 (λ n. next n (rest_after_word text)) (number (first_word text))

-- the entry for the string that a text denotes; P04 if the text is not a string
abbrev pub with_string : ℕ → (List ℕ → Entry) → List ℕ → List Found
with_string line entry text = unless_broken line P04 (λ value. Reads (entry value) ∷ []) (string text)

-- P08 if any text follows a complete line
abbrev pub nothing_more : ℕ → List ℕ → List Found
nothing_more line [] = []
nothing_more line (c ∷ text) = breaks line P08

-- what is found after `caret`: a number
abbrev pub caret_found : ℕ → List ℕ → List Found
caret_found line = with_number line (λ place rest. Reads (Act line (event.Caret place)) ∷ nothing_more line rest)

-- what is found after `edit`: two numbers and a string
abbrev pub edit_found : ℕ → List ℕ → List Found
edit_found line =
    with_number line (λ from. with_number line (λ to. with_string line (λ text. Act line (event.Edit from to text))))

-- what is found after `option`: a name and a string
abbrev pub option_found : ℕ → List ℕ → List Found
option_found line text =
    unless_broken line P04 (λ option. with_string line (λ value. Act line (event.Setting option value)) (rest_after_word text)) (name (first_word text))

-- what is found after `expect`: a string
abbrev pub expect_found : ℕ → List ℕ → List Found
expect_found line = with_string line (λ text. Expect line text)

-- what is found after the last bracket: P03 for a bracket that isn't closed, P08 for any other text
abbrev pub last_found : ℕ → List ℕ → List Found
last_found line [] = []
last_found line (c ∷ text) = breaks line (if nat_eq c (byte "[") then P03 else P08)

-- the key press of a bracket without its ], then `more`; P03 if it is not a key press, P08 if no bracket begins
abbrev pub bracket_found : List (List ℕ) → ℕ → List Found → List ℕ → List Found
bracket_found dictionary line more [] = breaks line P08
bracket_found dictionary line more (c ∷ inside) =
    if nat_eq c (byte "[") then unless_broken line P03 (λ press. Reads (Act line (event.Key press)) ∷ more) (press_with dictionary 0 (words inside))
    else breaks line P08

-- what is found in the pieces of a line that is split at each ]; blanks may precede each piece
abbrev pub brackets_found : List (List ℕ) → ℕ → List (List ℕ) → List Found
brackets_found dictionary line [] = []
brackets_found dictionary line (rest ∷ []) = last_found line (without_blanks rest)
brackets_found dictionary line (piece ∷ next ∷ more) =
    bracket_found dictionary line (brackets_found dictionary line (next ∷ more)) (without_blanks piece)

-- the kind of a line with this first word
abbrev pub kind_of : List ℕ → Option LineKind
kind_of word =
    if bytes_eq word (codes "caret") then Some kind.Caret
    else if bytes_eq word (codes "edit") then Some kind.Edit
    else if bytes_eq word (codes "option") then Some kind.Setting
    else if bytes_eq word (codes "expect") then Some kind.Expect
    else None

-- what is found in the rest of a line, by the kind of the line
abbrev pub kind_found : ℕ → Option LineKind → List ℕ → List Found
kind_found line None rest = breaks line P02
kind_found line (Some kind.Caret) rest = caret_found line rest
kind_found line (Some kind.Edit) rest = edit_found line rest
kind_found line (Some kind.Setting) rest = option_found line rest
kind_found line (Some kind.Expect) rest = expect_found line rest

-- what is found in a line without leading blanks: nothing if it is empty or begins with #
abbrev pub text_found : List (List ℕ) → ℕ → List ℕ → List Found
text_found dictionary line [] = []
text_found dictionary line (c ∷ text) =
    if nat_eq c (byte "#") then []
    else if nat_eq c (byte "[") then brackets_found dictionary line (slice_split is_closing (c ∷ text))
    else kind_found line (kind_of (first_word (c ∷ text))) (rest_after_word (c ∷ text))

-- what is found in a line
abbrev pub line_found : List (List ℕ) → ℕ → List ℕ → List Found
line_found dictionary line text = text_found dictionary line (without_blanks text)

-- what is found in lines that are numbered from `line` on
abbrev pub lines_found : List (List ℕ) → ℕ → List (List ℕ) → List Found
lines_found dictionary line [] = []
lines_found dictionary line (text ∷ lines) = line_found dictionary line text ++ lines_found dictionary (line + 1) lines

-- the entries that were read so far, and how many events were read, including the events before these entries
pub record Script : Type 0 where
  pub entries : List Entry
  pub events : ℕ

-- the state before the first line
abbrev pub first_script : Script
first_script = record { entries = []; events = 0 }

-- the state after one more entry is read; P07 for an event past the limit
abbrev pub with_entry : Script → Entry → Result Script Refusal
with_entry s (Act line event) =
    if nat_lt s.events SCRIPT_EVENTS then Ok (record { entries = s.entries ++ Act line event ∷ []; events = s.events + 1 })
    else Err (record { line = line; code = P07 })
with_entry s (Expect line text) = Ok (record s { entries = s.entries ++ Expect line text ∷ [] })

-- the state after what is found is read in order, up to the first refusal
abbrev pub with_found : Result Script Refusal → List Found → Result Script Refusal
with_found s [] = s
with_found (Err refusal) (found ∷ more) = Err refusal
with_found (Ok s) (Reads entry ∷ more) = with_found (with_entry s entry) more
with_found (Ok s) (Breaks refusal ∷ more) = Err refusal

-- the entries that were read, or the refusal
abbrev pub entries_of : Result Script Refusal → Result (List Entry) Refusal
entries_of (Ok s) = Ok s.entries
entries_of (Err refusal) = Err refusal

-- the text of a script without a leading U+FEFF; P06 if the script is too long, P01 if it isn't UTF-8
abbrev pub script_text : List ℕ → Result (List ℕ) Refusal
script_text bytes =
    if nat_lt TEXT_BYTES (length bytes) then Err (record { line = 1; code = P06 })
    else if not (is_utf8 bytes) then Err (record { line = 1; code = P01 })
    else Ok (without_bom bytes)

-- the entries of a script for a keyboard with this dictionary of keys, or its first refusal
unfoldable pub entries : List (List ℕ) → List ℕ → Result (List Entry) Refusal
entries dictionary bytes =
    and_then (script_text bytes) (λ text. entries_of (with_found (Ok first_script) (lines_found dictionary 1 (text_lines text))))
