-- Reading the brackets of a line one by one, and the lines of a text one by one.
use Rattle.std.proofs.Common.{◌≡◌, ℕ, ◌+◌, ◌-◌, ◌<◌, Bool, true, false, if◌then◌else◌, nat_eq, List, [], ◌∷◌, ◌++◌, length, length-drop, get_or, take, drop, Option, Some, None, Result, Ok, Err, refl, sym, ◌∙◌, ap, arith}
use Rattle.std.proofs.lemmas.Grind.{common_steps}
use Rattle.std.proofs.lemmas.List.{take-append-drop, take_all, drop_more}
use Rattle.std.proofs.lemmas.List.Quantifiers.{position-Some}
use Rattle.std.proofs.lemmas.List.Sums.{fails_before_first}
use Rattle.std.proofs.lemmas.List.Splits.{slice_split_at, slice_split_none, length-slice_split}
use Rattle.std.specs.List.{All, position, position_or_len, slice_split}
use Rattle.std.specs.Str.{byte}
use Rattle.kmn_base.specs.declared.codes.Code.TheVariants.{P03, P08}
use Rattle.kmn_base.specs.declared.events.Event.TheVariants as event
use Rattle.kmn_base.specs.declared.keys.KeyPress.{KeyPress}
use Rattle.kmn_base.specs.declared.refusals.Refusal.{Refusal}
use Rattle.virtual_keys.proofs.PositionLemmas.{not_below}
use Rattle.rule_model.specs.declared.script.Entry.TheVariants.{Act}
use Rattle.play_script.specs.Found.{Found, Reads, Breaks}
use Rattle.play_script.specs.Lines.{text_lines}
use Rattle.play_script.specs.Presses.{press_with}
use Rattle.play_script.specs.Words.{is_closing, begins_bracket, without_blanks, words}
use Rattle.play_script.specs.Entries.{Script, with_entry, with_found, breaks, unless_broken, bracket_found, brackets_found, line_found, lines_found, entries_of}
use Rattle.play_script.specs.declared.errors.ScriptError.{ScriptError}
use Rattle.play_script.specs.declared.errors.ScriptError.TheVariants as error
use Rattle.play_script.specs.Answers.{Leaves, Answers}

-- if the first `]` is at a position, the first piece ends there, and the other pieces are those of the bytes after it
pub pieces_parted : (text : List ℕ) (at : ℕ) → position is_closing text ≡ Some at → slice_split is_closing text ≡ take at text ∷ slice_split is_closing (take (length text - (at + 1)) (drop (at + 1) text))
pieces_parted text at is =
    let found = position-Some is_closing text at 0 is in
    let parts : text ≡ take at text ++ (get_or text at 0 ∷ drop (at + 1) text) = sym (take-append-drop at text) ∙ ap (λ l. take at text ++ l) (drop_more text at 0 found.0) in
    let front : All (λ b. is_closing b ≡ false) (take at text) = λ k d l. let h = found.2 k in grind (arith, common_steps) in
    let behind : take (length text - (at + 1)) (drop (at + 1) text) ≡ drop (at + 1) text = take_all _ (drop (at + 1) text) (omega (arith, length-drop (at + 1) text)) in
    ap (slice_split is_closing) parts ∙ slice_split_at is_closing (take at text) (get_or text at 0) (drop (at + 1) text) front found.1 ∙ ap (λ l. take at text ∷ slice_split is_closing l) (sym behind)

-- if a text has no `]`, the whole text is its only piece
pub piece_alone : (text : List ℕ) → position is_closing text ≡ None → slice_split is_closing text ≡ text ∷ []
piece_alone text is =
    let far = not_below (position_or_len is_closing text) (length text) is in
    slice_split_none is_closing text (λ k d l. fails_before_first is_closing text k d (omega arith))

pub ruleset piece_steps = (pieces_parted, piece_alone)

-- if a text does not begin with a bracket, it breaks P08
not_opened : (b : Bool) (line : ℕ) (more : List Found) (press : Option KeyPress) → b ≡ false
    → (if b then unless_broken line P03 (λ press. Reads (Act line (event.Key press)) ∷ more) press else breaks line P08) ≡ breaks line P08
not_opened true line more press is = absurd (cc)
not_opened false line more press is = refl

pub bracket_not_opened : (dictionary : List (List ℕ)) (line : ℕ) (more : List Found) (text : List ℕ) → begins_bracket text ≡ false → bracket_found dictionary line more text ≡ breaks line P08
bracket_not_opened dictionary line more [] is = refl
bracket_not_opened dictionary line more (c ∷ inside) is = not_opened (nat_eq c (byte "[")) line more (press_with dictionary 0 (words inside)) is

pub bracket_opened : (dictionary : List (List ℕ)) (line : ℕ) (more : List Found) (text inside : List ℕ) → text ≡ 91 ∷ inside
    → bracket_found dictionary line more text ≡ unless_broken line P03 (λ press. Reads (Act line (event.Key press)) ∷ more) (press_with dictionary 0 (words inside))
bracket_opened dictionary line more text inside is = ap (bracket_found dictionary line more) is

pub ruleset bracket_steps = (bracket_not_opened, bracket_opened)

-- after a refusal, whatever else is found, the result is the same refusal
pub absorbed : (refusal : Refusal) (more : List Found) → with_found (Err refusal) more ≡ Err refusal
absorbed refusal [] = refl
absorbed refusal (found ∷ more) = refl

-- reading two lists one after the other has the same result as reading their concatenation
pub found_in_parts : (s : Result Script Refusal) (first more : List Found) → with_found s (first ++ more) ≡ with_found (with_found s first) more
found_in_parts s [] more = refl
found_in_parts (Err refusal) (found ∷ first) more = sym (absorbed refusal more)
found_in_parts (Ok s) (Reads entry ∷ first) more = found_in_parts (with_entry s entry) first more
found_in_parts (Ok s) (Breaks refusal ∷ first) more = sym (absorbed refusal more)

press_then : (b : Bool) (press : Option KeyPress) (line : ℕ) (more : List Found) (s : Script) →
    let found = λ (rest : List Found). if b then unless_broken line P03 (λ press. Reads (Act line (event.Key press)) ∷ rest) press else breaks line P08 in
    with_found (Ok s) (found more) ≡ with_found (with_found (Ok s) (found [])) more
press_then true (Some press) line more s = refl
press_then true None line more s = sym (absorbed (record { line = line; code = P03 }) more)
press_then false press line more s = sym (absorbed (record { line = line; code = P08 }) more)

bracket_then : (dictionary : List (List ℕ)) (line : ℕ) (more : List Found) (text : List ℕ) (s : Script)
    → with_found (Ok s) (bracket_found dictionary line more text) ≡ with_found (with_found (Ok s) (bracket_found dictionary line [] text)) more
bracket_then dictionary line more [] s = sym (absorbed (record { line = line; code = P08 }) more)
bracket_then dictionary line more (c ∷ inside) s = press_then (nat_eq c (byte "[")) (press_with dictionary 0 (words inside)) line more s

piece_before : (dictionary : List (List ℕ)) (line : ℕ) (piece : List ℕ) (pieces : List (List ℕ)) → 0 < length pieces
    → brackets_found dictionary line (piece ∷ pieces) ≡ bracket_found dictionary line (brackets_found dictionary line pieces) (without_blanks piece)
piece_before dictionary line piece [] some = absurd (omega arith)
piece_before dictionary line piece (next ∷ pieces) some = refl

-- if the first bracket of a line is split off, reading the line is reading this bracket and then the other pieces
pub next_bracket : (dictionary : List (List ℕ)) (line : ℕ) (text piece behind : List ℕ) (s : Script) → slice_split is_closing text ≡ piece ∷ slice_split is_closing behind
    → with_found (Ok s) (brackets_found dictionary line (slice_split is_closing text))
    ≡ with_found (with_found (Ok s) (bracket_found dictionary line [] (without_blanks piece))) (brackets_found dictionary line (slice_split is_closing behind))
next_bracket dictionary line text piece behind s parts =
    ap (λ pieces. with_found (Ok s) (brackets_found dictionary line pieces)) parts
    ∙ ap (with_found (Ok s)) (piece_before dictionary line piece (slice_split is_closing behind) (omega (arith, length-slice_split is_closing behind)))
    ∙ bracket_then dictionary line (brackets_found dictionary line (slice_split is_closing behind)) (without_blanks piece) s

pub ruleset line_steps = (next_bracket, absorbed)

-- if a bracket of a line is refused, the line is refused with the same error
pub refused_bracket : (error : ScriptError) (first : Result Script Refusal) (more : List Found) (whole : Result Script Refusal) (after : Script)
    → Leaves first after (Err error) → with_found first more ≡ whole → Leaves whole after (Err error)
refused_bracket error.Memory first more whole after is e = tt
refused_bracket (error.Refused refusal) first more whole after is e = sym e ∙ ap (λ s. with_found s more) is ∙ absorbed refusal more

-- if the first line of a text is split off, reading the text is reading this line and then the other lines
pub next_line : (dictionary : List (List ℕ)) (line : ℕ) (text first behind : List ℕ) (s : Script) → text_lines text ≡ first ∷ text_lines behind
    → with_found (Ok s) (lines_found dictionary line (text_lines text)) ≡ with_found (with_found (Ok s) (line_found dictionary line first)) (lines_found dictionary (line + 1) (text_lines behind))
next_line dictionary line text first behind s parts =
    ap (λ lines. with_found (Ok s) (lines_found dictionary line lines)) parts
    ∙ found_in_parts (Ok s) (line_found dictionary line first) (lines_found dictionary (line + 1) (text_lines behind))

pub refused_line : (error : ScriptError) (first : Result Script Refusal) (more : List Found) (whole : Result Script Refusal) (after : Script)
    → Leaves first after (Err error) → with_found first more ≡ whole → Answers (entries_of whole) (Err error)
refused_line error.Memory first more whole after is e = tt
refused_line (error.Refused refusal) first more whole after is e = ap entries_of (sym e ∙ ap (λ s. with_found s more) is ∙ absorbed refusal more)
