-- The script of a load is read as its presses, line by line.
use Rattle.std.proofs.Common.{◌≡◌, ℕ, zero, suc, ◌+◌, ◌*◌, ◌<◌, ◌≤◌, nat_lt, Bool, true, false, if◌then◌else◌, List, [], ◌∷◌, ◌++◌, length, codes, Result, Ok, refl, ap, sym, ◌∙◌, append_assoc, arith}
use Rattle.std.proofs.lemmas.Bool.Decides.{nat_tests}
use Rattle.std.specs.Str.{IsAscii}
use Rattle.std.proofs.lemmas.Str.{IsUtf8-from_ascii}
use Rattle.std.proofs.lemmas.Str.Ascii.{IsAscii-cons}
use Rattle.kmn_base.specs.Names.{same_name}
use Rattle.kmn_base.specs.Texts.{without_bom}
use Rattle.kmn_base.specs.declared.events.Event.{Event}
use Rattle.kmn_base.specs.declared.events.Event.TheVariants as event
use Rattle.kmn_base.specs.declared.limits.TheConstants.{TEXT_BYTES, SCRIPT_EVENTS}
use Rattle.kmn_base.specs.declared.refusals.Refusal.{Refusal}
use Rattle.virtual_keys.specs.Keys.{key_codes}
use Rattle.rule_model.specs.Transcript.{events_of}
use Rattle.rule_model.specs.declared.script.Entry.{Entry}
use Rattle.rule_model.specs.declared.script.Entry.TheVariants.{Act}
use Rattle.load_maker.specs.Loads.{press_lines}
use Rattle.play_script.specs.Entries.{Script, entries, entries_of, first_script, line_found, lines_found, with_entry, with_found}
use Rattle.play_script.specs.Found.{Found, Reads}
use Rattle.play_script.specs.Lines.{text_lines}
use Rattle.play_script.proofs.TextLaws.{text_kept, text_read}
use Rattle.load_maker.specs.Keyboards.{press_a, press_space, presses}
use Rattle.load_maker.specs.Scripts.{press_entries, ScriptsAreRead}

-- the lines with the first press in front
abbrev lines_of : ℕ → List ℕ
lines_of zero = codes "[K_SPACE]\n"
lines_of (suc count) = codes "[K_A]\n" ++ lines_of count

-- a line after equal lines can be moved before them
line_moves : (count : ℕ) (rest : List ℕ) → press_lines count ++ (codes "[K_A]\n" ++ rest) ≡ codes "[K_A]\n" ++ (press_lines count ++ rest)
line_moves zero rest = refl
line_moves (suc count) rest =
    append_assoc (press_lines count) (codes "[K_A]\n") (codes "[K_A]\n" ++ rest)
    ∙ line_moves count (codes "[K_A]\n" ++ rest)
    ∙ ap (λ (text : List ℕ). codes "[K_A]\n" ++ text) (sym (append_assoc (press_lines count) (codes "[K_A]\n") rest))

in_front : (count : ℕ) → press_lines count ++ codes "[K_SPACE]\n" ≡ lines_of count
in_front zero = refl
in_front (suc count) =
    append_assoc (press_lines count) (codes "[K_A]\n") (codes "[K_SPACE]\n") ∙ line_moves count (codes "[K_SPACE]\n")
    ∙ ap (λ (text : List ℕ). codes "[K_A]\n" ++ text) (in_front count)

first_line : (rest : List ℕ) → text_lines (codes "[K_A]\n" ++ rest) ≡ codes "[K_A]" ∷ text_lines rest
first_line [] = refl
first_line (b ∷ rest) = refl

a_found : (dictionary : List (List ℕ)) (line : ℕ) → line_found dictionary line (codes "[K_A]") ≡ Reads (Act line (event.Key press_a)) ∷ []
unfolding key_codes same_name
a_found dictionary line = refl

space_found : (dictionary : List (List ℕ)) (line : ℕ) → line_found dictionary line (codes "[K_SPACE]") ≡ Reads (Act line (event.Key press_space)) ∷ []
unfolding key_codes same_name
space_found dictionary line = refl

-- what is found in the lines
abbrev presses_found : ℕ → ℕ → List Found
presses_found line zero = Reads (Act line (event.Key press_space)) ∷ []
presses_found line (suc count) = Reads (Act line (event.Key press_a)) ∷ presses_found (line + 1) count

all_found : (dictionary : List (List ℕ)) (line count : ℕ) → lines_found dictionary line (text_lines (lines_of count)) ≡ presses_found line count
all_found dictionary line zero = ap (λ (found : List Found). found ++ []) (space_found dictionary line)
all_found dictionary line (suc count) =
    ap (lines_found dictionary line) (first_line (lines_of count))
    ∙ ap (λ (found : List Found). found ++ lines_found dictionary (line + 1) (text_lines (lines_of count))) (a_found dictionary line)
    ∙ ap (λ (found : List Found). Reads (Act line (event.Key press_a)) ∷ found) (all_found dictionary (line + 1) count)

-- an event within the limit is one entry more
abbrev one_more_entry : Script → Entry → Script
one_more_entry s entry = record { entries = s.entries ++ entry ∷ []; events = s.events + 1 }

entry_kept : (s : Script) (line : ℕ) (e : Event) → s.events < SCRIPT_EVENTS → with_entry s (Act line e) ≡ Ok (one_more_entry s (Act line e))
entry_kept s line e within = by_test (nat_lt s.events SCRIPT_EVENTS) _ _ (grind (arith, nat_tests))
  where
    by_test : (fits : Bool) (first second : Result Script Refusal) → fits ≡ true → (if fits then first else second) ≡ first
    by_test true first second is = refl
    by_test false first second is = absurd (cc)

all_read : (s : Script) (line count : ℕ) → s.events + count < SCRIPT_EVENTS → entries_of (with_found (Ok s) (presses_found line count)) ≡ Ok (s.entries ++ press_entries line count)
all_read s line zero within = ap (λ (read : Result Script Refusal). entries_of (with_found read [])) (entry_kept s line (event.Key press_space) (omega arith))
all_read s line (suc count) within =
    ap (λ (read : Result Script Refusal). entries_of (with_found read (presses_found (line + 1) count))) (entry_kept s line (event.Key press_a) (omega arith))
    ∙ all_read (one_more_entry s (Act line (event.Key press_a))) (line + 1) count (omega arith)
    ∙ ap Ok (append_assoc s.entries (Act line (event.Key press_a) ∷ []) (press_entries (line + 1) count))

-- the lines are ASCII and few
ascii_nil : IsAscii []
ascii_nil i = omega arith

lines_ascii : (count : ℕ) → IsAscii (lines_of count)
lines_ascii zero =
    IsAscii-cons 91 (75 ∷ 95 ∷ 83 ∷ 80 ∷ 65 ∷ 67 ∷ 69 ∷ 93 ∷ 10 ∷ []) (omega arith)
    (IsAscii-cons 75 (95 ∷ 83 ∷ 80 ∷ 65 ∷ 67 ∷ 69 ∷ 93 ∷ 10 ∷ []) (omega arith)
    (IsAscii-cons 95 (83 ∷ 80 ∷ 65 ∷ 67 ∷ 69 ∷ 93 ∷ 10 ∷ []) (omega arith)
    (IsAscii-cons 83 (80 ∷ 65 ∷ 67 ∷ 69 ∷ 93 ∷ 10 ∷ []) (omega arith)
    (IsAscii-cons 80 (65 ∷ 67 ∷ 69 ∷ 93 ∷ 10 ∷ []) (omega arith)
    (IsAscii-cons 65 (67 ∷ 69 ∷ 93 ∷ 10 ∷ []) (omega arith)
    (IsAscii-cons 67 (69 ∷ 93 ∷ 10 ∷ []) (omega arith)
    (IsAscii-cons 69 (93 ∷ 10 ∷ []) (omega arith)
    (IsAscii-cons 93 (10 ∷ []) (omega arith)
    (IsAscii-cons 10 ([]) (omega arith)
    ascii_nil)))))))))
lines_ascii (suc count) =
    IsAscii-cons 91 (75 ∷ 95 ∷ 65 ∷ 93 ∷ 10 ∷ lines_of count) (omega arith)
    (IsAscii-cons 75 (95 ∷ 65 ∷ 93 ∷ 10 ∷ lines_of count) (omega arith)
    (IsAscii-cons 95 (65 ∷ 93 ∷ 10 ∷ lines_of count) (omega arith)
    (IsAscii-cons 65 (93 ∷ 10 ∷ lines_of count) (omega arith)
    (IsAscii-cons 93 (10 ∷ lines_of count) (omega arith)
    (IsAscii-cons 10 (lines_of count) (omega arith)
    (lines_ascii count))))))

lines_length : (count : ℕ) → length (lines_of count) ≡ 6 * count + 10
lines_length zero = refl
lines_length (suc count) = omega (arith, lines_length count)

unmarked : (count : ℕ) → without_bom (lines_of count) ≡ lines_of count
unmarked zero = refl
unmarked (suc count) = refl

lines_read : (dictionary : List (List ℕ)) (count : ℕ) → count ≤ 2001 → entries dictionary (lines_of count) ≡ Ok (press_entries 1 count)
lines_read dictionary count within =
    let few : length (lines_of count) ≡ 6 * count + 10 = lines_length count in
    let short : nat_lt TEXT_BYTES (length (lines_of count)) ≡ false = grind (arith, nat_tests, few) in
    text_read dictionary (lines_of count) (lines_of count)
    (text_kept (lines_of count) short (IsUtf8-from_ascii (lines_of count) (lines_ascii count)) ∙ ap Ok (unmarked count))
    ∙ ap (λ (found : List Found). entries_of (with_found (Ok first_script) found)) (all_found dictionary 1 count)
    ∙ all_read first_script 1 count (omega arith)

events_are : (line count : ℕ) → events_of (press_entries line count) ≡ presses count
events_are line zero = refl
events_are line (suc count) = ap (λ events. event.Key press_a ∷ events) (events_are (line + 1) count)

pub scripts_are_read : ScriptsAreRead
scripts_are_read n dictionary within =
    let count : n + 1 ≡ suc n = omega arith in (
      rw count (ap (entries dictionary) (in_front (suc n)) ∙ lines_read dictionary (suc n) (omega arith)),
      events_are 1 (suc n),
    )
