-- The lines that the program prints, as bytes. Each ends with LF.
use Rattle.std.specs.Prelude.{ℕ, ◌-◌, true, if◌then◌else◌, List, [], ◌∷◌, ◌++◌, length, map, flat_map, replicate, codes}
use Rattle.std.specs.List.{concat}
use Rattle.std.specs.Fmt.{decimal, digits}
use Rattle.kmn_base.specs.CodeTexts.{code_text}
use Rattle.kmn_base.specs.declared.items.Item.{Item}
use Rattle.kmn_base.specs.declared.items.Item.TheVariants.{Char, Mark}
use Rattle.kmn_base.specs.declared.events.Outcome.{Outcome}
use Rattle.kmn_base.specs.declared.refusals.Refusal.{Refusal}

-- a number in upper-case hexadecimal, with at least four digits
abbrev pub hexadecimal : ℕ → List ℕ
hexadecimal n = replicate (4 - length (digits 16 true n)) 48 ++ digits 16 true n

-- the code point of a character, or `d` and the number of a mark
abbrev pub item_text : Item → List ℕ
item_text (Char c) = hexadecimal c
item_text (Mark mark) = 100 ∷ decimal mark

-- parts joined by dots, or `-` if there are none
abbrev pub joined : List (List ℕ) → List ℕ
joined [] = codes "-"
joined (part ∷ parts) = part ++ flat_map (λ next. 46 ∷ next) parts

-- the rest of an outcome: whether the key was passed on, the beeps, and the number of groups entered
abbrev pub counts_text : Outcome → List ℕ
counts_text outcome = concat (
    codes " pass=" ∷ (if outcome.pass then codes "1" else codes "0")
    ∷ codes " beep=" ∷ decimal outcome.beeps
    ∷ codes " ent=" ∷ decimal outcome.entered ∷ [])

-- the line of an event: its number, what it deleted and inserted, the rest of its outcome, and the cached context after it
unfoldable pub event_line : ℕ → Outcome → List ℕ → List Item → List ℕ
event_line number outcome inserted context = concat (
    decimal number
    ∷ codes " del=" ∷ decimal outcome.delete
    ∷ codes " ins=" ∷ joined (map hexadecimal inserted)
    ∷ counts_text outcome
    ∷ codes " ctx=" ∷ joined (map item_text context)
    ∷ codes "\n" ∷ [])

-- the line of a text before and after the caret
unfoldable pub text_line : List ℕ → List ℕ → List ℕ
text_line left right = concat (
    codes "text " ∷ joined (map hexadecimal left) ∷ codes "|" ∷ joined (map hexadecimal right) ∷ codes "\n" ∷ [])

-- the last line: the number of events, and the number of expected texts that differed
unfoldable pub end_line : ℕ → ℕ → List ℕ
end_line events failed = concat (
    codes "end events=" ∷ decimal events ∷ codes " failed=" ∷ decimal failed ∷ codes "\n" ∷ [])

-- the line of a refusal: the rule that a text breaks, and the number of the line
unfoldable pub refusal_line : Refusal → List ℕ
refusal_line refusal = concat (
    codes "refused " ∷ code_text refusal.code ∷ codes " line " ∷ decimal refusal.line ∷ codes "\n" ∷ [])
