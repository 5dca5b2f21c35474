-- The text of a virtual key, word by word.
use Rattle.std.proofs.Common.{◌≡◌, ℕ, Bool, true, false, not, nat_eq, nat_lt, if◌then◌else◌, List, [], ◌∷◌, ◌++◌, Option, Some, map, filter, refl, sym, ap, ◌∙◌, append_assoc, arith}
use Rattle.std.specs.Prelude.{bit_and, bit_or, unwrap_or}
use Rattle.std.proofs.lemmas.Bool.Decides.{nat_tests}
use Rattle.virtual_keys.specs.Dictionary.{name_in}
use Rattle.virtual_keys.specs.Keys.{key_codes, key_name, shift_flags}
use Rattle.rule_model.specs.declared.program.KeyName.{KeyName}
use Rattle.kmn_items.specs.TokenTexts.{LineToken}
use Rattle.kmn_parser.specs.Printed.{printed}
use Rattle.kmn_parser.specs.Texts.{word, bracket_closing}
use Rattle.kmn_parser.specs.Items.{spaced_words, key_text, key_pieces}
use Rattle.decompile_program.specs.Items.{Names}
use Rattle.decompile_text.specs.Texts.{virtual_text}
use Rattle.decompile_text.proofs.OneByOne.{flags_text}

row_step : (row : List ℕ × ℕ) (rows : List (List ℕ × ℕ)) (more : List (Option LineToken)) (tail : List ℕ) (unset : Bool)
    → printed (spaced_words (map (λ row. row.0) rows) more) ≡ tail ++ printed more
    → printed (spaced_words (map (λ row. row.0) (if not unset then row ∷ rows else rows)) more) ≡ ((if unset then [] else row.0 ++ 32 ∷ []) ++ tail) ++ printed more
row_step row rows more tail true h = h
row_step row rows more tail false h =
    ap (λ (text : List ℕ). row.0 ++ 32 ∷ text) h
    ∙ sym (append_assoc (row.0 ++ 32 ∷ []) tail (printed more) ∙ append_assoc row.0 (32 ∷ []) (tail ++ printed more))

-- the words of flags by a table, each followed by a space
spaced_flags : (flags : ℕ) (rows : List (List ℕ × ℕ)) (more : List (Option LineToken))
    → printed (spaced_words (map (λ row. row.0) (filter (λ row. not (nat_eq (bit_and flags row.1) 0)) rows)) more) ≡ flags_text flags rows ++ printed more
spaced_flags flags [] more = refl
spaced_flags flags (row ∷ rows) more =
    row_step row (filter (λ row. not (nat_eq (bit_and flags row.1) 0)) rows) more (flags_text flags rows) (nat_eq (bit_and flags row.1) 0) (spaced_flags flags rows more)

zero_name : unwrap_or (key_name 0) [] ≡ []
unfolding key_codes
zero_name = refl

coded : (code : ℕ) (zero : Bool) → nat_eq code 0 ≡ zero → (if zero then [] else unwrap_or (key_name code) []) ≡ unwrap_or (key_name code) []
coded code false e = refl
coded code true e =
    let none : code ≡ 0 = grind (arith, nat_tests) in
    sym (ap (λ (n : ℕ). unwrap_or (key_name n) []) none ∙ zero_name)

-- the text of a virtual key has its name after its words
named : (flags code : ℕ) (key : KeyName) (name : List ℕ) → key.flags ≡ flags → key_text key ≡ name
    → printed (key_pieces key) ≡ 91 ∷ (flags_text flags shift_flags ++ (name ++ 93 ∷ []))
named flags code key name f n =
    ap (λ (text : List ℕ). 91 ∷ text)
    (spaced_flags key.flags shift_flags (Some (word (key_text key)) ∷ Some bracket_closing ∷ [])
    ∙ ap (λ (found : ℕ). flags_text found shift_flags ++ (key_text key ++ 93 ∷ [])) f
    ∙ ap (λ (found : List ℕ). flags_text flags shift_flags ++ (found ++ 93 ∷ [])) n)

called : (names : Names) (flags code : ℕ) (low : Bool)
    → printed (key_pieces (if low then record { flags = bit_or flags 0x4000; code = code; name = [] } else record { flags = bit_or flags 0x4000; code = 0; name = unwrap_or (name_in names.keys code) [] }))
    ≡ 91 ∷ (flags_text (bit_or flags 0x4000) shift_flags ++ (unwrap_or (if low then key_name code else name_in names.keys code) [] ++ 93 ∷ []))
called names flags code true = named (bit_or flags 0x4000) code (record { flags = bit_or flags 0x4000; code = code; name = [] }) _ refl (coded code (nat_eq code 0) refl)
called names flags code false = named (bit_or flags 0x4000) code (record { flags = bit_or flags 0x4000; code = 0; name = unwrap_or (name_in names.keys code) [] }) _ refl refl

-- the text of a virtual key of a file is its words and its name in brackets
pub virtual_is : (names : Names) (flags code : ℕ)
    → virtual_text names flags code ≡ 91 ∷ (flags_text (bit_or flags 0x4000) shift_flags ++ (unwrap_or (if nat_lt code 256 then key_name code else name_in names.keys code) [] ++ 93 ∷ []))
unfolding virtual_text
virtual_is names flags code = called names flags code (nat_lt code 256)
