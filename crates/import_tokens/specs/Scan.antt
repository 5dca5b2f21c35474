-- The tokens of a line in which `..` is a token by itself.
use Rattle.std.specs.Prelude.{ℕ, ◌==◌, Bool, true, false, not, ◌&&◌, ◌||◌, if◌then◌else◌, List, [], ◌∷◌, ◌++◌, length, nat_lt, flat_map, None, is_some}
use Rattle.std.specs.Str.{byte}
use Rattle.kmn_base.specs.Bytes.{is_blank}
use Rattle.kmn_base.specs.declared.limits.TheConstants.{TEXT_BYTES}
use Rattle.kmn_lines.specs.Lines.{parts_in}
use Rattle.kmn_lines.specs.Laws.{quote_behind}
use Rattle.kmn_lines.specs.Tokens.{scanned, first_fault, part_text}
use Rattle.kmn_lines.specs.declared.logical.Logical.{Logical}
use Rattle.kmn_lines.specs.declared.logical.Part.{Part}
use Rattle.kmn_items.specs.TokenTexts.{LineToken, with_texts}
use Rattle.import_tokens.specs.declared.scan.ScanState.{ScanState}

-- the state at the start of a text
abbrev pub scan_start : ScanState
scan_start = record { quote = None; in_parentheses = false; in_name = false }

-- whether a parenthesis is open after a byte outside quotes
abbrev pub parenthesis_after : Bool → ℕ → Bool
parenthesis_after inside b = if b == byte "(" then true else if b == byte ")" then false else inside

-- the state after a byte
abbrev pub scan_after : ScanState → ℕ → ScanState
scan_after s b =
    record {
      quote = quote_behind s.quote b;
      in_parentheses = if is_some s.quote then s.in_parentheses else parenthesis_after s.in_parentheses b;
      in_name = if is_some s.quote || is_blank b then false else s.in_name || (b == byte "$");
    }

-- whether two bytes are the `..` of a range: outside quotes, parentheses and names
abbrev pub is_dots : ScanState → ℕ → ℕ → Bool
is_dots s a b = (a == byte ".") && (b == byte ".") && not (is_some s.quote || s.in_parentheses || s.in_name)

-- a text with a blank before and after each `..` of a range
abbrev pub with_spaced_dots : ScanState → List ℕ → List ℕ
with_spaced_dots s [] = []
with_spaced_dots s (a ∷ []) = a ∷ []
with_spaced_dots s (a ∷ b ∷ bytes) =
    if is_dots s a b then 32 ∷ a ∷ b ∷ 32 ∷ with_spaced_dots s bytes
    else a ∷ with_spaced_dots (scan_after s a) (b ∷ bytes)

-- the texts of parts, with a blank after each
abbrev pub parts_text : List ℕ → List Part → List ℕ
parts_text source parts = flat_map (λ (p : Part). part_text source p ++ 32 ∷ []) parts

-- the text of a logical line
abbrev pub line_text : List ℕ → Logical → List ℕ
line_text source l = parts_text source (parts_in source l)

-- the tokens of a text of one line; none if one of them has a fault, or if the text is longer than a source
abbrev pub sound_tokens : List ℕ → List LineToken
sound_tokens text =
    if nat_lt TEXT_BYTES (length text) || is_some (first_fault 0 text) then [] else with_texts text (scanned 1 0 0 text)

-- the tokens of a logical line, with each `..` of a range as a token
abbrev pub tokens_of : List ℕ → Logical → List LineToken
tokens_of source l = sound_tokens (with_spaced_dots scan_start (line_text source l))
