-- Where the token of a line begins that a refusal of the line is about.
use Rattle.std.specs.Prelude.{◌≡◌, ℕ, zero, suc, ◌+◌, ◌-◌, ◌<◌, ◌≤◌, nat_lt, Bool, if◌then◌else◌, List, [], ◌∷◌, length, drop, slice_get, Option, None, Some, is_some, Result, Ok, Err}
use Rattle.std.specs.Option.{option_or}
use Rattle.kmn_base.specs.Bytes.{is_blank}
use Rattle.kmn_base.specs.declared.codes.Code.{Code}
use Rattle.kmn_base.specs.declared.codes.Code.TheVariants.{S03, S07, S08}
use Rattle.kmn_base.specs.declared.refusals.Refusal.{Refusal}
use Rattle.kmn_lines.specs.Lines.{parts_in}
use Rattle.kmn_lines.specs.Tokens.{part_text, token_fault, token_size, token_text}
use Rattle.kmn_lines.specs.declared.logical.Logical.{Logical}
use Rattle.kmn_lines.specs.declared.logical.Part.{Part}
use Rattle.kmn_lines.specs.declared.token.Token.{Token}
use Rattle.kmn_tokens.specs.Scanning.{scanned_line}
use Rattle.kmn_items.specs.TokenTexts.{LineToken, with_texts}
use Rattle.kmn_items.specs.declared.syntax.TokenRefusal.{TokenRefusal}
use Rattle.kmn_parser.specs.Line.{place_of, read_line}
use Rattle.kmn_parser.specs.declared.statement.LastGroup.{LastGroup}
use Rattle.kmn_parser.specs.declared.statement.LastGroup.TheVariants.{Missing, UsingKeys, WithoutKeys}
use Rattle.kmn_parser.specs.declared.statement.Sign.TheVariants as sign
use Rattle.kmn_parser.specs.declared.statement.Statement.{Statement}
use Rattle.refusal_places.specs.Names.{named_token}
use Rattle.refusal_places.specs.declared.spot.Spot.{Spot}

-- the beginning of a token in a physical line
abbrev pub spot_at : ℕ → ℕ → Spot
spot_at line at = record { line = line; at = at }

-- whether a token with this text has a fault
abbrev pub has_fault : List ℕ → Bool
has_fault text = is_some (token_fault text)

-- where the first token with a fault begins in a text at a position, if the first bytes of the text belong to the previous token
abbrev pub fault_spot : ℕ → ℕ → ℕ → List ℕ → Option Spot
fault_spot line n at [] = None
fault_spot line (suc n) at (byte ∷ bytes) = fault_spot line n (at + 1) bytes
fault_spot line zero at (byte ∷ bytes) =
    if is_blank byte then fault_spot line zero (at + 1) bytes
    else (if has_fault (token_text (byte ∷ bytes)) then Some (spot_at line at) else fault_spot line (token_size (byte ∷ bytes) - 1) (at + 1) bytes)

-- where the first token with a fault begins in parts of a line
abbrev pub parts_spot : List ℕ → List Part → Option Spot
parts_spot source [] = None
parts_spot source (p ∷ ps) = option_or (fault_spot p.line 0 p.from (part_text source p)) (parts_spot source ps)

-- the group in which a line is read again: for a code that depends on the group, one that gives it; else one of the kind that the line needs
abbrev pub group_again : Code → List LineToken → LastGroup
group_again S03 tokens = Missing
group_again S07 tokens = WithoutKeys
group_again S08 tokens = UsingKeys
group_again other tokens = if nat_lt (place_of sign.Plus tokens) (place_of sign.Arrow tokens) then UsingKeys else WithoutKeys

-- the number of tokens before the one at which a reading stops; 0 if it does not stop
abbrev pub stopped_at : Result Statement TokenRefusal → ℕ
stopped_at (Ok read) = 0
stopped_at (Err found) = found.at

-- the number of tokens before the one at which reading a line stops, for a refusal of the line with this code
unfoldable pub stop_place : ℕ → Code → List LineToken → ℕ
stop_place line code tokens = stopped_at (read_line (group_again code tokens) line tokens)

-- where a token begins
abbrev pub token_spot : Option Token → Option Spot
token_spot None = None
token_spot (Some token) = Some (spot_at token.line token.from)

-- where the token begins that a refusal of a line is about, among its tokens: the one with the name that the line lacks, or the one at which
-- reading the line stops
abbrev pub tokens_spot : List ℕ → ℕ → Code → List ℕ → List Token → Option Spot
tokens_spot source line code name tokens =
    option_or (token_spot (named_token source code name [] [] tokens)) (token_spot (slice_get tokens (stop_place line code (with_texts source tokens))))

-- the same for the tokens of a line or their refusal, which is at the first token with a fault
abbrev pub scan_spot : List ℕ → Logical → Code → List ℕ → Result (List Token) Refusal → Option Spot
scan_spot source line code name (Ok tokens) = tokens_spot source line.first_line code name tokens
scan_spot source line code name (Err found) = parts_spot source (parts_in source line)

abbrev pub spot_in : List ℕ → Logical → Code → List ℕ → Option Spot
spot_in source line code name = scan_spot source line code name (scanned_line source line)

-- a step at the beginning of a text: the size of a blank or of a token without a fault, after which the search goes on, or where a token
-- with a fault begins
abbrev pub Steps : ℕ → ℕ → List ℕ → Result ℕ Spot → Type 0
Steps line at bytes (Ok size) =
    (0 < size) × (size ≤ length bytes) × (fault_spot line 0 (at + size) (drop size bytes) ≡ fault_spot line 0 at bytes)
Steps line at bytes (Err spot) = fault_spot line 0 at bytes ≡ Some spot
