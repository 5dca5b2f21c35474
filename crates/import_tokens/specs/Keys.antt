-- Keys that are given by their place on the board or by the character that they produce, and their names.
use Rattle.std.specs.Prelude.{ℕ, Bool, true, false, not, ◌&&◌, ◌||◌, nat_eq, if◌then◌else◌, List, [], ◌∷◌, ◌++◌, codes, find, Option, None, option_map, option_and_then, unwrap_or}
use Rattle.std.specs.List.{list_any}
use Rattle.std.specs.Option.{option_map_or}
use Rattle.kmn_base.specs.declared.keys.TheConstants.{SHIFT}
use Rattle.kmn_base.specs.Names.{same_name, named_in}
use Rattle.virtual_keys.specs.Keys.{key_name}
use Rattle.virtual_keys.specs.Fits.{char_of_press}
use Rattle.kmn_items.specs.TokenTexts.{LineToken, is_word, is_quoted, quoted, is_bracket_close}
use Rattle.kmn_parser.specs.Texts.{word}
use Rattle.import_tokens.specs.declared.bracket_state.BracketState.{BracketState}
use Rattle.import_tokens.specs.declared.bracket_state.BracketState.TheVariants.{Outside, Inside}
use Rattle.import_tokens.specs.Bounds.{after_token}

-- each place on the board, row by row from the top, with the code of the key that a US board has there
unfoldable pub key_places : List (List ℕ × ℕ)
key_places =
    (codes "E00", 192) ∷ (codes "E01", 49) ∷ (codes "E02", 50) ∷ (codes "E03", 51) ∷ (codes "E04", 52) ∷
    (codes "E05", 53) ∷ (codes "E06", 54) ∷ (codes "E07", 55) ∷ (codes "E08", 56) ∷ (codes "E09", 57) ∷
    (codes "E10", 48) ∷ (codes "E11", 189) ∷ (codes "E12", 187) ∷ (codes "D01", 81) ∷ (codes "D02", 87) ∷
    (codes "D03", 69) ∷ (codes "D04", 82) ∷ (codes "D05", 84) ∷ (codes "D06", 89) ∷ (codes "D07", 85) ∷
    (codes "D08", 73) ∷ (codes "D09", 79) ∷ (codes "D10", 80) ∷ (codes "D11", 219) ∷ (codes "D12", 221) ∷
    (codes "D13", 220) ∷ (codes "C01", 65) ∷ (codes "C02", 83) ∷ (codes "C03", 68) ∷ (codes "C04", 70) ∷
    (codes "C05", 71) ∷ (codes "C06", 72) ∷ (codes "C07", 74) ∷ (codes "C08", 75) ∷ (codes "C09", 76) ∷
    (codes "C10", 186) ∷ (codes "C11", 222) ∷ (codes "B00", 226) ∷ (codes "B01", 90) ∷ (codes "B02", 88) ∷
    (codes "B03", 67) ∷ (codes "B04", 86) ∷ (codes "B05", 66) ∷ (codes "B06", 78) ∷ (codes "B07", 77) ∷
    (codes "B08", 188) ∷ (codes "B09", 190) ∷ (codes "B10", 191) ∷ (codes "A03", 32) ∷ []

-- whether a key produces a character on the US layout, with or without shift
abbrev pub produces : Bool → ℕ → ℕ → Bool
produces shifted c code = option_map_or (nat_eq c) (char_of_press (record { code = code; mods = if shifted then SHIFT else 0 })) false

-- the code of the first key of a table that produces a character
abbrev pub producing_in : List (List ℕ × ℕ) → ℕ → Option ℕ
producing_in table c = option_map (λ row. row.1) (find (λ row. produces false c row.1 || produces true c row.1) table)

-- the code of the first key of the board that produces a character
abbrev pub key_producing : ℕ → Option ℕ
key_producing c = producing_in key_places c

-- SHIFT for a key that needs it, unless it is among the words of its bracket
abbrev pub shift_tokens : Bool → List LineToken → List LineToken
shift_tokens shifted words =
    if shifted && not (list_any (λ (t : LineToken). same_name t.text (codes "SHIFT")) words) then word (codes "SHIFT") ∷ [] else []

-- the name of a key after some tokens; None if the key has no name
abbrev pub key_word : List LineToken → ℕ → Option (List LineToken)
key_word before code = option_map (λ (name : List ℕ). before ++ word name ∷ []) (key_name code)

-- the key at a place of the board
abbrev pub place_tokens : List ℕ → Option (List LineToken)
place_tokens text = option_and_then (key_word []) (named_in key_places text)

-- the key that produces one character, with SHIFT if it needs it, after the words of its bracket
abbrev pub character_tokens : List LineToken → List ℕ → Option (List LineToken)
character_tokens words (c ∷ []) = option_and_then (λ code. key_word (shift_tokens (not (produces false c code)) words) code) (key_producing c)
character_tokens words other = None

-- the key that a token in a bracket names by its place or by its character; None for other tokens
abbrev pub named_tokens : List LineToken → LineToken → Option (List LineToken)
named_tokens words token =
    if is_word token.kind then place_tokens token.text
    else if is_quoted token.kind then character_tokens words (quoted token.text)
    else None

-- whether a bracket closes at the first token
abbrev pub begins_bracket_close : List LineToken → Bool
begins_bracket_close [] = false
begins_bracket_close (token ∷ tokens) = is_bracket_close token.kind

-- a token, or the name of the key if it is the last one in a bracket and names a key by its place or its character
abbrev pub keyed : BracketState → LineToken → List LineToken → List LineToken
keyed (Outside bound) token tokens = token ∷ []
keyed (Inside words) token tokens = if begins_bracket_close tokens then unwrap_or (named_tokens words token) (token ∷ []) else token ∷ []

-- tokens in which each virtual key has a name
abbrev pub with_key_names : BracketState → List LineToken → List LineToken
with_key_names state [] = []
with_key_names state (token ∷ tokens) = keyed state token tokens ++ with_key_names (after_token state token) tokens
