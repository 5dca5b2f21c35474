-- Ranges of characters and of virtual keys, and the tokens that they stand for.
use Rattle.std.specs.Prelude.{ℕ, zero, suc, ◌+◌, ◌-◌, Bool, not, ◌&&◌, ◌||◌, nat_eq, nat_lt, nat_le, if◌then◌else◌, List, [], ◌∷◌, ◌++◌, codes, Option, Some, None, option_map, option_and_then, unwrap_or}
use Rattle.kmn_base.specs.declared.limits.TheConstants.{STORE_ELEMENTS}
use Rattle.virtual_keys.specs.Keys.{key_name}
use Rattle.kmn_items.specs.TokenTexts.{LineToken, is_word}
use Rattle.kmn_items.specs.Brackets.{flags_of}
use Rattle.kmn_parser.specs.Texts.{char_token, word, quoted_token, bracket_opening, bracket_closing}
use Rattle.kmn_base.specs.Names.{same_name}
use Rattle.import_tokens.specs.declared.bound.Bound.{Bound}
use Rattle.import_tokens.specs.declared.bound.Bound.TheVariants.{Character, VirtualKey}
use Rattle.import_tokens.specs.declared.bracket_state.BracketState.{BracketState}
use Rattle.import_tokens.specs.Bounds.{after_token, bound_before, bound_after}

-- n numbers from a first one on
abbrev pub counted : ℕ → ℕ → List ℕ
counted first zero = []
counted first (suc n) = first ∷ counted (first + 1) n

-- the numbers between two others
abbrev pub between : ℕ → ℕ → List ℕ
between first last = counted (first + 1) (last - (first + 1))

-- whether all numbers from one character up to a later one are characters, and no more than a store may have
abbrev pub is_char_range : ℕ → ℕ → Bool
is_char_range first last =
    nat_lt first last && nat_lt last 0x11_0000 && (nat_lt last 0xD800 || nat_lt 0xDFFF first) && (nat_lt last 0xFFFF || nat_lt 0xFFFF first)
    && nat_lt (last - first) STORE_ELEMENTS

-- whether a character is written as itself in single quotes: visible ASCII except the quote
abbrev pub is_clear : ℕ → Bool
is_clear c = nat_lt 0x20 c && nat_lt c 0x7F && not (nat_eq c 39)

-- clear characters in one pair of quotes
abbrev pub run_tokens : List ℕ → List LineToken
run_tokens [] = []
run_tokens (c ∷ cs) = quoted_token 39 (c ∷ cs) ∷ []

-- characters as tokens, after a run of clear characters: each character that is not clear is written by its number
abbrev pub spelled : List ℕ → List ℕ → List LineToken
spelled run [] = run_tokens run
spelled run (c ∷ cs) = if is_clear c then spelled (run ++ c ∷ []) cs else run_tokens run ++ (char_token c ∷ spelled [] cs)

-- a virtual key: its modifiers and its name in brackets
abbrev pub key_tokens : List LineToken → List ℕ → List LineToken
key_tokens modifiers name = bracket_opening ∷ (modifiers ++ (word name ∷ bracket_closing ∷ []))

-- the keys with these codes; None if one of them has no name
abbrev pub keys_tokens : List LineToken → List ℕ → Option (List LineToken)
keys_tokens modifiers [] = Some []
keys_tokens modifiers (code ∷ codes) =
    option_and_then (λ (name : List ℕ). option_map (λ (more : List LineToken). key_tokens modifiers name ++ more) (keys_tokens modifiers codes)) (key_name code)

-- the tokens between two bounds; None if the bounds are not a range
abbrev pub range_tokens : Bound → Bound → Option (List LineToken)
range_tokens (Character first) (Character last) = if is_char_range first last then Some (spelled [] (between first last)) else None
range_tokens (VirtualKey modifiers first) (VirtualKey others last) =
    if nat_lt first last && nat_eq (flags_of modifiers) (flags_of others) then keys_tokens modifiers (between first last) else None
range_tokens first last = None

-- the difference of two bounds
abbrev pub range_size : Bound → Bound → ℕ
range_size (Character first) (Character last) = last - first
range_size (VirtualKey modifiers first) (VirtualKey others last) = last - first
range_size first last = 0

-- whether a token is `..`
abbrev pub is_range_sign : LineToken → Bool
is_range_sign token = is_word token.kind && same_name token.text (codes "..")

-- the number of elements that a `..` needs, given the state before it and the tokens after it; other tokens need none
abbrev pub elements_needed : BracketState → LineToken → List LineToken → ℕ
elements_needed state token tokens = if is_range_sign token then range_size (bound_before state) (bound_after tokens) else 0

-- the tokens of a range, if as many elements are left
abbrev pub range_within : ℕ → Bound → Bound → Option (List LineToken)
range_within left first last = if nat_le (range_size first last) left then range_tokens first last else None

-- a token, or the tokens of the range if it is the `..` of one
abbrev pub ranged : ℕ → BracketState → LineToken → List LineToken → List LineToken
ranged left state token tokens =
    if is_range_sign token then unwrap_or (range_within left (bound_before state) (bound_after tokens)) (token ∷ []) else token ∷ []

-- tokens with their ranges written out, as far as the number of elements that are left allows: a `..` with a larger range is kept
abbrev pub without_ranges : ℕ → BracketState → List LineToken → List LineToken
without_ranges left state [] = []
without_ranges left state (token ∷ tokens) =
    ranged left state token tokens ++ without_ranges (left - elements_needed state token tokens) (after_token state token) tokens
