-- The bounds of a range: the character or the virtual key before and after its `..`.
use Rattle.std.specs.Prelude.{ℕ, ◌+◌, ◌==◌, Bool, true, false, if◌then◌else◌, List, [], ◌∷◌, ◌++◌, fold, length, take, Option, Some, None}
use Rattle.std.specs.List.{position_or_len}
use Rattle.kmn_lines.specs.declared.token.TokenKind.{TokenKind}
use Rattle.kmn_lines.specs.declared.token.TokenKind.TheVariants as kind
use Rattle.virtual_keys.specs.Keys.{key_code}
use Rattle.kmn_items.specs.declared.syntax.Lead.{Lead}
use Rattle.kmn_items.specs.declared.syntax.Lead.TheVariants as lead
use Rattle.kmn_items.specs.TokenTexts.{LineToken, text_at, quoted, is_bracket_close}
use Rattle.kmn_items.specs.Leads.{token_lead}
use Rattle.kmn_items.specs.Brackets.{modifier_count}
use Rattle.import_tokens.specs.declared.bound.Bound.{Bound}
use Rattle.import_tokens.specs.declared.bound.Bound.TheVariants.{Missing, Character, VirtualKey}
use Rattle.import_tokens.specs.declared.bracket_state.BracketState.{BracketState}
use Rattle.import_tokens.specs.declared.bracket_state.BracketState.TheVariants.{Outside, Inside}

-- whether a token opens a bracket
abbrev pub is_bracket_open : TokenKind → Bool
is_bracket_open kind.BracketOpen = true
is_bracket_open other = false

-- the first of some characters as a bound
abbrev pub first_char : List ℕ → Bound
first_char [] = Missing
first_char (c ∷ cs) = Character c

-- the last of some characters as a bound
abbrev pub last_char : List ℕ → Bound
last_char characters = fold (λ bound c. Character c) Missing characters

-- the bound of a token outside brackets, given the bound of quoted characters
abbrev pub bound_of : (List ℕ → Bound) → Lead → List ℕ → Bound
bound_of quoted_bound lead.Characters text = quoted_bound (quoted text)
bound_of quoted_bound (lead.One c) text = Character c
bound_of quoted_bound other text = Missing

-- a key with a code and these modifiers
abbrev pub coded_bound : List LineToken → Option ℕ → Bound
coded_bound modifiers None = Missing
coded_bound modifiers (Some code) = VirtualKey modifiers code

-- the key of the tokens in brackets: modifiers and one name of a key
abbrev pub key_bound : List LineToken → Bound
key_bound words =
    let count = modifier_count words in
    if length words == count + 1 then coded_bound (take count words) (key_code (text_at count words)) else Missing

-- the state before the first token
abbrev pub no_token : BracketState
no_token = Outside Missing

-- the state after a token
abbrev pub after_token : BracketState → LineToken → BracketState
after_token (Outside bound) token = if is_bracket_open token.kind then Inside [] else Outside (bound_of last_char (token_lead false token) token.text)
after_token (Inside words) token = if is_bracket_close token.kind then Outside (key_bound words) else Inside (words ++ token ∷ [])

-- the bound before the next token
abbrev pub bound_before : BracketState → Bound
bound_before (Outside bound) = bound
bound_before (Inside words) = Missing

-- the tokens before the first bracket that closes
abbrev pub before_close : List LineToken → List LineToken
before_close tokens = take (position_or_len (λ (t : LineToken). is_bracket_close t.kind) tokens) tokens

-- the bound at the beginning of tokens
abbrev pub bound_after : List LineToken → Bound
bound_after [] = Missing
bound_after (token ∷ tokens) =
    if is_bracket_open token.kind then key_bound (before_close tokens)
    else bound_of first_char (token_lead false token) token.text
