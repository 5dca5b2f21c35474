-- The tokens of a virtual key, one after the other.
use Rattle.std.proofs.Common.{◌≡◌, ℕ, List, [], ◌∷◌, ◌++◌, ◌∙◌, ap, append_assoc}
use Rattle.kmn_items.specs.TokenTexts.{LineToken}
use Rattle.kmn_parser.specs.Texts.{word, bracket_opening, bracket_closing}
use Rattle.import_tokens.specs.Ranges.{key_tokens}

-- a bracket, modifiers, a name and a bracket after other tokens
pub key_added : (old opened held named new modifiers : List LineToken) (name : List ℕ) → opened ≡ old ++ bracket_opening ∷ [] → held ≡ opened ++ modifiers
    → named ≡ held ++ word name ∷ [] → new ≡ named ++ bracket_closing ∷ [] → new ≡ old ++ key_tokens modifiers name
key_added old opened held named new modifiers name a b e f =
    f
    ∙ ap (λ (ts : List LineToken). ts ++ bracket_closing ∷ []) (e ∙ ap (λ (ts : List LineToken). ts ++ word name ∷ []) (b ∙ ap (λ (ts : List LineToken). ts ++ modifiers) a))
    ∙ append_assoc ((old ++ bracket_opening ∷ []) ++ modifiers) (word name ∷ []) (bracket_closing ∷ [])
    ∙ append_assoc (old ++ bracket_opening ∷ []) modifiers (word name ∷ bracket_closing ∷ [])
    ∙ append_assoc old (bracket_opening ∷ []) (modifiers ++ (word name ∷ bracket_closing ∷ []))
