-- The kind of an item by its first token.
use Rattle.std.specs.Prelude.{ℕ, Bool, true, List, [], ◌∷◌, Option, Some, None}
use Rattle.kmn_lines.specs.declared.token.TokenKind.TheVariants as kind
use Rattle.kmn_items.specs.declared.syntax.ItemWord.{ItemWord}
use Rattle.kmn_items.specs.declared.syntax.ItemWord.TheVariants as word
use Rattle.kmn_items.specs.declared.syntax.Lead.{Lead}
use Rattle.kmn_items.specs.declared.syntax.Lead.TheVariants as lead
use Rattle.kmn_items.specs.TokenTexts.{LineToken, begins_open}
use Rattle.kmn_items.specs.Words.{item_word}
use Rattle.kmn_items.specs.Numbers.{number_base, number_digits, digits_lead}

-- a parenthesis distinguishes `context(n)` from `context`
abbrev pub followed : Bool → ItemWord → ItemWord
followed true word.Context = word.ContextAt
followed opened other = other

-- the kind of the item that a word begins
abbrev pub named_lead : Bool → Option ItemWord → Lead
named_lead opened (Some word) = lead.Named (followed opened word)
named_lead opened None = lead.Misplaced

-- the kind of the item that a word begins, given whether a parenthesis opens after it
abbrev pub word_lead : Bool → List ℕ → Lead
word_lead opened text = elim (number_base text) [
  | Some base ↦ digits_lead base (number_digits text)
  | None ↦ named_lead opened (item_word text)
]

-- the kind of the item that a token begins
abbrev pub token_lead : Bool → LineToken → Lead
token_lead opened token = elim token.kind [
  | kind.Quoted ↦ lead.Characters
  | kind.Number c ↦ lead.One c
  | kind.Word ↦ word_lead opened token.text
  | kind.BracketOpen ↦ lead.Bracket
  | _ ↦ lead.Misplaced
]

-- the kind of the item that the first of some tokens begins
abbrev pub lead_of : List LineToken → Lead
lead_of [] = lead.Misplaced
lead_of (token ∷ tokens) = token_lead (begins_open tokens) token
