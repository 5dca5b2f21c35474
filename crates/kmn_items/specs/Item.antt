-- The items of stores, contexts, keys and outputs, read from the tokens of a line from the left.
use Rattle.std.specs.Prelude.{ℕ, zero, suc, ◌+◌, ◌-◌, min, Bool, false, ◌||◌, if◌then◌else◌, List, [], ◌∷◌, ◌++◌, map, length, take, drop, Option, Some, None, is_some, Result, Ok, Err}
use Rattle.kmn_base.specs.declared.codes.Code.TheVariants.{S05}
use Rattle.rule_model.specs.declared.program.SrcItem.{SrcItem}
use Rattle.rule_model.specs.declared.program.SrcItem.TheVariants as source
use Rattle.kmn_items.specs.declared.syntax.TokenRefusal.{TokenRefusal}
use Rattle.kmn_items.specs.declared.syntax.Where.{Where}
use Rattle.kmn_items.specs.declared.syntax.Where.TheVariants as section
use Rattle.kmn_items.specs.declared.syntax.Seen.{Seen}
use Rattle.kmn_items.specs.declared.syntax.ItemWord.{ItemWord}
use Rattle.kmn_items.specs.declared.syntax.Lead.{Lead}
use Rattle.kmn_items.specs.declared.syntax.Lead.TheVariants as lead
use Rattle.kmn_items.specs.declared.syntax.Slot.TheVariants as slot
use Rattle.kmn_items.specs.declared.syntax.Taken.{Taken}
use Rattle.kmn_base.specs.Answers.{and_then}
use Rattle.kmn_items.specs.TokenTexts.{LineToken, fault, text_at, quoted}
use Rattle.kmn_items.specs.Words.{item_word}
use Rattle.kmn_items.specs.Numbers.{is_number_word}
use Rattle.kmn_items.specs.Slots.{broken}
use Rattle.kmn_items.specs.Leads.{lead_of}
use Rattle.kmn_items.specs.Standing.{misplaced_code, standing_code, seen_word, seen_count, is_crowded}
use Rattle.kmn_items.specs.Forms.{word_slots, word_item}
use Rattle.kmn_items.specs.Brackets.{flags_of, named_key, key_item, modifier_count}

-- what a section has seen before its first item
abbrev pub unseen : Seen
unseen = record { pattern = false; nul = false }

-- whether a word begins an item; a number and a word with `$` also do
abbrev pub is_item_word : List ℕ → Bool
is_item_word text = is_number_word text || is_some (item_word text)

-- an item, or the fault of its form
abbrev pub formed : Option TokenRefusal → Taken → Result Taken TokenRefusal
formed (Some fault) taken = Err fault
formed None taken = Ok taken

-- the item of a word in a section
abbrev pub read_word : Where → Seen → ℕ → ℕ → ItemWord → List LineToken → Result Taken TokenRefusal
read_word place seen last at word tokens =
    formed (broken last at (word_slots word) tokens)
    (record { items = word_item place word tokens ∷ []; more = length (word_slots word) - 1; seen = seen_word seen word })

-- the characters of a quoted token, each an item
abbrev pub read_quoted : Where → Seen → ℕ → List ℕ → Result Taken TokenRefusal
read_quoted place seen at characters =
    if is_crowded place seen (length characters) then Err (fault at S05)
    else Ok (record { items = map source.Char characters; more = 0; seen = seen_count seen (length characters) })

-- a character as an item
abbrev pub one_character : Seen → ℕ → Taken
one_character seen c = record { items = source.Char c ∷ []; more = 0; seen = seen_count seen 1 }

-- the key in brackets, from the tokens after the opening bracket, with `count` modifiers
abbrev pub read_bracket : Where → Seen → ℕ → ℕ → ℕ → List LineToken → Result Taken TokenRefusal
read_bracket place seen last at count tokens =
    formed (broken last (at + 1 + count) (slot.KeyName ∷ slot.KeyEnd ∷ []) (drop count tokens))
    (record {
      items = key_item place (named_key (flags_of (take count tokens)) (text_at count tokens)) ∷ [];
      more = count + 2;
      seen = seen_count seen 1;
    })

-- the item at the beginning of tokens, by the kind of the first token, if it is allowed there
abbrev pub read_form : Where → Seen → ℕ → ℕ → Lead → List LineToken → Result Taken TokenRefusal
read_form place seen last at lead.Characters tokens = read_quoted place seen at (quoted (text_at 0 tokens))
read_form place seen last at (lead.One c) tokens = Ok (one_character seen c)
read_form place seen last at (lead.Named word) tokens = read_word place seen last at word tokens
read_form place seen last at lead.Bracket tokens = read_bracket place seen last at (modifier_count (drop 1 tokens)) (drop 1 tokens)
read_form place seen last at (lead.Wrong code) tokens = Err (fault at code)
read_form place seen last at lead.Misplaced tokens = Err (fault at (misplaced_code place))

-- the item at the beginning of tokens, or the rule that the first token breaks by its position
abbrev pub read_led : Where → Seen → ℕ → ℕ → Lead → List LineToken → Result Taken TokenRefusal
read_led place seen last at lead tokens = elim (standing_code place seen lead) [
  | Some code ↦ Err (fault at code)
  | None ↦ read_form place seen last at lead tokens
]

-- one item at the beginning of tokens: in a section, after what was seen, from the index `at` of a line with its last token at `last`
unfoldable pub read_item : Where → Seen → ℕ → ℕ → List LineToken → Result Taken TokenRefusal
read_item place seen last at tokens = read_led place seen last at (lead_of tokens) tokens

-- the items before those that are read after them
abbrev pub prepend : List SrcItem → Result (List SrcItem) TokenRefusal → Result (List SrcItem) TokenRefusal
prepend items (Ok more) = Ok (items ++ more)
prepend items (Err fault) = Err fault

-- an item, followed by the items after it
abbrev pub then_items : Result Taken TokenRefusal → (Taken → Result (List SrcItem) TokenRefusal) → Result (List SrcItem) TokenRefusal
then_items (Ok taken) more = prepend taken.items (more taken)
then_items (Err fault) more = Err fault

-- the items of a section from its index `at` on, after tokens that an item has used
abbrev pub read_items : Where → Seen → ℕ → ℕ → ℕ → List LineToken → Result (List SrcItem) TokenRefusal
read_items place seen last skip at [] = Ok []
read_items place seen last (suc skip) at (token ∷ tokens) = read_items place seen last skip (at + 1) tokens
read_items place seen last zero at (token ∷ tokens) =
    then_items (read_item place seen last at (token ∷ tokens))
    (λ (taken : Taken). read_items place taken.seen last taken.more (at + 1) tokens)

-- the last item; a key has only one
abbrev pub last_item : TokenRefusal → List SrcItem → Result SrcItem TokenRefusal
last_item none [] = Err none
last_item none (item ∷ []) = Ok item
last_item none (item ∷ next ∷ items) = last_item none (next ∷ items)

-- the item of a key
abbrev pub read_key : ℕ → ℕ → List LineToken → Result SrcItem TokenRefusal
read_key last at tokens =
    and_then (read_items section.Key unseen last 0 at tokens) (last_item (fault (min (at + length tokens) last) S05))
