-- The laws of reading items.
use Rattle.std.specs.Prelude.{◌≡◌, ℕ, ◌+◌, ◌<◌, List, [], ◌∷◌, length, drop, flat_map, Ok}
use Rattle.rule_model.specs.declared.program.SrcItem.{SrcItem}
use Rattle.kmn_items.specs.declared.syntax.Where.{Where}
use Rattle.kmn_items.specs.declared.syntax.Where.TheVariants as section
use Rattle.kmn_items.specs.declared.syntax.Seen.{Seen}
use Rattle.kmn_items.specs.declared.syntax.Taken.{Taken}
use Rattle.kmn_items.specs.TokenTexts.{LineToken}
use Rattle.kmn_items.specs.Item.{unseen, read_item, read_items, read_key}

-- if tokens are read as a key, they denote one item, which is the key
abbrev pub KeysAreOneItem : Type 0
KeysAreOneItem = (last at : ℕ) (tokens : List LineToken) (item : SrcItem)
    → read_key last at tokens ≡ Ok item → read_items section.Key unseen last 0 at tokens ≡ Ok (item ∷ [])

-- readings of items use up tokens, of which the first has the index `at` in its line: each reading begins at the end of the previous one
-- and has at most as many tokens as remain, and no token is left over. One reading of a quoted token has an item for each character
abbrev pub TakesUp : Where → Seen → ℕ → ℕ → List Taken → List LineToken → Type 0
TakesUp place seen last at [] tokens = tokens ≡ []
TakesUp place seen last at (taken ∷ parts) tokens =
    (read_item place seen last at tokens ≡ Ok taken) × (taken.more < length tokens)
    × TakesUp place taken.seen last (at + (1 + taken.more)) parts (drop (1 + taken.more) tokens)

-- if the items of a section are read, they are the items of readings that use up its tokens
abbrev pub TokensAreTakenUp : Type 0
TokensAreTakenUp = (place : Where) (seen : Seen) (last at : ℕ) (tokens : List LineToken) (items : List SrcItem)
    → read_items place seen last 0 at tokens ≡ Ok items
    → (parts : List Taken) × TakesUp place seen last at parts tokens × (flat_map (λ (taken : Taken). taken.items) parts ≡ items)
