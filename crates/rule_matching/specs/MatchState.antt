-- The state of a keyboard, and which of its records hold in it.
use Rattle.std.specs.Prelude.{◌≡◌, ◌≤◌, ℕ, Bool, List, length, map, All, Option, Some, None, is_some, option_map, option_and_then, slice_get}
use Rattle.std.specs.Option.{option_flatten}
use Rattle.kmn_base.specs.declared.limits.TheConstants.{CONTEXT_ITEMS}
use Rattle.kmn_base.specs.declared.items.Item.{Item}
use Rattle.kmn_base.specs.declared.items.Element.{Element}
use Rattle.kmn_base.specs.declared.keys.KeyPress.{KeyPress}
use Rattle.rule_model.specs.declared.tables.Group.{Group}
use Rattle.rule_model.specs.declared.tables.Rule.{Rule}
use Rattle.rule_model.specs.declared.tables.Tables.{Tables}
use Rattle.rule_model.specs.Content.{content, option_number}
use Rattle.rule_model.specs.Keyboard.{Numbered, Platform, RuleMeaning, StoreMeaning}
use Rattle.rule_model.specs.Match.{Content}
use Rattle.rule_model.specs.Hold.{holds}
use Rattle.rule_model.specs.Choose.{Chosen}
use Rattle.rule_model.specs.System.{has_words}
use Rattle.rule_model.specs.Tab.{tab, tab_rule}
use Rattle.option_store.specs.declared.options.Cell.{Cell}
use Rattle.option_store.specs.declared.options.Held.TheVariants.{Host}
use Rattle.option_store.specs.Cells.{cell_at}
use Rattle.rule_index.specs.Texts.{IsApart}

-- the tables of a keyboard with the current value of each option
pub record MatchStateValue : Type 0 where
  pub tables : Tables
  pub current : List (List Element)

-- the content of each store in a state
abbrev pub content_at : MatchStateValue → Content
content_at moment = content (tab moment.tables).stores moment.current

-- for each store, whether each word of its elements is a word of the platform in a state
abbrev pub truths_at : MatchStateValue → List Bool
truths_at moment = map (λ (store : StoreMeaning). has_words (content_at moment Platform) store.elements) (tab moment.tables).stores

-- the saved value of a store, or None if no value is saved or the store is not an option
abbrev pub saved_of : List StoreMeaning → List (Option (List Element)) → ℕ → Option (List Element)
saved_of stores saved store = option_and_then (λ option. option_flatten (slice_get saved option)) (option_number stores (Numbered store))

-- an optional record with what it catches, if it holds on a list
abbrev pub held_record : Content → List Item → KeyPress → Option RuleMeaning → Option Chosen
held_record content left press None = None
held_record content left press (Some rule) = option_map (λ caught. (rule, caught)) (holds content left press rule)

-- whether a record of a group holds on a list in a state
abbrev pub is_held : MatchStateValue → Group → List Item → KeyPress → Rule → Bool
is_held moment group left press rule = is_some (holds (content_at moment) left press (tab_rule moment.tables.stores group.using_keys rule))

-- no context has more items than can be caught
abbrev pub AreShort : List Rule → Type 0
AreShort rules = All (λ rule. length rule.context ≤ CONTEXT_ITEMS) rules

-- no store of the keyboard is defined with a text of the host that a cell holds as its current or its saved value
pub record AreApart (stores : List StoreMeaning) (cells : List Cell) : Type 0 where
  pub current : (n : ℕ) → (cell_at cells n).current ≡ Host → IsApart stores (cell_at cells n).text
  pub saved : (n : ℕ) → (cell_at cells n).saved ≡ Some Host → IsApart stores (cell_at cells n).text
