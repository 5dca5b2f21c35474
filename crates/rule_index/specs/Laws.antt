-- A record that is not a candidate does not hold.
use Rattle.std.specs.Prelude.{◌≡◌, ◌≢◌, ◌<◌, ◌≤◌, ℕ, Bool, List, [], drop, length, map, slice_index_or, Some}
use Rattle.kmn_base.specs.declared.items.Item.{Item}
use Rattle.kmn_base.specs.declared.keys.KeyPress.{KeyPress}
use Rattle.rule_model.specs.declared.event_state.Caught.{Caught}
use Rattle.rule_model.specs.declared.tables.Rule.{Rule}
use Rattle.rule_model.specs.declared.tables.Store.{Store}
use Rattle.rule_model.specs.Keyboard.{RuleMeaning}
use Rattle.rule_model.specs.Match.{Content}
use Rattle.rule_model.specs.Hold.{holds}
use Rattle.rule_model.specs.Choose.{first}
use Rattle.rule_model.specs.Tab.{tab_rule}
use Rattle.rule_index.specs.Classes.{rule_class, matching_classes}

-- if a record holds, it has one of the classes that the key press and the left list can match
abbrev pub HoldingIsWanted : Type 0
HoldingIsWanted =
    (content : Content) (left : List Item) (press : KeyPress) (rule : RuleMeaning) (caught : Caught)
    → holds content left press rule ≡ Some caught
    → (j : ℕ) × (j < 6) × (rule_class rule ≡ slice_index_or (matching_classes press left) j 0)

-- the class of a record does not depend on the stores
abbrev pub ClassIsOfTheRecord : Type 0
ClassIsOfTheRecord = (stores : List Store) (using_keys : Bool) (rule : Rule) → rule_class (tab_rule [] using_keys rule) ≡ rule_class (tab_rule stores using_keys rule)

-- if no record between two numbers has a matching class, the first record that holds is the same from either number on
abbrev pub FirstIsCandidate : Type 0
FirstIsCandidate =
    (content : Content) (left : List Item) (press : KeyPress) (stores : List Store) (using_keys : Bool) (rules : List Rule) (from to : ℕ)
    → from ≤ to
    → ((n j : ℕ) → from ≤ n → n < to → n < length rules → j < 6
    → slice_index_or (map (λ rule. rule_class (tab_rule [] using_keys rule)) rules) n 0 ≢ slice_index_or (matching_classes press left) j 0)
    → first (holds content left press) (drop from (map (tab_rule stores using_keys) rules))
    ≡ first (holds content left press) (drop to (map (tab_rule stores using_keys) rules))
