-- A rule that puts again what it matched does not change the text.
use Rattle.std.specs.Prelude.{◌≡◌, ℕ, ◌+◌, ◌-◌, ◌≤◌, Bool, true, false, List, ◌∷◌, length, drop, Some}
use Rattle.std.specs.List.{list_all}
use Rattle.kmn_base.specs.declared.items.Item.{Item}
use Rattle.kmn_base.specs.declared.keys.KeyPress.{KeyPress}
use Rattle.kmn_base.specs.declared.limits.TheConstants.{EVENT_PUTS}
use Rattle.kmn_base.specs.Lists.{without_last, IsSound}
use Rattle.rule_model.specs.declared.event_state.Caught.{Caught}
use Rattle.rule_model.specs.declared.event_state.EventState.{EventState}
use Rattle.rule_model.specs.Keyboard.{Ref, Output, PutContext, SetOption, SaveOption, ResetOption, UseGroup, MakeBeep, DoNothing, StopEvent, RuleMeaning, Keyboard}
use Rattle.rule_model.specs.Match.{Content}
use Rattle.rule_model.specs.Hold.{holds_with}
use Rattle.rule_model.specs.Act.{items_caught, act}

-- items are the last items of a text
pub record IsSuffix (items left : List Item) : Type 0 where
  pub few : length items ≤ length left
  pub last : drop (length left - length items) left ≡ items

-- the items that a rule matched are the last items of the text
abbrev pub CaughtItemsAreLast : Type 0
CaughtItemsAreLast =
    (cased : List ℕ) (content : Content) (left : List Item) (press : KeyPress) (rule : RuleMeaning) (caught : Caught)
    → holds_with cased content left press rule ≡ Some caught → IsSuffix (items_caught caught) left

-- whether an item of an output puts nothing, if the groups that it enters put nothing
abbrev pub puts_nothing : Output → Bool
puts_nothing (SetOption store value) = true
puts_nothing (SaveOption store) = true
puts_nothing (ResetOption store) = true
puts_nothing (UseGroup group) = true
puts_nothing MakeBeep = true
puts_nothing DoNothing = true
puts_nothing StopEvent = true
puts_nothing output = false

-- entering a group does not change the text
abbrev pub EnteringKeepsText : (Ref → EventState → EventState) → Type 0
EnteringKeepsText enter = (group : Ref) (s : EventState) → (enter group s).left ≡ s.left

-- an output of `context` and items that put nothing restores the text, if the event may still put as many items
abbrev pub ContextGivesBack : Type 0
ContextGivesBack =
    (kb : Keyboard) (enter : Ref → EventState → EventState) (caught : Caught) (outputs : List Output) (s : EventState)
    → EnteringKeepsText enter → list_all puts_nothing outputs ≡ true → IsSuffix (items_caught caught) s.left → IsSound s.left → s.stopped ≡ false
    → s.put + length (items_caught caught) ≤ EVENT_PUTS
    → (act kb enter caught (PutContext ∷ outputs) (record s { left = without_last (length (items_caught caught)) s.left })).left ≡ s.left
