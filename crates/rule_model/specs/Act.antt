-- The effect of the items of an output.
use Rattle.std.specs.Prelude.{ℕ, ◌+◌, ◌-◌, ◌^◌, min, true, nat_le, if◌then◌else◌, List, [], ◌∷◌, Option, Some, None, slice_get, slice_set, unwrap_or, filter_map, nat_eq, length}
use Rattle.kmn_base.specs.declared.items.Item.{Item}
use Rattle.kmn_base.specs.declared.items.Item.TheVariants as item
use Rattle.kmn_base.specs.declared.items.Element.{Element}
use Rattle.kmn_base.specs.declared.limits.TheConstants.{EVENT_ENTRIES, EVENT_PUTS}
use Rattle.kmn_base.specs.Lists.{put}
use Rattle.rule_model.specs.declared.event_state.Catch.{Catch}
use Rattle.rule_model.specs.declared.event_state.Caught.{Caught}
use Rattle.rule_model.specs.declared.event_state.EventState.{EventState}
use Rattle.rule_model.specs.Keyboard.{Ref, Output, PutChar, PutMark, PutIndex, PutContext, PutContextAt, PutStore, UseGroup, SetOption, SaveOption, ResetOption, MakeBeep, DoNothing, StopEvent, Keyboard}
use Rattle.rule_model.specs.Content.{content, elements_at, store_number, option_number}
use Rattle.rule_model.specs.Match.{element_at, item_of, item_caught, place_caught}

-- a count increased by 1, which saturates at the maximum of 32 bits
abbrev pub one_more : ℕ → ℕ
one_more n = min (n + 1) (2 ^ 32 - 1)

-- puts an item, or ends the event if no more items may be put
abbrev pub put_item : Item → EventState → EventState
put_item x s =
    if s.stopped then s
    else if nat_le EVENT_PUTS s.put then record s { stopped = true }
    else record s { left = put s.left x; put = s.put + 1 }

-- puts the items that are present, in order
abbrev pub put_items : List Item → EventState → EventState
put_items [] s = s
put_items (x ∷ xs) s = put_items xs (put_item x s)

abbrev pub item_list : Option Item → List Item
item_list None = []
item_list (Some x) = x ∷ []

-- puts an element, unless it is absent or a virtual key
abbrev pub put_element : Option Element → EventState → EventState
put_element None s = s
put_element (Some e) s = put_items (item_list (item_of e)) s

-- the items that a rule matched
abbrev pub items_caught : Caught → List Item
items_caught caught = filter_map (λ (catch : Catch). catch.item) caught.catches

-- the content of each store in this state
abbrev pub content_now : Keyboard → EventState → Ref → List Element
content_now kb s = content kb.stores s.current

-- the position that an `index` uses: the key's position if the offset is one past the context, else the position that was caught
abbrev pub place_for_index : Caught → ℕ → Option ℕ
place_for_index caught offset =
    if nat_eq offset (length caught.catches + 1) then caught.key_place else place_caught caught.catches offset

-- changes the current or the saved value of an option; if there is no option, the state is unchanged
abbrev pub set_current : Option ℕ → List Element → EventState → EventState
set_current None value s = s
set_current (Some option) value s = record s { current = slice_set s.current option value }

abbrev pub save_current : Option ℕ → EventState → EventState
save_current None s = s
save_current (Some option) s =
    record s { saved = slice_set s.saved option (Some (unwrap_or (slice_get s.current option) [])); saves = one_more s.saves }

-- the value that `reset` restores: the saved value, else the keyboard's
abbrev pub value_to_reset : Option (Option (List Element)) → List Element → List Element
value_to_reset None stated = stated
value_to_reset (Some None) stated = stated
value_to_reset (Some (Some value)) stated = value

abbrev pub reset_current : Option ℕ → List Element → EventState → EventState
reset_current None stated s = s
reset_current (Some option) stated s =
    record s { current = slice_set s.current option (value_to_reset (slice_get s.saved option) stated) }

-- enters a group, or ends the event if no more groups may be entered
abbrev pub enter_if_allowed : (Ref → EventState → EventState) → Ref → EventState → EventState
enter_if_allowed enter group s = if nat_le EVENT_ENTRIES s.entered then record s { stopped = true } else enter group s

-- the effect of one item of an output, given how a group is entered and what the rule caught
abbrev pub act_one : Keyboard → (Ref → EventState → EventState) → Caught → Output → EventState → EventState
act_one kb enter caught (PutChar c) s = put_item (item.Char c) s
act_one kb enter caught (PutMark m) s = put_item (item.Mark m) s
act_one kb enter caught (PutIndex store offset) s = put_element (element_at (content_now kb s store) (place_for_index caught offset)) s
act_one kb enter caught PutContext s = put_items (items_caught caught) s
act_one kb enter caught (PutContextAt offset) s = put_items (item_list (item_caught caught.catches offset)) s
act_one kb enter caught (PutStore store) s = put_items (filter_map item_of (elements_at kb.stores (store_number kb.stores store))) s
act_one kb enter caught (UseGroup group) s = enter_if_allowed enter group s
act_one kb enter caught (SetOption store value) s = set_current (option_number kb.stores store) value s
act_one kb enter caught (SaveOption store) s = save_current (option_number kb.stores store) s
act_one kb enter caught (ResetOption store) s = reset_current (option_number kb.stores store) (elements_at kb.stores (store_number kb.stores store)) s
act_one kb enter caught MakeBeep s = record s { beeps = one_more s.beeps }
act_one kb enter caught DoNothing s = s
act_one kb enter caught StopEvent s = record s { stopped = true }

-- the items of an output act in order; once the event is stopped, the remaining items have no effect
abbrev pub act : Keyboard → (Ref → EventState → EventState) → Caught → List Output → EventState → EventState
act kb enter caught [] s = s
act kb enter caught (output ∷ outputs) s = act kb enter caught outputs (if s.stopped then s else act_one kb enter caught output s)
