-- The effect of entering a group, and the default of a group if no rule holds.
use Rattle.std.specs.Prelude.{ℕ, zero, suc, ◌+◌, Bool, true, ◌&&◌, nat_eq, nat_lt, if◌then◌else◌, List, [], length, map, Option, Some, None}
use Rattle.std.specs.List.{suffix_len}
use Rattle.kmn_base.specs.declared.items.Item.{Item}
use Rattle.kmn_base.specs.declared.items.Item.TheVariants as item
use Rattle.kmn_base.specs.declared.keys.KeyPress.{KeyPress}
use Rattle.kmn_base.specs.Lists.{characters, is_mark, without_last}
use Rattle.virtual_keys.specs.Fits.{is_plain, char_of_press}
use Rattle.virtual_keys.specs.declared.codes.TheConstants.{K_BKSP}
use Rattle.virtual_keys.specs.Dictionary.{name_chars, name_in}
use Rattle.rule_model.specs.declared.event_state.Caught.{Caught}
use Rattle.rule_model.specs.declared.event_state.EventState.{EventState}
use Rattle.rule_model.specs.Keyboard.{Ref, Output, GroupMeaning, Keyboard}
use Rattle.rule_model.specs.Content.{group_at}
use Rattle.rule_model.specs.Hold.{holds_with}
use Rattle.rule_model.specs.Choose.{Chosen, choose}
use Rattle.rule_model.specs.Act.{put_item, put_items, items_caught, content_now, act}

-- the items without the marks at their end
abbrev pub without_end_marks : List Item → List Item
without_end_marks items = without_last (suffix_len is_mark items) items

-- the items without the last character, the marks after it and the marks before it
abbrev pub without_last_character : List Item → List Item
without_last_character items = without_end_marks (without_last 1 (without_end_marks items))

-- whether a press deletes back: K_BKSP without control and alt, after a character
abbrev pub deletes_back : KeyPress → List Item → Bool
deletes_back press left = nat_eq press.code K_BKSP && is_plain press && nat_lt 0 (length (characters left))

-- a press that produces no character deletes back, or is passed on
abbrev pub delete_or_pass : KeyPress → EventState → EventState
delete_or_pass press s =
    if deletes_back press s.left then record s { left = without_last_character s.left } else record s { pass = true }

-- a press that is not in the key dictionary puts the character that it produces
abbrev pub put_press : KeyPress → Option ℕ → EventState → EventState
put_press press None s = delete_or_pass press s
put_press press (Some c) s = put_item (item.Char c) s

-- a name of the form `U_` puts its characters; any other name has no effect
abbrev pub put_named : Option (List ℕ) → EventState → EventState
put_named None s = s
put_named (Some chars) s = put_items (map item.Char chars) s

-- the default of a group with keys, given the name of the press in the key dictionary
abbrev pub default_of : KeyPress → Option (List ℕ) → EventState → EventState
default_of press None s = put_press press (char_of_press press) s
default_of press (Some name) s = put_named (name_chars name) s

unfoldable pub by_default : Keyboard → KeyPress → EventState → EventState
by_default kb press s = default_of press (name_in kb.dictionary press.code) s

-- an output that may be absent, without catches
abbrev pub nothing : Caught
nothing = record { catches = []; key_place = None }

abbrev pub act_if_any : Keyboard → (Ref → EventState → EventState) → Option (List Output) → EventState → EventState
act_if_any kb enter None s = s
act_if_any kb enter (Some outputs) s = act kb enter nothing outputs s

-- the effect of a selected rule: removes its items, then its output acts, then the group's match output
abbrev pub do_chosen : Keyboard → (Ref → EventState → EventState) → GroupMeaning → Chosen → EventState → EventState
do_chosen kb enter group chosen s =
    act_if_any kb enter group.on_match
    (act kb enter chosen.1 chosen.0.output
    (record s { left = without_last (length (items_caught chosen.1)) s.left }))

-- if no rule holds, the nomatch output acts; if it is absent, a group with keys performs the default
abbrev pub do_unmatched : Keyboard → (Ref → EventState → EventState) → KeyPress → Option (List Output) → Bool → EventState → EventState
do_unmatched kb enter press (Some outputs) using_keys s = act kb enter nothing outputs s
do_unmatched kb enter press None using_keys s = if using_keys then by_default kb press s else s

abbrev pub do_group : Keyboard → (Ref → EventState → EventState) → KeyPress → GroupMeaning → Option Chosen → EventState → EventState
do_group kb enter press group None s = do_unmatched kb enter press group.on_nomatch group.using_keys s
do_group kb enter press group (Some chosen) s = do_chosen kb enter group chosen s

-- the rule that a group selects in a state
abbrev pub chosen_in : Keyboard → KeyPress → GroupMeaning → EventState → Option Chosen
chosen_in kb press group s = choose kb.choice (holds_with kb.cased (content_now kb s) s.left press) group.rules

abbrev pub in_group : Keyboard → (Ref → EventState → EventState) → KeyPress → Option GroupMeaning → EventState → EventState
in_group kb enter press None s = s
in_group kb enter press (Some group) s = do_group kb enter press group (chosen_in kb press group s) s

-- enters a group, if at most `depth` nested entries are allowed
abbrev pub enter_group : ℕ → Keyboard → KeyPress → Ref → EventState → EventState
enter_group zero kb press group s = record s { stopped = true }
enter_group (suc depth) kb press group s =
    in_group kb (enter_group depth kb press) press (group_at kb.groups group) (record s { entered = s.entered + 1 })
