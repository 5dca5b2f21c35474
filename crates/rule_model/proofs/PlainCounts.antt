-- An event keeps the numbers of current and saved values.
use Rattle.std.proofs.Common.{◌≡◌, ℕ, zero, suc, ◌+◌, Bool, true, false, List, [], ◌∷◌, length, map, Option, Some, None, refl, ◌∙◌, length-set}
use Rattle.std.specs.Prelude.{if◌then◌else◌, nat_le, slice_get, unwrap_or, filter_map}
use Rattle.kmn_base.specs.declared.items.Item.{Item}
use Rattle.kmn_base.specs.declared.items.Item.TheVariants as item
use Rattle.kmn_base.specs.declared.items.Element.{Element}
use Rattle.kmn_base.specs.declared.keys.KeyPress.{KeyPress}
use Rattle.kmn_base.specs.Lists.{put}
use Rattle.virtual_keys.specs.Fits.{char_of_press}
use Rattle.virtual_keys.specs.Dictionary.{name_chars, name_in}
use Rattle.rule_model.specs.declared.event_state.Caught.{Caught}
use Rattle.rule_model.specs.declared.event_state.EventState.{EventState}
use Rattle.rule_model.specs.Keyboard.{Ref, Output, PutChar, PutMark, PutIndex, PutContext, PutContextAt, PutStore, UseGroup, SetOption, SaveOption, ResetOption, MakeBeep, DoNothing, StopEvent, GroupMeaning, Keyboard}
use Rattle.rule_model.specs.Content.{elements_at, store_number}
use Rattle.rule_model.specs.Match.{item_of, item_caught}
use Rattle.rule_model.specs.Act.{put_item, put_items, item_list, items_caught, put_element, set_current, save_current, reset_current, act_one, act}
use Rattle.rule_model.specs.Choose.{Chosen}
use Rattle.rule_model.specs.Enter.{delete_or_pass, deletes_back, put_press, put_named, default_of, by_default, nothing, act_if_any, do_chosen, do_unmatched, do_group, in_group, enter_group}
use Rattle.rule_model.specs.KeyEvent.{after_key}

-- there are as many current and saved values as before
pub record SameCounts (s t : EventState) : Type 0 where
  pub current : length t.current ≡ length s.current
  pub saved : length t.saved ≡ length s.saved

same : (s : EventState) → SameCounts s s
same s = record { current = refl; saved = refl }

same_then : {s t u : EventState} → SameCounts s t → SameCounts t u → SameCounts s u
same_then a b = record { current = b.current ∙ a.current; saved = b.saved ∙ a.saved }

if_same : (b : Bool) (s t u : EventState) → SameCounts s t → SameCounts s u → SameCounts s (if b then t else u)
if_same true s t u a b = a
if_same false s t u a b = b

put_item-counts : (x : Item) (s : EventState) → SameCounts s (put_item x s)
put_item-counts x s =
    if_same s.stopped s s (if nat_le 4096 s.put then record s { stopped = true } else record s { left = put s.left x; put = s.put + 1 }) (same s)
    (if_same (nat_le 4096 s.put) s (record s { stopped = true }) (record s { left = put s.left x; put = s.put + 1 })
    (record { current = refl; saved = refl }) (record { current = refl; saved = refl }))

put_items-counts : (xs : List Item) (s : EventState) → SameCounts s (put_items xs s)
put_items-counts [] s = same s
put_items-counts (x ∷ xs) s = same_then (put_item-counts x s) (put_items-counts xs (put_item x s))

put_element-counts : (e : Option Element) (s : EventState) → SameCounts s (put_element e s)
put_element-counts None s = same s
put_element-counts (Some e) s = put_items-counts (item_list (item_of e)) s

set_current-counts : (option : Option ℕ) (value : List Element) (s : EventState) → SameCounts s (set_current option value s)
set_current-counts None value s = same s
set_current-counts (Some option) value s = record { current = length-set s.current option value; saved = refl }

save_current-counts : (option : Option ℕ) (s : EventState) → SameCounts s (save_current option s)
save_current-counts None s = same s
save_current-counts (Some option) s = record { current = refl; saved = length-set s.saved option (Some (unwrap_or (slice_get s.current option) [])) }

reset_current-counts : (option : Option ℕ) (stated : List Element) (s : EventState) → SameCounts s (reset_current option stated s)
reset_current-counts None stated s = same s
reset_current-counts (Some option) stated s = record { current = length-set s.current option _; saved = refl }

delete_or_pass-counts : (press : KeyPress) (s : EventState) → SameCounts s (delete_or_pass press s)
delete_or_pass-counts press s =
    if_same (deletes_back press s.left) s _ (record s { pass = true }) (record { current = refl; saved = refl }) (record { current = refl; saved = refl })

put_press-counts : (press : KeyPress) (c : Option ℕ) (s : EventState) → SameCounts s (put_press press c s)
put_press-counts press None s = delete_or_pass-counts press s
put_press-counts press (Some c) s = put_item-counts (item.Char c) s

put_named-counts : (chars : Option (List ℕ)) (s : EventState) → SameCounts s (put_named chars s)
put_named-counts None s = same s
put_named-counts (Some chars) s = put_items-counts (map item.Char chars) s

default_of-counts : (press : KeyPress) (name : Option (List ℕ)) (s : EventState) → SameCounts s (default_of press name s)
default_of-counts press None s = put_press-counts press (char_of_press press) s
default_of-counts press (Some name) s = put_named-counts (name_chars name) s

by_default-counts : (kb : Keyboard) (press : KeyPress) (s : EventState) → SameCounts s (by_default kb press s)
unfolding by_default
by_default-counts kb press s = default_of-counts press (name_in kb.dictionary press.code) s

-- if entering a group keeps the counts
module _ (kb : Keyboard) (press : KeyPress) (enter : Ref → EventState → EventState) (enter-counts : (g : Ref) (s : EventState) → SameCounts s (enter g s)) where
  act_one-counts : (caught : Caught) (o : Output) (s : EventState) → SameCounts s (act_one kb enter caught o s)
  act_one-counts caught (PutChar c) s = put_item-counts (item.Char c) s
  act_one-counts caught (PutMark m) s = put_item-counts (item.Mark m) s
  act_one-counts caught (PutIndex store offset) s = put_element-counts _ s
  act_one-counts caught PutContext s = put_items-counts (items_caught caught) s
  act_one-counts caught (PutContextAt offset) s = put_items-counts (item_list (item_caught caught.catches offset)) s
  act_one-counts caught (PutStore store) s = put_items-counts (filter_map item_of (elements_at kb.stores (store_number kb.stores store))) s
  act_one-counts caught (UseGroup group) s = if_same (nat_le 50 s.entered) s (record s { stopped = true }) (enter group s) (record { current = refl; saved = refl }) (enter-counts group s)
  act_one-counts caught (SetOption store value) s = set_current-counts _ value s
  act_one-counts caught (SaveOption store) s = save_current-counts _ s
  act_one-counts caught (ResetOption store) s = reset_current-counts _ _ s
  act_one-counts caught MakeBeep s = record { current = refl; saved = refl }
  act_one-counts caught DoNothing s = same s
  act_one-counts caught StopEvent s = record { current = refl; saved = refl }

  act-counts : (caught : Caught) (os : List Output) (s : EventState) → SameCounts s (act kb enter caught os s)
  act-counts caught [] s = same s
  act-counts caught (o ∷ os) s = same_then (if_same s.stopped s s (act_one kb enter caught o s) (same s) (act_one-counts caught o s)) (act-counts caught os _)

  act_if_any-counts : (os : Option (List Output)) (s : EventState) → SameCounts s (act_if_any kb enter os s)
  act_if_any-counts None s = same s
  act_if_any-counts (Some os) s = act-counts nothing os s

  do_unmatched-counts : (os : Option (List Output)) (using_keys : Bool) (s : EventState) → SameCounts s (do_unmatched kb enter press os using_keys s)
  do_unmatched-counts (Some os) using_keys s = act-counts nothing os s
  do_unmatched-counts None using_keys s = if_same using_keys s (by_default kb press s) s (by_default-counts kb press s) (same s)

  do_chosen-counts : (group : GroupMeaning) (chosen : Chosen) (s : EventState) → SameCounts s (do_chosen kb enter group chosen s)
  do_chosen-counts group chosen s =
      let acted = act-counts chosen.1 chosen.0.output (record s { left = _ }) in
      same_then (record { current = acted.current; saved = acted.saved }) (act_if_any-counts group.on_match _)

  do_group-counts : (group : GroupMeaning) (chosen : Option Chosen) (s : EventState) → SameCounts s (do_group kb enter press group chosen s)
  do_group-counts group None s = do_unmatched-counts group.on_nomatch group.using_keys s
  do_group-counts group (Some chosen) s = do_chosen-counts group chosen s

  in_group-counts : (group : Option GroupMeaning) (s : EventState) → SameCounts s (in_group kb enter press group s)
  in_group-counts None s = same s
  in_group-counts (Some group) s = do_group-counts group _ s

enter_group-counts : (depth : ℕ) (kb : Keyboard) (press : KeyPress) (g : Ref) (s : EventState) → SameCounts s (enter_group depth kb press g s)
enter_group-counts zero kb press g s = record { current = refl; saved = refl }
enter_group-counts (suc depth) kb press g s =
    let inside = in_group-counts kb press (enter_group depth kb press) (enter_group-counts depth kb press) _ (record s { entered = s.entered + 1 }) in
    record { current = inside.current; saved = inside.saved }

pub after_key-counts : (kb : Keyboard) (press : KeyPress) (s : EventState) → SameCounts s (after_key kb press s)
unfolding after_key
after_key-counts kb press s = enter_group-counts 50 kb press kb.start s
