-- If each action in a key event keeps a fact, the event keeps it.
use Rattle.std.proofs.Common.{ℕ, ◌<◌, ◌+◌, zero, suc, Bool, true, cond, List, [], ◌∷◌, length, map, leb, Option, Some, None}
use Rattle.std.specs.Prelude.{slice_set, slice_get, unwrap_or}
use Rattle.std.specs.List.{filter_map, suffix_len}
use Rattle.std.proofs.lemmas.Bool.{cond_both, leb-false}
use Rattle.kmn_base.specs.declared.items.Item.{Item}
use Rattle.kmn_base.specs.declared.items.Item.TheVariants as item
use Rattle.kmn_base.specs.declared.items.Element.{Element}
use Rattle.kmn_base.specs.declared.keys.KeyPress.{KeyPress}
use Rattle.kmn_base.specs.Lists.{is_mark, without_last}
use Rattle.virtual_keys.specs.Fits.{char_of_press}
use Rattle.virtual_keys.specs.Dictionary.{name_chars, name_in}
use Rattle.rule_model.specs.declared.event_state.Caught.{Caught}
use Rattle.rule_model.specs.declared.event_state.EventState.{EventState}
use Rattle.rule_model.specs.Keyboard.{Ref, Output, PutChar, PutMark, PutIndex, PutContext, PutContextAt, PutStore, UseGroup, SetOption, SaveOption, ResetOption, MakeBeep, DoNothing, StopEvent, GroupMeaning, Keyboard}
use Rattle.rule_model.specs.Content.{elements_at, store_number, option_number, group_at}
use Rattle.rule_model.specs.Match.{element_at, item_of, item_caught}
use Rattle.rule_model.specs.Choose.{Chosen}
use Rattle.rule_model.specs.Act.{one_more, put_item, put_items, put_element, item_list, items_caught, content_now, place_for_index, set_current, save_current, value_to_reset, reset_current, enter_if_allowed, act_one, act}
use Rattle.rule_model.specs.KeyEvent.{after_key}
use Rattle.rule_model.specs.Enter.{delete_or_pass, deletes_back, without_end_marks, without_last_character, put_press, put_named, default_of, by_default, nothing, act_if_any, do_chosen, do_unmatched, do_group, chosen_in, in_group, enter_group}

-- each action in an event keeps a fact about its state
pub record IsKept (P : EventState → Type 0) : Type 0 where
  pub puts : (x : Item) (s : EventState) → P s → P (put_item x s)
  pub takes : (n : ℕ) (s : EventState) → P s → P (record s { left = without_last n s.left })
  pub stops : (s : EventState) → P s → P (record s { stopped = true })
  pub passes : (s : EventState) → P s → P (record s { pass = true })
  pub beeps : (s : EventState) → P s → P (record s { beeps = one_more s.beeps })
  pub sets : (values : List (List Element)) (s : EventState) → P s → P (record s { current = values })
  pub saves : (values : List (Option (List Element))) (s : EventState) → P s → P (record s { saved = values; saves = one_more s.saves })
  pub enters : (s : EventState) → s.entered < 50 → P s → P (record s { entered = s.entered + 1 })

-- entering a group keeps a fact if fewer than 50 groups were entered
abbrev pub EnteringKeeps : (EventState → Type 0) → (Ref → EventState → EventState) → Type 0
EnteringKeeps P enter = (group : Ref) (s : EventState) → s.entered < 50 → P s → P (enter group s)

module _ (P : EventState → Type 0) (kept : IsKept P) where
  pub put_items_keeps : (xs : List Item) (s : EventState) → P s → P (put_items xs s)
  put_items_keeps [] s h = h
  put_items_keeps (x ∷ xs) s h = put_items_keeps xs (put_item x s) (kept.puts x s h)

  pub put_element_keeps : (e : Option Element) (s : EventState) → P s → P (put_element e s)
  put_element_keeps None s h = h
  put_element_keeps (Some e) s h = put_items_keeps (item_list (item_of e)) s h

  set_current_keeps : (option : Option ℕ) (value : List Element) (s : EventState) → P s → P (set_current option value s)
  set_current_keeps None value s h = h
  set_current_keeps (Some option) value s h = kept.sets (slice_set s.current option value) s h

  save_current_keeps : (option : Option ℕ) (s : EventState) → P s → P (save_current option s)
  save_current_keeps None s h = h
  save_current_keeps (Some option) s h = kept.saves (slice_set s.saved option (Some (unwrap_or (slice_get s.current option) []))) s h

  reset_current_keeps : (option : Option ℕ) (stated : List Element) (s : EventState) → P s → P (reset_current option stated s)
  reset_current_keeps None stated s h = h
  reset_current_keeps (Some option) stated s h = kept.sets (slice_set s.current option (value_to_reset (slice_get s.saved option) stated)) s h

  take_character_keeps : (s : EventState) → P s → P (record s { left = without_last_character s.left })
  take_character_keeps s h =
      let unmarked : EventState = record s { left = without_end_marks s.left } in
      let taken : EventState = record unmarked { left = without_last 1 unmarked.left } in
      kept.takes (suffix_len is_mark taken.left) taken (kept.takes 1 unmarked (kept.takes (suffix_len is_mark s.left) s h))

  delete_or_pass_keeps : (press : KeyPress) (s : EventState) → P s → P (delete_or_pass press s)
  delete_or_pass_keeps press s h = cond_both (deletes_back press s.left) _ _ P (λ _. take_character_keeps s h) (λ _. kept.passes s h)

  put_press_keeps : (press : KeyPress) (char : Option ℕ) (s : EventState) → P s → P (put_press press char s)
  put_press_keeps press None s h = delete_or_pass_keeps press s h
  put_press_keeps press (Some c) s h = kept.puts (item.Char c) s h

  put_named_keeps : (chars : Option (List ℕ)) (s : EventState) → P s → P (put_named chars s)
  put_named_keeps None s h = h
  put_named_keeps (Some chars) s h = put_items_keeps (map item.Char chars) s h

  default_of_keeps : (press : KeyPress) (name : Option (List ℕ)) (s : EventState) → P s → P (default_of press name s)
  default_of_keeps press None s h = put_press_keeps press (char_of_press press) s h
  default_of_keeps press (Some name) s h = put_named_keeps (name_chars name) s h

  pub by_default_keeps : (kb : Keyboard) (press : KeyPress) (s : EventState) → P s → P (by_default kb press s)
  unfolding by_default
  by_default_keeps kb press s h = default_of_keeps press (name_in kb.dictionary press.code) s h

-- if entering a group keeps a fact, the actions in a group keep it
module _ (P : EventState → Type 0) (kept : IsKept P) (kb : Keyboard) (enter : Ref → EventState → EventState) (entering : EnteringKeeps P enter) where
  enter_if_allowed_keeps : (group : Ref) (s : EventState) → P s → P (enter_if_allowed enter group s)
  enter_if_allowed_keeps group s h = cond_both (leb 50 s.entered) _ _ P (λ _. kept.stops s h) (λ e. entering group s (leb-false 50 s.entered e) h)

  pub act_one_keeps : (caught : Caught) (output : Output) (s : EventState) → P s → P (act_one kb enter caught output s)
  act_one_keeps caught (PutChar c) s h = kept.puts (item.Char c) s h
  act_one_keeps caught (PutMark m) s h = kept.puts (item.Mark m) s h
  act_one_keeps caught (PutIndex store offset) s h = put_element_keeps P kept (element_at (content_now kb s store) (place_for_index caught offset)) s h
  act_one_keeps caught PutContext s h = put_items_keeps P kept (items_caught caught) s h
  act_one_keeps caught (PutContextAt offset) s h = put_items_keeps P kept (item_list (item_caught caught.catches offset)) s h
  act_one_keeps caught (PutStore store) s h = put_items_keeps P kept (filter_map item_of (elements_at kb.stores (store_number kb.stores store))) s h
  act_one_keeps caught (UseGroup group) s h = enter_if_allowed_keeps group s h
  act_one_keeps caught (SetOption store value) s h = set_current_keeps P kept (option_number kb.stores store) value s h
  act_one_keeps caught (SaveOption store) s h = save_current_keeps P kept (option_number kb.stores store) s h
  act_one_keeps caught (ResetOption store) s h = reset_current_keeps P kept (option_number kb.stores store) (elements_at kb.stores (store_number kb.stores store)) s h
  act_one_keeps caught MakeBeep s h = kept.beeps s h
  act_one_keeps caught DoNothing s h = h
  act_one_keeps caught StopEvent s h = kept.stops s h

  pub act_keeps : (caught : Caught) (outputs : List Output) (s : EventState) → P s → P (act kb enter caught outputs s)
  act_keeps caught [] s h = h
  act_keeps caught (output ∷ outputs) s h =
      act_keeps caught outputs (cond s.stopped s (act_one kb enter caught output s))
      (cond_both s.stopped _ _ P (λ _. h) (λ _. act_one_keeps caught output s h))

  act_if_any_keeps : (outputs : Option (List Output)) (s : EventState) → P s → P (act_if_any kb enter outputs s)
  act_if_any_keeps None s h = h
  act_if_any_keeps (Some outputs) s h = act_keeps nothing outputs s h

  do_unmatched_keeps : (press : KeyPress) (outputs : Option (List Output)) (using_keys : Bool) (s : EventState) → P s → P (do_unmatched kb enter press outputs using_keys s)
  do_unmatched_keeps press (Some outputs) using_keys s h = act_keeps nothing outputs s h
  do_unmatched_keeps press None using_keys s h = cond_both using_keys _ _ P (λ _. by_default_keeps P kept kb press s h) (λ _. h)

  do_chosen_keeps : (group : GroupMeaning) (chosen : Chosen) (s : EventState) → P s → P (do_chosen kb enter group chosen s)
  do_chosen_keeps group chosen s h =
      act_if_any_keeps group.on_match _ (act_keeps chosen.1 chosen.0.output _ (kept.takes (length (items_caught chosen.1)) s h))

  pub do_group_keeps : (press : KeyPress) (group : GroupMeaning) (chosen : Option Chosen) (s : EventState) → P s → P (do_group kb enter press group chosen s)
  do_group_keeps press group None s h = do_unmatched_keeps press group.on_nomatch group.using_keys s h
  do_group_keeps press group (Some chosen) s h = do_chosen_keeps group chosen s h

  in_group_keeps : (press : KeyPress) (group : Option GroupMeaning) (s : EventState) → P s → P (in_group kb enter press group s)
  in_group_keeps press None s h = h
  in_group_keeps press (Some group) s h = do_group_keeps press group (chosen_in kb press group s) s h

-- entering a group keeps a fact, for each number of nested entries that are allowed
pub entered_keeps : (P : EventState → Type 0) → IsKept P → (kb : Keyboard) (press : KeyPress) (depth : ℕ) (group : Ref) (s : EventState)
    → P s → P (record s { entered = s.entered + 1 }) → P (enter_group depth kb press group s)
entered_keeps P kept kb press zero group s h entered = kept.stops s h
entered_keeps P kept kb press (suc depth) group s h entered =
    in_group_keeps P kept kb (enter_group depth kb press)
    (λ inner t few before. entered_keeps P kept kb press depth inner t before (kept.enters t few before)) press (group_at kb.groups group)
    (record s { entered = s.entered + 1 }) entered

-- a press keeps a fact
pub after_key_keeps : (P : EventState → Type 0) → IsKept P → (kb : Keyboard) (press : KeyPress) (s : EventState) → s.entered < 50 → P s → P (after_key kb press s)
unfolding after_key
after_key_keeps P kept kb press s few h = entered_keeps P kept kb press 50 kb.start s h (kept.enters s few h)
