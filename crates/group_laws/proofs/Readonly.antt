-- The items that a rule matched are the last items of the text, and putting them again restores it.
use Rattle.std.proofs.Common.{◌≡◌, ℕ, ◌+◌, ◌-◌, ◌≤◌, Bool, true, false, ◌&&◌, List, [], ◌∷◌, ◌++◌, length, take, drop, leb, Option, Some, None, refl, sym, ◌∙◌, ap, subst, if◌then◌else◌, arith, length-append, length-drop, append_assoc, append-nil}
use Rattle.std.specs.Prelude.{nat_le}
use Rattle.std.specs.List.{list_all, filter_map}
use Rattle.std.proofs.lemmas.Bool.{and_parts, false≢true, cond-false}
use Rattle.std.proofs.lemmas.Bool.Decides.{nat_tests}
use Rattle.std.proofs.lemmas.List.Elements.{filter_map-append}
use Rattle.std.proofs.Math.Seq.{take-append_seam}
use Rattle.std.proofs.lemmas.Option.{none-some, same_Some}
use Rattle.kmn_base.specs.declared.items.Item.{Item}
use Rattle.kmn_base.specs.declared.items.Element.{Element}
use Rattle.kmn_base.specs.Lists.{without_last, window, IsSound, put}
use Rattle.kmn_base.proofs.Lists.{without_last-append-last, map-characters, taking_keeps_soundness}
use Rattle.rule_model.specs.declared.event_state.Catch.{Catch}
use Rattle.rule_model.specs.declared.event_state.Caught.{Caught}
use Rattle.rule_model.specs.declared.event_state.EventState.{EventState}
use Rattle.rule_model.specs.Keyboard.{Ref, Pattern, Output, PutChar, PutMark, PutIndex, PutContext, PutContextAt, PutStore, UseGroup, SetOption, SaveOption, ResetOption, MakeBeep, DoNothing, StopEvent, Keyboard}
use Rattle.rule_model.specs.Match.{Content, takes_item, matches, place_for, nothing_caught, catch_item, catches_from}
use Rattle.rule_model.specs.Hold.{is_true, has_room, pattern_count, caught_by, fitting_place_with}
use Rattle.rule_model.specs.Content.{option_number, elements_at, store_number}
use Rattle.rule_model.specs.Act.{put_item, put_items, items_caught, set_current, save_current, reset_current, act_one, act}
use Rattle.group_laws.specs.Readonly.{IsSuffix, CaughtItemsAreLast, puts_nothing, EnteringKeepsText, ContextGivesBack}

-- ---- what is caught

abbrev items_in : List Catch → List Item
items_in catches = filter_map (λ (catch : Catch). catch.item) catches

items_more : (seen : List Catch) (catch : Catch) → items_in (seen ++ catch ∷ []) ≡ items_in seen ++ items_in (catch ∷ [])
items_more seen catch = filter_map-append (λ (c : Catch). c.item) seen (catch ∷ [])

module _ (content : Content) where
  -- what a pattern catches of an item
  abbrev item_catch : Pattern → Item → Catch
  item_catch pattern x = record { item = Some x; place = place_for content pattern x }

  abbrev behind : List Catch → List Pattern → Catch → List Item → Option (List Catch)
  behind seen patterns catch more = catches_from content (seen ++ catch ∷ []) patterns more

  abbrev Caught_of : List Catch → List Pattern → Type 0
  Caught_of seen patterns = (text : List Item) (all : List Catch) → catches_from content seen patterns text ≡ Some all → items_in all ≡ items_in seen ++ text

  taken : (seen : List Catch) (pattern : Pattern) (patterns : List Pattern) → ((more : List Catch) → Caught_of more patterns) → (x : Item) (more : List Item) (all : List Catch) (fits : Bool)
      → (if fits then behind seen patterns (item_catch pattern x) more else None) ≡ Some all → items_in all ≡ items_in seen ++ (x ∷ more)
  taken seen pattern patterns rest x more all true e =
      rest (seen ++ item_catch pattern x ∷ []) more all e
      ∙ ap (λ (xs : List Item). xs ++ more) (items_more seen (item_catch pattern x))
      ∙ append_assoc (items_in seen) (x ∷ []) more
  taken seen pattern patterns rest x more all false e = absurd (none-some all e)

  next : (seen : List Catch) (pattern : Pattern) (patterns : List Pattern) → ((more : List Catch) → Caught_of more patterns) → (takes : Bool) (text : List Item) (all : List Catch)
      → (if takes then catch_item content seen pattern (behind seen patterns) text else behind seen patterns nothing_caught text) ≡ Some all → items_in all ≡ items_in seen ++ text
  next seen pattern patterns rest true [] all e = absurd (none-some all e)
  next seen pattern patterns rest true (x ∷ more) all e = taken seen pattern patterns rest x more all (matches content seen pattern x) e
  next seen pattern patterns rest false text all e =
      rest (seen ++ nothing_caught ∷ []) text all e
      ∙ ap (λ (xs : List Item). xs ++ text) (items_more seen nothing_caught ∙ append-nil (items_in seen))

  catches_items : (patterns : List Pattern) (seen : List Catch) → Caught_of seen patterns
  catches_items [] seen [] all e = ap items_in (sym (same_Some seen all e)) ∙ sym (append-nil (items_in seen))
  catches_items [] seen (x ∷ text) all e = absurd (none-some all e)
  catches_items (pattern ∷ patterns) seen text all e = next seen pattern patterns (catches_items patterns) (takes_item pattern) text all e

-- the last items, by how many there are
last_items : (items left : List Item) (from : ℕ) → from ≤ length left → items ≡ drop from left → IsSuffix items left
last_items items left from within e =
    let size : length items ≡ length left - from = ap length e ∙ length-drop from left in
    let place : length left - length items ≡ from = omega (arith, size, within) in
    record { few = omega (arith, size); last = ap (λ (n : ℕ). drop n left) place ∙ sym e }

caught_last : (catches : Option (List Catch)) (place : Option (Option ℕ)) (caught : Caught) (left : List Item) (from : ℕ)
    → ((all : List Catch) → catches ≡ Some all → items_in all ≡ drop from left) → from ≤ length left → caught_by catches place ≡ Some caught → IsSuffix (items_caught caught) left
caught_last None place caught left from h within e = absurd (none-some caught e)
caught_last (Some all) None caught left from h within e = absurd (none-some caught e)
caught_last (Some all) (Some place) caught left from h within e =
    let same : ◌≡◌ {A = Caught} (record { catches = all; key_place = place }) caught = same_Some _ caught e in
    subst (λ (c : Caught). IsSuffix (items_caught c) left) same (last_items (items_in all) left from within (h all refl))

held_last : (catches : Option (List Catch)) (place : Option (Option ℕ)) (caught : Caught) (left : List Item) (from : ℕ)
    → ((all : List Catch) → catches ≡ Some all → items_in all ≡ drop from left) → from ≤ length left → (stands : Bool) → (if stands then caught_by catches place else None) ≡ Some caught → IsSuffix (items_caught caught) left
held_last catches place caught left from h within true e = caught_last catches place caught left from h within e
held_last catches place caught left from h within false e = absurd (none-some caught e)

pub caught_items_are_last : CaughtItemsAreLast
caught_items_are_last cased content left press rule caught e =
    let from : ℕ = length left - pattern_count rule.context in
    held_last (catches_from content [] rule.context (drop from left)) (fitting_place_with cased content press rule.key) caught left from
    (λ all f. catches_items content rule.context [] (drop from left) all f) (omega arith)
    (list_all (is_true content) rule.context && has_room rule.context left) e

-- ---- what is put again

-- nothing is forgotten where the list is sound with the item
put_sound : (xs : List Item) (x : Item) → IsSound (xs ++ x ∷ []) → put xs x ≡ xs ++ x ∷ []
put_sound xs x h =
    ap (λ (front : List Item). front ++ window (xs ++ x ∷ [])) (map-characters (without_last 64 (xs ++ x ∷ [])) h)
    ∙ without_last-append-last 64 (xs ++ x ∷ [])

-- the front of a sound list is sound
front_sound : (xs ys : List Item) → IsSound (xs ++ ys) → IsSound xs
front_sound xs ys h =
    let size : length (xs ++ ys) - length ys ≡ length xs = omega (arith, length-append xs ys) in
    let front : without_last (length ys) (xs ++ ys) ≡ xs = ap (λ (n : ℕ). take n (xs ++ ys)) size ∙ take-append_seam xs ys in
    subst IsSound front (taking_keeps_soundness (length ys) (xs ++ ys) h)

put_again : (items : List Item) (xs : List Item) (s : EventState) → s.left ≡ xs → s.stopped ≡ false → s.put + length items ≤ 4096 → IsSound (xs ++ items) → (put_items items s).left ≡ xs ++ items
put_again [] xs s is going room sound = is ∙ sym (append-nil xs)
put_again (x ∷ items) xs s is going room sound =
    let assoc : (xs ++ x ∷ []) ++ items ≡ xs ++ (x ∷ items) = append_assoc xs (x ∷ []) items in
    let whole : IsSound ((xs ++ x ∷ []) ++ items) = subst IsSound (sym assoc) sound in
    let one : put s.left x ≡ xs ++ x ∷ [] = ap (λ (l : List Item). put l x) is ∙ put_sound xs x (front_sound (xs ++ x ∷ []) items whole) in
    let few : leb 4096 s.put ≡ false = grind (arith, nat_tests) in
    let done : EventState = record s { left = put s.left x; put = s.put + 1 } in
    let here : put_item x s ≡ done = cond-false s.stopped _ _ going ∙ cond-false (leb 4096 s.put) _ _ few in
    ap (λ (t : EventState). (put_items items t).left) here
    ∙ put_again items (xs ++ x ∷ []) done one going (omega arith) whole
    ∙ assoc

-- ---- outputs that are quiet

module _ (kb : Keyboard) (enter : Ref → EventState → EventState) (caught : Caught) (entering : EnteringKeepsText enter) where
  set_keeps : (option : Option ℕ) (value : List Element) (s : EventState) → (set_current option value s).left ≡ s.left
  set_keeps None value s = refl
  set_keeps (Some n) value s = refl

  save_keeps : (option : Option ℕ) (s : EventState) → (save_current option s).left ≡ s.left
  save_keeps None s = refl
  save_keeps (Some n) s = refl

  reset_keeps : (option : Option ℕ) (stated : List Element) (s : EventState) → (reset_current option stated s).left ≡ s.left
  reset_keeps None stated s = refl
  reset_keeps (Some n) stated s = refl

  item_keeps : (output : Output) → puts_nothing output ≡ true → (s : EventState) → (act_one kb enter caught output s).left ≡ s.left
  item_keeps (PutChar c) h s = absurd (false≢true h)
  item_keeps (PutMark m) h s = absurd (false≢true h)
  item_keeps (PutIndex store offset) h s = absurd (false≢true h)
  item_keeps PutContext h s = absurd (false≢true h)
  item_keeps (PutContextAt offset) h s = absurd (false≢true h)
  item_keeps (PutStore store) h s = absurd (false≢true h)
  item_keeps (UseGroup group) h s =
      elim (nat_le 50 s.entered) as (λ (b : Bool). (if b then record s { stopped = true } else enter group s).left ≡ s.left) [ true ↦ refl | false ↦ entering group s ]
  item_keeps (SetOption store value) h s = set_keeps (option_number kb.stores store) value s
  item_keeps (SaveOption store) h s = save_keeps (option_number kb.stores store) s
  item_keeps (ResetOption store) h s = reset_keeps (option_number kb.stores store) (elements_at kb.stores (store_number kb.stores store)) s
  item_keeps MakeBeep h s = refl
  item_keeps DoNothing h s = refl
  item_keeps StopEvent h s = refl

  outputs_keep : (outputs : List Output) → list_all puts_nothing outputs ≡ true → (s : EventState) → (act kb enter caught outputs s).left ≡ s.left
  outputs_keep [] h s = refl
  outputs_keep (output ∷ outputs) h s =
      let parts = and_parts (puts_nothing output) (list_all puts_nothing outputs) h in
      outputs_keep outputs parts.1 (if s.stopped then s else act_one kb enter caught output s)
      ∙ elim s.stopped as (λ (b : Bool). (if b then s else act_one kb enter caught output s).left ≡ s.left) [ true ↦ refl | false ↦ item_keeps output parts.0 s ]

pub context_gives_back : ContextGivesBack
context_gives_back kb enter caught outputs s entering quiet last sound going room =
    let items : List Item = items_caught caught in
    let front : List Item = without_last (length items) s.left in
    let taken : EventState = record s { left = front } in
    let whole : front ++ items ≡ s.left = ap (λ (xs : List Item). front ++ xs) (sym last.last) ∙ without_last-append-last (length items) s.left in
    outputs_keep kb enter caught entering outputs quiet (if s.stopped then taken else put_items items taken)
    ∙ ap (λ (t : EventState). t.left) (cond-false s.stopped taken (put_items items taken) going)
    ∙ put_again items front taken refl going room (subst IsSound (sym whole) sound)
    ∙ whole
