-- If `saving_line` returns no line, no event saves twice.
use Rattle.std.proofs.Common.{◌≡◌, ℕ, ◌+◌, ◌≤◌, zero, suc, Bool, true, false, cond, if◌then◌else◌, ◌||◌, List, [], ◌∷◌, ◌++◌, length, map, filter, flat_map, replicate, Option, Some, None, refl, sym, ◌∙◌, ap, subst, arith}
use Rattle.std.specs.Prelude.{count_by, nat_le, slice_get, unwrap_or}
use Rattle.std.specs.List.{AllByRecursion, fold, list_any}
use Rattle.std.proofs.Common.{Ordering, Less, Equal, Greater}
use Rattle.std.specs.Ordering.{match_ordering, nat_cmp}
use Rattle.std.specs.BTreeSet.{insert_key}
use Rattle.std.proofs.lemmas.Bool.{ltb-false}
use Rattle.std.proofs.lemmas.List.Folds.{list_any-append}
use Rattle.std.proofs.lemmas.List.Sums.{sum_by-cons}
use Rattle.kmn_base.specs.declared.items.Item.{Item}
use Rattle.kmn_base.specs.declared.items.Item.TheVariants as item
use Rattle.kmn_base.specs.declared.items.Element.{Element}
use Rattle.kmn_base.specs.declared.keys.KeyPress.{KeyPress}
use Rattle.kmn_base.specs.declared.events.Event.{Event}
use Rattle.kmn_base.specs.declared.events.Event.TheVariants as event
use Rattle.kmn_base.specs.Lists.{put, without_last}
use Rattle.kmn_base.specs.Rising.{rising}
use Rattle.kmn_base.proofs.Elements.{append_empty}
use Rattle.virtual_keys.specs.Fits.{char_of_press}
use Rattle.virtual_keys.specs.Dictionary.{name_chars, name_in}
use Rattle.rule_model.specs.declared.event_state.Caught.{Caught}
use Rattle.rule_model.specs.declared.event_state.EventState.{EventState}
use Rattle.rule_model.specs.declared.tables.Out.{Out}
use Rattle.rule_model.specs.declared.tables.Out.TheVariants as output
use Rattle.rule_model.specs.declared.tables.Rule.{Rule}
use Rattle.rule_model.specs.declared.tables.Store.{Store}
use Rattle.rule_model.specs.declared.tables.Group.{Group}
use Rattle.rule_model.specs.declared.tables.Tables.{Tables}
use Rattle.rule_model.specs.Tab.{elements_of, tab_output, tab_rule, output_if_any, tab_group, tab}
use Rattle.rule_model.specs.Keyboard.{Ref, Numbered, RuleMeaning, GroupMeaning, Keyboard, Choice, First}
use Rattle.rule_model.specs.Content.{elements_at, store_number, option_number}
use Rattle.rule_model.specs.Match.{element_at, item_of, item_caught}
use Rattle.rule_model.specs.System.{system_ref}
use Rattle.rule_model.specs.Choose.{Chosen, first_with, first, choose}
use Rattle.rule_model.specs.Hold.{holds_with}
use Rattle.rule_model.specs.Act.{put_item, put_items, item_list, items_caught, put_element, set_current, save_current, reset_current, content_now, place_for_index, act_one, act}
use Rattle.rule_model.specs.Enter.{delete_or_pass, deletes_back, put_press, put_named, default_of, by_default, nothing, act_if_any, do_chosen, do_unmatched, do_group, chosen_in, in_group, enter_group}
use Rattle.rule_model.specs.KeyEvent.{begin_event, after_key}
use Rattle.rule_model.specs.Event.{State, happening}
use Rattle.rule_model.proofs.Steps.{trace_keeps}
use Rattle.compile_laws.proofs.Keyboards.{tab_groups, tab_start, tab_choice}
use Rattle.core_constructs.specs.Told.{line_of}
use Rattle.core_export.specs.Saves.{may_save, group_may_save, saving_groups, may_save_twice, rule_saves_twice, first_line, nomatch_lines, group_saving_lines, saving_line}
use Rattle.core_export.specs.Laws.{NoEventSavesTwice}
use Rattle.core_export.proofs.Counts.{count_append}

-- ---- operations that don't save

if_same : (b : Bool) (s t u : EventState) → t.saves ≡ s.saves → u.saves ≡ s.saves → (if b then t else u).saves ≡ s.saves
if_same true s t u a b = a
if_same false s t u a b = b

put_item_same : (x : Item) (s : EventState) → (put_item x s).saves ≡ s.saves
put_item_same x s =
    if_same s.stopped s s (if nat_le 4096 s.put then record s { stopped = true } else record s { left = put s.left x; put = s.put + 1 }) refl
    (if_same (nat_le 4096 s.put) s (record s { stopped = true }) (record s { left = put s.left x; put = s.put + 1 }) refl refl)

put_items_same : (xs : List Item) (s : EventState) → (put_items xs s).saves ≡ s.saves
put_items_same [] s = refl
put_items_same (x ∷ xs) s = put_items_same xs (put_item x s) ∙ put_item_same x s

put_element_same : (e : Option Element) (s : EventState) → (put_element e s).saves ≡ s.saves
put_element_same None s = refl
put_element_same (Some e) s = put_items_same (item_list (item_of e)) s

set_current_same : (option : Option ℕ) (value : List Element) (s : EventState) → (set_current option value s).saves ≡ s.saves
set_current_same None value s = refl
set_current_same (Some option) value s = refl

reset_current_same : (option : Option ℕ) (stated : List Element) (s : EventState) → (reset_current option stated s).saves ≡ s.saves
reset_current_same None stated s = refl
reset_current_same (Some option) stated s = refl

delete_or_pass_same : (press : KeyPress) (s : EventState) → (delete_or_pass press s).saves ≡ s.saves
delete_or_pass_same press s = if_same (deletes_back press s.left) s _ (record s { pass = true }) refl refl

put_press_same : (press : KeyPress) (c : Option ℕ) (s : EventState) → (put_press press c s).saves ≡ s.saves
put_press_same press None s = delete_or_pass_same press s
put_press_same press (Some c) s = put_item_same (item.Char c) s

put_named_same : (chars : Option (List ℕ)) (s : EventState) → (put_named chars s).saves ≡ s.saves
put_named_same None s = refl
put_named_same (Some chars) s = put_items_same (map item.Char chars) s

default_of_same : (press : KeyPress) (name : Option (List ℕ)) (s : EventState) → (default_of press name s).saves ≡ s.saves
default_of_same press None s = put_press_same press (char_of_press press) s
default_of_same press (Some name) s = put_named_same (name_chars name) s

by_default_same : (kb : Keyboard) (press : KeyPress) (s : EventState) → (by_default kb press s).saves ≡ s.saves
unfolding by_default
by_default_same kb press s = default_of_same press (name_in kb.dictionary press.code) s

-- ---- counts by flags

abbrev pub one : Bool → ℕ
one b = if b then 1 else 0

abbrev pub flag : List Bool → ℕ → Bool
flag groups g = unwrap_or (slice_get groups g) false

count_cons : {X : Type 0} (p : X → Bool) (x : X) (xs : List X) → count_by p (x ∷ xs) ≡ one (p x) + count_by p xs
count_cons p x xs = sum_by-cons (λ y. cond (p y) 1 0) x xs

one_small : (b : Bool) → one b ≤ 1
one_small true = omega arith
one_small false = omega arith

-- if no item passes the test, none is counted
none_counted : {X : Type 0} (p : X → Bool) (xs : List X) → list_any p xs ≡ false → count_by p xs ≡ 0
none_counted p [] h = refl
none_counted p (x ∷ xs) h = count_cons p x xs ∙ by (p x) (none_counted p xs) h
  where
    by : (b : Bool) → (list_any p xs ≡ false → count_by p xs ≡ 0) → (b || list_any p xs) ≡ false → one b + count_by p xs ≡ 0
    by true rest h = absurd (cc)
    by false rest h = let none : count_by p xs ≡ 0 = rest h in omega arith

-- if at most one item is counted, the count is at most 1, and 0 if no item passes the test
counted_by_one : {X : Type 0} (p : X → Bool) (xs : List X) → count_by p xs ≤ 1 → count_by p xs ≤ one (list_any p xs)
counted_by_one p xs few = by (list_any p xs) refl
  where
    by : (b : Bool) → list_any p xs ≡ b → count_by p xs ≤ one b
    by true is = few
    by false is = let none : count_by p xs ≡ 0 = none_counted p xs is in omega arith

or_left : (a b : Bool) → one a ≤ one (a || b)
or_left true b = omega arith
or_left false b = omega arith

or_right : (a b : Bool) → one b ≤ one (a || b)
or_right true b = one_small b
or_right false b = omega arith

or_grows : (a b c d : Bool) → one a ≤ one c → one b ≤ one d → one (a || b) ≤ one (c || d)
or_grows true b true d h k = omega arith
or_grows true b false d h k = absurd (omega arith)
or_grows false b true d h k = one_small b
or_grows false b false d h k = k

-- ---- at a greater depth, no fewer groups may save

abbrev Below : List Bool → List Bool → Type 0
Below few many = (g : ℕ) → one (flag few g) ≤ one (flag many g)

module _ (few many : List Bool) (below : Below few many) where
  item_grows : (o : Out) → one (may_save few o) ≤ one (may_save many o)
  item_grows (output.Enter g) = below g
  item_grows (output.Save s) = omega arith
  item_grows (output.Char c) = omega arith
  item_grows (output.Mark m) = omega arith
  item_grows (output.Index s offset) = omega arith
  item_grows output.Context = omega arith
  item_grows (output.ContextAt offset) = omega arith
  item_grows (output.Set s value) = omega arith
  item_grows (output.SetSystem s value) = omega arith
  item_grows (output.Reset s) = omega arith
  item_grows output.Nul = omega arith
  item_grows output.Beep = omega arith
  item_grows output.Stop = omega arith

  count_grows : (os : List Out) → count_by (may_save few) os ≤ count_by (may_save many) os
  count_grows [] = omega arith
  count_grows (o ∷ os) = omega (arith, item_grows o, count_grows os, count_cons (may_save few) o os, count_cons (may_save many) o os)

  any_grows : (os : List Out) → one (list_any (may_save few) os) ≤ one (list_any (may_save many) os)
  any_grows [] = omega arith
  any_grows (o ∷ os) = or_grows (may_save few o) (list_any (may_save few) os) (may_save many o) (list_any (may_save many) os) (item_grows o) (any_grows os)

  rules_grow : (rules : List Rule) → one (list_any (λ (rule : Rule). list_any (may_save few) rule.output) rules) ≤ one (list_any (λ (rule : Rule). list_any (may_save many) rule.output) rules)
  rules_grow [] = omega arith
  rules_grow (rule ∷ rules) = or_grows (list_any (may_save few) rule.output) _ (list_any (may_save many) rule.output) _ (any_grows rule.output) (rules_grow rules)

  group_grows : (group : Group) → one (group_may_save few group) ≤ one (group_may_save many group)
  group_grows group =
      or_grows _ (list_any (may_save few) group.on_nomatch) _ (list_any (may_save many) group.on_nomatch)
      (or_grows _ (list_any (may_save few) group.on_match) _ (list_any (may_save many) group.on_match) (rules_grow group.rules) (any_grows group.on_match))
      (any_grows group.on_nomatch)

  step_grows : (groups : List Group) → Below (map (group_may_save few) groups) (map (group_may_save many) groups)
  step_grows [] g = omega arith
  step_grows (group ∷ groups) zero = group_grows group
  step_grows (group ∷ groups) (suc g) = step_grows groups g

no_flag : (count : ℕ) (many : List Bool) → Below (replicate count false) many
no_flag zero many g = omega arith
no_flag (suc count) many zero = omega arith
no_flag (suc count) many (suc g) = omega (arith, no_flag count [] g)

grows : (groups : List Group) (depth : ℕ) → Below (saving_groups depth groups) (saving_groups (suc depth) groups)
grows groups zero = no_flag (length groups) (saving_groups 1 groups)
grows groups (suc depth) = step_grows (saving_groups depth groups) (saving_groups (suc depth) groups) (grows groups depth) groups

grow : (groups : List Group) (depth more : ℕ) → Below (saving_groups depth groups) (saving_groups (more + depth) groups)
grow groups depth zero g =
    let same : 0 + depth ≡ depth = omega arith in
    subst (λ n. one (flag (saving_groups depth groups) g) ≤ one (flag (saving_groups n groups) g)) (sym same) (omega arith)
grow groups depth (suc more) g =
    let same : suc more + depth ≡ suc (more + depth) = omega arith in
    let next : one (flag (saving_groups depth groups) g) ≤ one (flag (saving_groups (suc (more + depth)) groups) g) = omega (arith, grow groups depth more g, grows groups (more + depth) g) in
    subst (λ n. one (flag (saving_groups depth groups) g) ≤ one (flag (saving_groups n groups) g)) (sym same) next

-- ---- outputs that act together

-- at most one item of the outputs that act together may save
record IsOnce (saving : List Bool) (group : Group) : Type 0 where
  rules : AllByRecursion (λ (rule : Rule). count_by (may_save saving) (rule.output ++ group.on_match) ≤ 1) group.rules
  nomatch : count_by (may_save saving) group.on_nomatch ≤ 1

at_most : (b : Bool) (t u : EventState) (n : ℕ) → t.saves ≤ n → u.saves ≤ n → (if b then t else u).saves ≤ n
at_most true t u n a b = a
at_most false t u n a b = b

module _ (stores : List Store) (kb : Keyboard) (press : KeyPress) (saving : List Bool) (enter : Ref → EventState → EventState)
    (entering : (g : ℕ) (s : EventState) → (enter (Numbered g) s).saves ≤ s.saves + one (flag saving g)) where
  save_current_adds : (option : Option ℕ) (s : EventState) → (save_current option s).saves ≤ s.saves + 1
  save_current_adds None s = omega arith
  save_current_adds (Some option) s = omega arith

  act_one_adds : (caught : Caught) (o : Out) (s : EventState) → (act_one kb enter caught (tab_output stores o) s).saves ≤ s.saves + one (may_save saving o)
  act_one_adds caught (output.Char c) s = omega (arith, put_item_same (item.Char c) s)
  act_one_adds caught (output.Mark m) s = omega (arith, put_item_same (item.Mark m) s)
  act_one_adds caught (output.Index store offset) s = omega (arith, put_element_same (element_at (content_now kb s (Numbered store)) (place_for_index caught offset)) s)
  act_one_adds caught output.Context s = omega (arith, put_items_same (items_caught caught) s)
  act_one_adds caught (output.ContextAt offset) s = omega (arith, put_items_same (item_list (item_caught caught.catches offset)) s)
  act_one_adds caught (output.Enter g) s = at_most (nat_le 50 s.entered) (record s { stopped = true }) (enter (Numbered g) s) (s.saves + one (flag saving g)) (omega arith) (entering g s)
  act_one_adds caught (output.Set store value) s = omega (arith, set_current_same (option_number kb.stores (Numbered store)) (elements_of stores value) s)
  act_one_adds caught (output.SetSystem system value) s = omega (arith, set_current_same (option_number kb.stores (system_ref system)) (elements_of stores value) s)
  act_one_adds caught (output.Save store) s = save_current_adds (option_number kb.stores (Numbered store)) s
  act_one_adds caught (output.Reset store) s = omega (arith, reset_current_same (option_number kb.stores (Numbered store)) (elements_at kb.stores (store_number kb.stores (Numbered store))) s)
  act_one_adds caught output.Nul s = omega arith
  act_one_adds caught output.Beep s = omega arith
  act_one_adds caught output.Stop s = omega arith

  act_adds : (caught : Caught) (os : List Out) (s : EventState) → (act kb enter caught (map (tab_output stores) os) s).saves ≤ s.saves + count_by (may_save saving) os
  act_adds caught [] s = omega arith
  act_adds caught (o ∷ os) s =
      let next : EventState = if s.stopped then s else act_one kb enter caught (tab_output stores o) s in
      let first : next.saves ≤ s.saves + one (may_save saving o) = at_most s.stopped s (act_one kb enter caught (tab_output stores o) s) (s.saves + one (may_save saving o)) (omega arith) (act_one_adds caught o s) in
      omega (arith, first, act_adds caught os next, count_cons (may_save saving) o os)

  act_if_any_adds : (os : List Out) (s : EventState) → (act_if_any kb enter (output_if_any (map (tab_output stores) os)) s).saves ≤ s.saves + count_by (may_save saving) os
  act_if_any_adds [] s = omega arith
  act_if_any_adds (o ∷ os) s = act_adds nothing (o ∷ os) s

  do_unmatched_adds : (os : List Out) (using_keys : Bool) (s : EventState)
      → (do_unmatched kb enter press (output_if_any (map (tab_output stores) os)) using_keys s).saves ≤ s.saves + count_by (may_save saving) os
  do_unmatched_adds [] using_keys s = at_most using_keys (by_default kb press s) s (s.saves + 0) (omega (arith, by_default_same kb press s)) (omega arith)
  do_unmatched_adds (o ∷ os) using_keys s = act_adds nothing (o ∷ os) s

  do_chosen_adds : (group : Group) (rule : Rule) (caught : Caught) (s : EventState)
      → (do_chosen kb enter (tab_group stores group) (tab_rule stores group.using_keys rule, caught) s).saves ≤ s.saves + count_by (may_save saving) (rule.output ++ group.on_match)
  do_chosen_adds group rule caught s =
      let taken : EventState = record s { left = without_last (length (items_caught caught)) s.left } in
      let acted : EventState = act kb enter caught (map (tab_output stores) rule.output) taken in
      omega (arith, act_adds caught rule.output taken, act_if_any_adds group.on_match acted, count_append (may_save saving) rule.output group.on_match)

-- ---- a group

module _ (stores : List Store) (kb : Keyboard) (press : KeyPress) (saving : List Bool) (enter : Ref → EventState → EventState)
    (entering : (g : ℕ) (s : EventState) → (enter (Numbered g) s).saves ≤ s.saves + one (flag saving g)) where
  -- if a property is true for `None` and for each rule, it is true for the choice of the first rule that holds
  first_is : (holds : RuleMeaning → Option Caught) (using_keys : Bool) (P : Option Chosen → Type 0) → P None → (rules : List Rule)
      → AllByRecursion (λ (rule : Rule). (caught : Caught) → P (Some (tab_rule stores using_keys rule, caught))) rules → P (first holds (map (tab_rule stores using_keys) rules))
  first_is holds using_keys P none [] h = none
  first_is holds using_keys P none (rule ∷ rules) h = by (holds (tab_rule stores using_keys rule)) (first_is holds using_keys P none rules h.1)
    where
      by : (o : Option Caught) → P (first holds (map (tab_rule stores using_keys) rules)) → P (first_with (tab_rule stores using_keys rule) o (first holds (map (tab_rule stores using_keys) rules)))
      by None rest = rest
      by (Some caught) rest = h.0 caught

  or_within : (a b : Bool) (n : ℕ) → one a ≤ n → one b ≤ n → one (a || b) ≤ n
  or_within true b n h k = h
  or_within false b n h k = k

  -- if at most one item of an output and the match output after it may save, a bound of each output is a bound of their count
  rule_within : (group : Group) (rule : Rule) (n : ℕ) → count_by (may_save saving) (rule.output ++ group.on_match) ≤ 1 → one (list_any (may_save saving) rule.output) ≤ n
      → one (list_any (may_save saving) group.on_match) ≤ n → count_by (may_save saving) (rule.output ++ group.on_match) ≤ n
  rule_within group rule n few own matched =
      let within : one (list_any (may_save saving) rule.output || list_any (may_save saving) group.on_match) ≤ n = or_within _ _ n own matched in
      let parts : one (list_any (may_save saving) (rule.output ++ group.on_match)) ≡ one (list_any (may_save saving) rule.output || list_any (may_save saving) group.on_match)
      = ap one (list_any-append (may_save saving) rule.output group.on_match) in
      omega (arith, counted_by_one (may_save saving) (rule.output ++ group.on_match) few)

  rules_within : (group : Group) (s : EventState) (n : ℕ) → one (list_any (may_save saving) group.on_match) ≤ n → (rules : List Rule)
      → one (list_any (λ (rule : Rule). list_any (may_save saving) rule.output) rules) ≤ n
      → AllByRecursion (λ (rule : Rule). count_by (may_save saving) (rule.output ++ group.on_match) ≤ 1) rules
      → AllByRecursion (λ (rule : Rule). (caught : Caught) → (do_group kb enter press (tab_group stores group) (Some (tab_rule stores group.using_keys rule, caught)) s).saves ≤ s.saves + n) rules
  rules_within group s n matched [] any few = tt
  rules_within group s n matched (rule ∷ rules) any few =
      let own : one (list_any (may_save saving) rule.output) ≤ n
      = omega (arith, or_left (list_any (may_save saving) rule.output) (list_any (λ (rule : Rule). list_any (may_save saving) rule.output) rules)) in
      let others : one (list_any (λ (rule : Rule). list_any (may_save saving) rule.output) rules) ≤ n
      = omega (arith, or_right (list_any (may_save saving) rule.output) (list_any (λ (rule : Rule). list_any (may_save saving) rule.output) rules)) in (
        λ caught. omega (arith, rule_within group rule n few.0 own matched, do_chosen_adds stores kb press saving enter entering group rule caught s),
        rules_within group s n matched rules others few.1,
      )

  chosen_adds : kb.choice ≡ First → (group : Group) → IsOnce saving group → (s : EventState)
      → (do_group kb enter press (tab_group stores group) (chosen_in kb press (tab_group stores group) s) s).saves ≤ s.saves + one (group_may_save saving group)
  chosen_adds is_first group once s =
      let ruled : Bool = list_any (λ (rule : Rule). list_any (may_save saving) rule.output) group.rules in
      let matched : Bool = list_any (may_save saving) group.on_match in
      let unmatched : Bool = list_any (may_save saving) group.on_nomatch in
      let n : ℕ = one (group_may_save saving group) in
      let by_rules : one ruled ≤ n = omega (arith, or_left ruled matched, or_left (ruled || matched) unmatched) in
      let by_match : one matched ≤ n = omega (arith, or_right ruled matched, or_left (ruled || matched) unmatched) in
      let by_nomatch : one unmatched ≤ n = or_right (ruled || matched) unmatched in
      let none : (do_group kb enter press (tab_group stores group) None s).saves ≤ s.saves + n
      = omega (arith, do_unmatched_adds stores kb press saving enter entering group.on_nomatch group.using_keys s, counted_by_one (may_save saving) group.on_nomatch once.nomatch) in
      subst (λ (choice : Choice). (do_group kb enter press (tab_group stores group) (choose choice (holds_with kb.cased (content_now kb s) s.left press) (map (tab_rule stores group.using_keys) group.rules)) s).saves ≤ s.saves + n)
      (sym is_first)
      (first_is (holds_with kb.cased (content_now kb s) s.left press) group.using_keys (λ chosen. (do_group kb enter press (tab_group stores group) chosen s).saves ≤ s.saves + n) none group.rules
      (rules_within group s n by_match group.rules by_rules once.rules))

  in_groups_adds : kb.choice ≡ First → (groups : List Group) → AllByRecursion (IsOnce saving) groups → (g : ℕ) (s : EventState)
      → (in_group kb enter press (slice_get (map (tab_group stores) groups) g) s).saves ≤ s.saves + one (flag (map (group_may_save saving) groups) g)
  in_groups_adds is_first [] once g s = omega arith
  in_groups_adds is_first (group ∷ groups) once zero s = chosen_adds is_first group once.0 s
  in_groups_adds is_first (group ∷ groups) once (suc g) s = in_groups_adds is_first groups once.1 g s

-- ---- an event

rules_below : (few many : List Bool) → Below few many → (on_match : List Out) (rules : List Rule)
    → AllByRecursion (λ (rule : Rule). count_by (may_save many) (rule.output ++ on_match) ≤ 1) rules → AllByRecursion (λ (rule : Rule). count_by (may_save few) (rule.output ++ on_match) ≤ 1) rules
rules_below few many below on_match [] h = tt
rules_below few many below on_match (rule ∷ rules) h = (omega (arith, count_grows few many below (rule.output ++ on_match), h.0), rules_below few many below on_match rules h.1)

once_below : (few many : List Bool) → Below few many → (groups : List Group) → AllByRecursion (IsOnce many) groups → AllByRecursion (IsOnce few) groups
once_below few many below [] h = tt
once_below few many below (group ∷ groups) h = (
  record { rules = rules_below few many below group.on_match group.rules h.0.rules; nomatch = omega (arith, count_grows few many below group.on_nomatch, h.0.nomatch) },
  once_below few many below groups h.1,
)

module _ (tables : Tables) (once : AllByRecursion (IsOnce (saving_groups 50 tables.groups)) tables.groups) (press : KeyPress) where
  once_at : (depth more : ℕ) → more + depth ≡ 50 → AllByRecursion (IsOnce (saving_groups depth tables.groups)) tables.groups
  once_at depth more is =
      once_below (saving_groups depth tables.groups) (saving_groups 50 tables.groups)
      (subst (λ (n : ℕ). Below (saving_groups depth tables.groups) (saving_groups n tables.groups)) is (grow tables.groups depth more)) tables.groups once

  enter_adds : (depth more : ℕ) → more + depth ≡ 50 → (g : ℕ) (s : EventState)
      → (enter_group depth (tab tables) press (Numbered g) s).saves ≤ s.saves + one (flag (saving_groups depth tables.groups) g)
  enter_adds zero more is g s = omega arith
  enter_adds (suc depth) more is g s =
      let entered : EventState = record s { entered = s.entered + 1 } in
      let deeper : suc more + depth ≡ 50 = omega (arith, is) in
      let saving : List Bool = saving_groups depth tables.groups in
      subst (λ (groups : List GroupMeaning). (in_group (tab tables) (enter_group depth (tab tables) press) press (slice_get groups g) entered).saves ≤ s.saves + one (flag (map (group_may_save saving) tables.groups) g))
      (sym (tab_groups tables))
      (in_groups_adds tables.stores (tab tables) press saving (enter_group depth (tab tables) press) (enter_adds depth (suc more) deeper) (tab_choice tables) tables.groups
      (once_at depth (suc more) deeper) g entered)

  press_saves_once : (state : State) → (after_key (tab tables) press (begin_event state.left state.current state.saved)).saves ≤ 1
  unfolding after_key
  press_saves_once state =
      subst (λ (start : Ref). (enter_group 50 (tab tables) press start (begin_event state.left state.current state.saved)).saves ≤ 1) (sym (tab_start tables))
      (omega (arith, enter_adds 50 0 refl tables.start_unicode (begin_event state.left state.current state.saved), one_small (flag (saving_groups 50 tables.groups) tables.start_unicode)))

event_saves_once : (tables : Tables) → AllByRecursion (IsOnce (saving_groups 50 tables.groups)) tables.groups → (state : State) (happened : Event)
    → (happening (tab tables) state happened).outcome.saved ≤ 1
unfolding happening
event_saves_once tables once state (event.Key press) = press_saves_once tables once press state
event_saves_once tables once state (event.Setting name value) = omega arith
event_saves_once tables once state (event.Caret place) = omega arith
event_saves_once tables once state (event.Edit from to text) = omega arith

-- ---- if there is no line, at most one item of the outputs that act together may save

stays : (a : ℕ) (before lines : List ℕ) → slice_get (fold (insert_key nat_cmp) (a ∷ before) lines) 0 ≡ None → ⊥
stays a before [] h = cc
stays a before (line ∷ lines) h = by (nat_cmp line a) (stays line (a ∷ before) lines) (stays a before lines) (stays a (insert_key nat_cmp before line) lines) h
  where
    by : (o : Ordering) → (slice_get (fold (insert_key nat_cmp) (line ∷ a ∷ before) lines) 0 ≡ None → ⊥) → (slice_get (fold (insert_key nat_cmp) (a ∷ before) lines) 0 ≡ None → ⊥)
        → (slice_get (fold (insert_key nat_cmp) (a ∷ insert_key nat_cmp before line) lines) 0 ≡ None → ⊥)
        → slice_get (fold (insert_key nat_cmp) (match_ordering o (line ∷ a ∷ before) (a ∷ before) (a ∷ insert_key nat_cmp before line)) lines) 0 ≡ None → ⊥
    by Less f g h e = f e
    by Equal f g h e = g e
    by Greater f g h e = h e

rising_none : (lines : List ℕ) → slice_get (rising lines) 0 ≡ None → lines ≡ []
rising_none [] h = refl
rising_none (line ∷ lines) h = absurd (stays line [] lines h)

module _ (saving : List Bool) (group : Group) where
  rules_once : (rules : List Rule) → map line_of (filter (rule_saves_twice saving group) rules) ≡ []
      → AllByRecursion (λ (rule : Rule). count_by (may_save saving) (rule.output ++ group.on_match) ≤ 1) rules
  rules_once [] h = tt
  rules_once (rule ∷ rules) h = by (rule_saves_twice saving group rule) refl (rules_once rules) h
    where
      by : (b : Bool) → rule_saves_twice saving group rule ≡ b
          → (map line_of (filter (rule_saves_twice saving group) rules) ≡ [] → AllByRecursion (λ (rule : Rule). count_by (may_save saving) (rule.output ++ group.on_match) ≤ 1) rules)
          → map line_of (if b then rule ∷ filter (rule_saves_twice saving group) rules else filter (rule_saves_twice saving group) rules) ≡ []
          → AllByRecursion (λ (rule : Rule). count_by (may_save saving) (rule.output ++ group.on_match) ≤ 1) (rule ∷ rules)
      by true is rest h = absurd (cc)
      by false is rest h = (ltb-false 1 (count_by (may_save saving) (rule.output ++ group.on_match)) is, rest h)

  nomatch_once : nomatch_lines saving group ≡ [] → count_by (may_save saving) group.on_nomatch ≤ 1
  nomatch_once h = by (may_save_twice saving group.on_nomatch) refl h
    where
      by : (b : Bool) → may_save_twice saving group.on_nomatch ≡ b → (if b then first_line group.rules ∷ [] else []) ≡ [] → count_by (may_save saving) group.on_nomatch ≤ 1
      by true is h = absurd (cc)
      by false is h = ltb-false 1 (count_by (may_save saving) group.on_nomatch) is

groups_once : (saving : List Bool) (groups : List Group) → flat_map (group_saving_lines saving) groups ≡ [] → AllByRecursion (IsOnce saving) groups
groups_once saving [] h = tt
groups_once saving (group ∷ groups) h =
    let parts = append_empty (group_saving_lines saving group) (flat_map (group_saving_lines saving) groups) h in
    let lines = append_empty (map line_of (filter (rule_saves_twice saving group) group.rules)) (nomatch_lines saving group) parts.0 in
    (record { rules = rules_once saving group group.rules lines.0; nomatch = nomatch_once saving group lines.1 }, groups_once saving groups parts.1)

tables_once : (tables : Tables) → saving_line tables ≡ None → AllByRecursion (IsOnce (saving_groups 50 tables.groups)) tables.groups
unfolding saving_line
tables_once tables h = groups_once (saving_groups 50 tables.groups) tables.groups (rising_none (flat_map (group_saving_lines (saving_groups 50 tables.groups)) tables.groups) h)

pub no_event_saves_twice : NoEventSavesTwice
no_event_saves_twice tables none events =
    trace_keeps (λ _. Unit {0}) (λ happened. happened.outcome.saved ≤ 1) (tab tables)
    (λ state happened _ _. (event_saves_once tables (tables_once tables none) state happened, tt)) tt events
