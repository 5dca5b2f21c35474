-- Tables whose groups are converted have the same traces if each converted group has the same name, the same options and the same
-- effect. For a conversion of rules it is enough that a converted rule holds with the same catches and has the same output.
use Rattle.std.proofs.Common.{◌≡◌, ℕ, zero, suc, ◌+◌, Bool, true, false, cond, List, [], ◌∷◌, ◌++◌, length, map, Option, None, Some, refl, sym, ◌∙◌, ap, if◌then◌else◌}
use Rattle.std.specs.Prelude.{◌||◌, not, nat_eq, nat_lt, slice_get, flat_map, option_and_then}
use Rattle.std.specs.List.{list_any, prefix_len, position}
use Rattle.std.proofs.lemmas.List.Folds.{list_any-append}
use Rattle.kmn_base.specs.declared.events.Event.{Event}
use Rattle.kmn_base.specs.declared.events.Event.TheVariants as event
use Rattle.kmn_base.specs.declared.items.Item.{Item}
use Rattle.kmn_base.specs.declared.keys.KeyPress.{KeyPress}
use Rattle.kmn_base.specs.declared.limits.TheConstants.{EVENT_ENTRIES}
use Rattle.kmn_base.specs.Lists.{without_last}
use Rattle.kmn_base.specs.Names.{same_name}
use Rattle.rule_model.specs.declared.event_state.EventState.{EventState}
use Rattle.rule_model.specs.declared.event_state.Caught.{Caught}
use Rattle.rule_model.specs.declared.tables.Rule.{Rule}
use Rattle.rule_model.specs.declared.tables.Store.{Store}
use Rattle.rule_model.specs.declared.tables.Group.{Group}
use Rattle.rule_model.specs.declared.tables.Tables.{Tables}
use Rattle.rule_model.specs.Keyboard.{Ref, Named, Numbered, Layer, Platform, Output, PutChar, PutMark, PutIndex, PutContext, PutContextAt, PutStore, UseGroup, SetOption, SaveOption, ResetOption, MakeBeep, DoNothing, StopEvent, StoreMeaning, GroupMeaning, RuleMeaning, Keyboard, First}
use Rattle.rule_model.specs.Content.{group_at}
use Rattle.rule_model.specs.Match.{Content}
use Rattle.rule_model.specs.Hold.{holds_with}
use Rattle.rule_model.specs.Act.{one_more, act_one, act, items_caught, content_now}
use Rattle.rule_model.specs.Choose.{Chosen, first, first_with}
use Rattle.rule_model.specs.Enter.{by_default, nothing, act_if_any, do_unmatched, do_group, chosen_in, in_group, enter_group}
use Rattle.rule_model.specs.KeyEvent.{begin_event, after_key}
use Rattle.rule_model.specs.Event.{State, happening_of, happening, event_refusal, unless_refused, event_of}
use Rattle.rule_model.specs.System.{system_options}
use Rattle.rule_model.specs.Tab.{tab, tab_rule, tab_output, tab_group, tab_options, tab_dictionary, output_options, rule_options, group_options, with_options}
use Rattle.rule_model.specs.Trace.{step_then, steps_from, first_state, trace_of, trace}
use Rattle.core_conversions.specs.Conversions.{with_groups}
use Rattle.core_conversions.specs.Laws.{PressesAreSame}

-- a keyboard without cased keys that chooses the first rule that holds
abbrev pub keyboard : Ref → List StoreMeaning → List (List ℕ) → List GroupMeaning → Keyboard
keyboard start stores dictionary groups =
    record { start = start; stores = stores; groups = groups; dictionary = dictionary; cased = []; choice = First }

-- ---- the effect of a group does not depend on the groups of the keyboard, except by how groups are entered

module _ (start : Ref) (stores : List StoreMeaning) (dictionary : List (List ℕ)) (gs hs : List GroupMeaning) (enter : Ref → EventState → EventState) where
  abbrev first_kb : Keyboard
  first_kb = keyboard start stores dictionary gs

  abbrev second_kb : Keyboard
  second_kb = keyboard start stores dictionary hs

  act_one_same : (caught : Caught) (o : Output) (s : EventState) → act_one first_kb enter caught o s ≡ act_one second_kb enter caught o s
  act_one_same caught (PutChar c) s = refl
  act_one_same caught (PutMark m) s = refl
  act_one_same caught (PutIndex store offset) s = refl
  act_one_same caught PutContext s = refl
  act_one_same caught (PutContextAt offset) s = refl
  act_one_same caught (PutStore store) s = refl
  act_one_same caught (UseGroup group) s = refl
  act_one_same caught (SetOption store value) s = refl
  act_one_same caught (SaveOption store) s = refl
  act_one_same caught (ResetOption store) s = refl
  act_one_same caught MakeBeep s = refl
  act_one_same caught DoNothing s = refl
  act_one_same caught StopEvent s = refl

  act_same : (caught : Caught) (outputs : List Output) (s : EventState) → act first_kb enter caught outputs s ≡ act second_kb enter caught outputs s
  act_same caught [] s = refl
  act_same caught (o ∷ os) s =
      ap (act first_kb enter caught os) (λ i. if s.stopped then s else act_one_same caught o s i)
      ∙ act_same caught os (if s.stopped then s else act_one second_kb enter caught o s)

  if_any_same : (outputs : Option (List Output)) (s : EventState) → act_if_any first_kb enter outputs s ≡ act_if_any second_kb enter outputs s
  if_any_same None s = refl
  if_any_same (Some outputs) s = act_same nothing outputs s

  default_same : (press : KeyPress) (s : EventState) → by_default first_kb press s ≡ by_default second_kb press s
  unfolding by_default
  default_same press s = refl

  unmatched_same : (press : KeyPress) (outputs : Option (List Output)) (using_keys : Bool) (s : EventState) → do_unmatched first_kb enter press outputs using_keys s ≡ do_unmatched second_kb enter press outputs using_keys s
  unmatched_same press None using_keys s = λ i. if using_keys then default_same press s i else s
  unmatched_same press (Some outputs) using_keys s = act_same nothing outputs s

  do_same : (press : KeyPress) (group : GroupMeaning) (chosen : Option Chosen) (s : EventState) → do_group first_kb enter press group chosen s ≡ do_group second_kb enter press group chosen s
  do_same press group None s = unmatched_same press group.on_nomatch group.using_keys s
  do_same press group (Some chosen) s =
      let removed : EventState = record s { left = without_last (length (items_caught chosen.1)) s.left } in
      ap (act_if_any first_kb enter group.on_match) (act_same chosen.1 chosen.0.output removed)
      ∙ if_any_same group.on_match (act second_kb enter chosen.1 chosen.0.output removed)

  in_same : (press : KeyPress) (group : Option GroupMeaning) (s : EventState) → in_group first_kb enter press group s ≡ in_group second_kb enter press group s
  in_same press None s = refl
  in_same press (Some group) s = do_same press group (chosen_in first_kb press group s) s

-- ---- conversions of groups

-- each converted group has the same name, the same options and the same effect
pub record GroupsAlike (convert : Group → Group) : Type 0 where
  pub name : (group : Group) → (convert group).name ≡ group.name
  pub options : (group : Group) (n : ℕ) → list_any (nat_eq n) (group_options (convert group)) ≡ list_any (nat_eq n) (group_options group)
  pub effect : (start : Ref) (stores : List StoreMeaning) (dictionary : List (List ℕ)) (groups : List GroupMeaning) (enter : Ref → EventState → EventState) (press : KeyPress) (shown : List Store) (group : Group) (s : EventState)
      → in_group (keyboard start stores dictionary groups) enter press (Some (tab_group shown (convert group))) s
      ≡ in_group (keyboard start stores dictionary groups) enter press (Some (tab_group shown group)) s

-- the options of a converted list are those of the list
pub any_same : {X : Type 0} (test : ℕ → Bool) (options : X → List ℕ) (convert : X → X) → ((x : X) → list_any test (options (convert x)) ≡ list_any test (options x))
    → (xs : List X) → list_any test (flat_map options (map convert xs)) ≡ list_any test (flat_map options xs)
any_same test options convert same [] = refl
any_same test options convert same (x ∷ xs) =
    list_any-append test (options (convert x)) (flat_map options (map convert xs))
    ∙ (λ i. same x i || any_same test options convert same xs i)
    ∙ sym (list_any-append test (options x) (flat_map options xs))

stores_same : (a b : List ℕ) → ((n : ℕ) → list_any (nat_eq n) a ≡ list_any (nat_eq n) b) → (n : ℕ) (stores : List Store) → with_options a n stores ≡ with_options b n stores
stores_same a b same n [] = refl
stores_same a b same n (store ∷ stores) =
    λ i. record { name = store.name; elements = store.elements; is_option = same n i; is_system = false } ∷ stores_same a b same (n + 1) stores i

module _ (convert : Group → Group) (alike : GroupsAlike convert) (start : Ref) (stores : List StoreMeaning) (dictionary : List (List ℕ)) (shown : List Store) where
  abbrev converted_groups : List Group → List GroupMeaning
  converted_groups groups = map (tab_group shown) (map convert groups)

  abbrev given_groups : List Group → List GroupMeaning
  given_groups groups = map (tab_group shown) groups

  -- the place of a group by its name
  before_same : (name : List ℕ) (groups : List Group) → prefix_len (λ (g : GroupMeaning). not (same_name g.name name)) (converted_groups groups) ≡ prefix_len (λ (g : GroupMeaning). not (same_name g.name name)) (given_groups groups)
  before_same name [] = refl
  before_same name (group ∷ groups) = λ i. cond (not (same_name (alike.name group i) name)) (1 + before_same name groups i) 0

  count_same : (groups : List Group) → length (converted_groups groups) ≡ length (given_groups groups)
  count_same [] = refl
  count_same (group ∷ groups) = ap suc (count_same groups)

  place_same : (name : List ℕ) (groups : List Group) → position (λ (g : GroupMeaning). same_name g.name name) (converted_groups groups) ≡ position (λ (g : GroupMeaning). same_name g.name name) (given_groups groups)
  place_same name groups = λ i. cond (nat_lt (before_same name groups i) (count_same groups i)) (Some (before_same name groups i)) None

  module _ (all : List GroupMeaning) (enter : Ref → EventState → EventState) (press : KeyPress) (s : EventState) where
    abbrev entered_in : Option GroupMeaning → EventState
    entered_in group = in_group (keyboard start stores dictionary all) enter press group s

    numbered_same : (groups : List Group) (n : ℕ) → entered_in (slice_get (converted_groups groups) n) ≡ entered_in (slice_get (given_groups groups) n)
    numbered_same [] n = refl
    numbered_same (group ∷ groups) zero = alike.effect start stores dictionary all enter press shown group s
    numbered_same (group ∷ groups) (suc n) = numbered_same groups n

    placed_same : (groups : List Group) (place : Option ℕ) → entered_in (option_and_then (slice_get (converted_groups groups)) place) ≡ entered_in (option_and_then (slice_get (given_groups groups)) place)
    placed_same groups None = refl
    placed_same groups (Some n) = numbered_same groups n

    reference_same : (groups : List Group) (ref : Ref) → entered_in (group_at (converted_groups groups) ref) ≡ entered_in (group_at (given_groups groups) ref)
    reference_same groups (Named name) =
        ap (λ place. entered_in (option_and_then (slice_get (converted_groups groups)) place)) (place_same name groups)
        ∙ placed_same groups (position (λ (g : GroupMeaning). same_name g.name name) (given_groups groups))
    reference_same groups (Numbered n) = numbered_same groups n
    reference_same groups Layer = refl
    reference_same groups Platform = refl

  module _ (groups : List Group) where
    abbrev converted_kb : Keyboard
    converted_kb = keyboard start stores dictionary (converted_groups groups)

    abbrev given_kb : Keyboard
    given_kb = keyboard start stores dictionary (given_groups groups)

    -- the same in a group, if entering a group has the same effect in both
    step_same : (first second : Ref → EventState → EventState) → first ≡ second → (press : KeyPress) (ref : Ref) (s : EventState)
        → in_group converted_kb first press (group_at (converted_groups groups) ref) s ≡ in_group given_kb second press (group_at (given_groups groups) ref) s
    step_same first second same press ref s =
        ap (λ (enter : Ref → EventState → EventState). in_group converted_kb enter press (group_at (converted_groups groups) ref) s) same
        ∙ in_same start stores dictionary (converted_groups groups) (given_groups groups) second press (group_at (converted_groups groups) ref) s
        ∙ reference_same (given_groups groups) second press s groups ref

    enter_same : (depth : ℕ) (press : KeyPress) → ◌≡◌ {A = Ref → EventState → EventState} (enter_group depth converted_kb press) (enter_group depth given_kb press)
    enter_same zero press = λ i. λ ref s. record s { stopped = true }
    enter_same (suc depth) press =
        λ i. λ ref s. step_same (enter_group depth converted_kb press) (enter_group depth given_kb press) (enter_same depth press) press ref (record s { entered = s.entered + 1 }) i

    after_same : (press : KeyPress) (s : EventState) → after_key converted_kb press s ≡ after_key given_kb press s
    unfolding after_key
    after_same press s = λ i. enter_same EVENT_ENTRIES press i start s

    happening_same : (state : State) (event : Event) → happening converted_kb state event ≡ happening given_kb state event
    unfolding happening
    happening_same state (event.Key press) = ap (λ s. happening_of press s state) (after_same press (begin_event state.left state.current state.saved))
    happening_same state event = refl

    event_same : (state : State) (event : Event) → event_of converted_kb state event ≡ event_of given_kb state event
    event_same state event = ap (unless_refused (event_refusal state event)) (happening_same state event)

    steps_same : (number : ℕ) (events : List Event) (state : State) → steps_from converted_kb number events state ≡ steps_from given_kb number events state
    steps_same number [] state = refl
    steps_same number (event ∷ events) state =
        λ i. step_then number (λ after. steps_same (one_more number) events after i) (event_same state event i)

    keyboards_same : (events : List Event) → trace converted_kb events ≡ trace given_kb events
    unfolding trace
    keyboards_same events = ap (trace_of (first_state given_kb)) (steps_same 1 events (first_state given_kb))

-- converted tables have the same traces
pub traces_same : (convert : Group → Group) → GroupsAlike convert → (tables : Tables) (events : List Event) → trace (tab (with_groups convert tables)) events ≡ trace (tab tables) events
unfolding tab tab_options
traces_same convert alike tables events =
    let options = any_same_options in
    (λ i. trace (keyboard (Numbered tables.start_unicode) (options i ++ system_options) (tab_dictionary tables.stores) (map (tab_group tables.stores) (map convert tables.groups))) events)
    ∙ keyboards_same convert alike (Numbered tables.start_unicode) (with_options (tab_options tables) 0 tables.stores ++ system_options) (tab_dictionary tables.stores) tables.stores tables.groups events
  where
    any_same_options : with_options (flat_map group_options (map convert tables.groups)) 0 tables.stores ≡ with_options (flat_map group_options tables.groups) 0 tables.stores
    any_same_options =
        stores_same (flat_map group_options (map convert tables.groups)) (flat_map group_options tables.groups)
        (λ n. any_same (nat_eq n) group_options convert (λ group. alike.options group n) tables.groups) 0 tables.stores

-- and the same first state, and each press has the same effect
pub presses_same : (convert : Group → Group) → GroupsAlike convert → (tables : Tables) → PressesAreSame (tab (with_groups convert tables)) (tab tables)
unfolding tab tab_options
presses_same convert alike tables =
    let options = any_same_options in
    record {
      first = λ i. first_state (keyboard (Numbered tables.start_unicode) (options i ++ system_options) (tab_dictionary tables.stores) (map (tab_group tables.stores) (map convert tables.groups)));
      each = λ press s.
          (λ i. after_key (keyboard (Numbered tables.start_unicode) (options i ++ system_options) (tab_dictionary tables.stores) (map (tab_group tables.stores) (map convert tables.groups))) press s)
          ∙ after_same convert alike (Numbered tables.start_unicode) (with_options (tab_options tables) 0 tables.stores ++ system_options) (tab_dictionary tables.stores) tables.stores tables.groups press s;
    }
  where
    any_same_options : with_options (flat_map group_options (map convert tables.groups)) 0 tables.stores ≡ with_options (flat_map group_options tables.groups) 0 tables.stores
    any_same_options =
        stores_same (flat_map group_options (map convert tables.groups)) (flat_map group_options tables.groups)
        (λ n. any_same (nat_eq n) group_options convert (λ group. alike.options group n) tables.groups) 0 tables.stores

-- ---- conversions of rules

-- each converted rule holds with the same catches, and has the same output and the same options
pub record RulesAlike (convert : Rule → Rule) : Type 0 where
  pub output : (rule : Rule) → (convert rule).output ≡ rule.output
  pub options : (rule : Rule) (n : ℕ) → list_any (nat_eq n) (rule_options (convert rule)) ≡ list_any (nat_eq n) (rule_options rule)
  pub holds : (shown : List Store) (using_keys : Bool) (content : Content) (left : List Item) (press : KeyPress) (rule : Rule)
      → holds_with [] content left press (tab_rule shown using_keys (convert rule)) ≡ holds_with [] content left press (tab_rule shown using_keys rule)

-- a group with each rule converted
abbrev pub with_rules : (Rule → Rule) → Group → Group
with_rules convert group = record group { rules = map convert group.rules }

module _ (convert : Rule → Rule) (alike : RulesAlike convert) (kb : Keyboard) (enter : Ref → EventState → EventState) (press : KeyPress) (shown : List Store) (using_keys : Bool) (group : GroupMeaning) (content : Content) (s : EventState) where
  abbrev held : RuleMeaning → Option Caught
  held = holds_with [] content s.left press

  abbrev after_choice : Option Chosen → EventState
  after_choice chosen = do_group kb enter press group chosen s

  with_same : (rule : Rule) (caught : Option Caught) (more others : Option Chosen) → after_choice more ≡ after_choice others
      → after_choice (first_with (tab_rule shown using_keys (convert rule)) caught more) ≡ after_choice (first_with (tab_rule shown using_keys rule) caught others)
  with_same rule None more others same = same
  with_same rule (Some caught) more others same =
      λ i. act_if_any kb enter group.on_match
      (act kb enter caught (map (tab_output shown) (alike.output rule i)) (record s { left = without_last (length (items_caught caught)) s.left }))

  choice_same : (rules : List Rule) → after_choice (first held (map (tab_rule shown using_keys) (map convert rules))) ≡ after_choice (first held (map (tab_rule shown using_keys) rules))
  choice_same [] = refl
  choice_same (rule ∷ rules) =
      ap (λ caught. after_choice (first_with (tab_rule shown using_keys (convert rule)) caught (first held (map (tab_rule shown using_keys) (map convert rules)))))
      (alike.holds shown using_keys content s.left press rule)
      ∙ with_same rule (held (tab_rule shown using_keys rule)) (first held (map (tab_rule shown using_keys) (map convert rules))) (first held (map (tab_rule shown using_keys) rules)) (choice_same rules)

same_group : (kb : Keyboard) (enter : Ref → EventState → EventState) (press : KeyPress) (shown : List Store) (convert : Rule → Rule) (group : Group) (chosen : Option Chosen) (s : EventState)
    → do_group kb enter press (tab_group shown (with_rules convert group)) chosen s ≡ do_group kb enter press (tab_group shown group) chosen s
same_group kb enter press shown convert group None s = refl
same_group kb enter press shown convert group (Some chosen) s = refl

-- the options of a group's match and nomatch outputs
abbrev group_outputs : Group → List ℕ
group_outputs group = flat_map output_options group.on_match ++ flat_map output_options group.on_nomatch

pub rules_alike : (convert : Rule → Rule) → RulesAlike convert → GroupsAlike (with_rules convert)
rules_alike convert alike =
    record {
      name = λ group. refl;
      options = λ group n.
          let others : List ℕ = group_outputs group in
          list_any-append (nat_eq n) (flat_map rule_options (map convert group.rules)) others
          ∙ ap (λ (b : Bool). b || list_any (nat_eq n) others) (any_same (nat_eq n) rule_options convert (λ rule. alike.options rule n) group.rules)
          ∙ sym (list_any-append (nat_eq n) (flat_map rule_options group.rules) others);
      effect = λ start stores dictionary groups enter press shown group s.
          let kb : Keyboard = keyboard start stores dictionary groups in
          same_group kb enter press shown convert group (chosen_in kb press (tab_group shown (with_rules convert group)) s) s
          ∙ choice_same convert alike kb enter press shown group.using_keys (tab_group shown group) (content_now kb s) s group.rules;
    }
