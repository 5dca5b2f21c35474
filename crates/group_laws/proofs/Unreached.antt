-- Groups that no start group reaches are never entered, so removing them changes no step.
use Rattle.std.proofs.Common.{◌≡◌, ℕ, zero, suc, ◌+◌, Bool, true, false, not, cond, ◌&&◌, List, [], ◌∷◌, length, map, Option, Some, None, refl, sym, ◌∙◌, ap, subst, if◌then◌else◌}
use Rattle.std.specs.Prelude.{filter, find, slice_get, position, option_map, option_and_then, ◌||◌, nat_le}
use Rattle.std.specs.List.{list_all}
use Rattle.std.proofs.lemmas.Bool.{and_parts, false≢true}
use Rattle.kmn_base.specs.declared.events.Event.{Event}
use Rattle.kmn_base.specs.declared.events.Event.TheVariants as event
use Rattle.kmn_base.specs.declared.keys.KeyPress.{KeyPress}
use Rattle.kmn_base.specs.declared.limits.TheConstants.{EVENT_ENTRIES}
use Rattle.kmn_base.specs.Lists.{without_last}
use Rattle.kmn_base.specs.Names.{same_name}
use Rattle.rule_model.specs.declared.program.GroupDef.{GroupDef}
use Rattle.rule_model.specs.declared.program.Program.{Program}
use Rattle.rule_model.specs.declared.event_state.EventState.{EventState}
use Rattle.rule_model.specs.declared.event_state.Caught.{Caught}
use Rattle.rule_model.specs.Keyboard.{Ref, Named, Numbered, Layer, Platform, Output, PutChar, PutMark, PutIndex, PutContext, PutContextAt, PutStore, UseGroup, SetOption, SaveOption, ResetOption, MakeBeep, DoNothing, StopEvent, RuleMeaning, GroupMeaning, Keyboard, Choice, Best, First}
use Rattle.rule_model.specs.Content.{group_at}
use Rattle.rule_model.specs.Hold.{holds_with}
use Rattle.rule_model.specs.Act.{act, act_one, items_caught, content_now}
use Rattle.rule_model.specs.Choose.{Chosen, goes_before, better, first, first_with, best, best_with, choose}
use Rattle.rule_model.specs.Enter.{nothing, act_if_any, by_default, do_unmatched, do_group, chosen_in, in_group, enter_group}
use Rattle.rule_model.specs.KeyEvent.{begin_event, after_key}
use Rattle.rule_model.specs.Event.{State, happening_of, happening, event_refusal, unless_refused, event_of}
use Rattle.rule_model.specs.Trace.{step_then, trace, trace_of, steps_from, first_state}
use Rattle.rule_model.specs.Act.{one_more}
use Rattle.rule_model.specs.Naming.{SourceNames, names_of, stores_of, stores_onto}
use Rattle.rule_model.specs.Src.{src, src_group, cased_keys, codes_among, is_cased_keys}
use Rattle.rule_model.specs.Tab.{store_elements}
use Rattle.virtual_keys.proofs.NamePlaces.{position_cons}
use Rattle.group_laws.specs.Unreached.{Kept, stays, item_stays, output_stays, optional_stays, rule_stays, group_stays, is_closed_at, IsClosedUnderUse, with_kept, UnreachedGroupsAreSilent, program_with_kept, KeepsNumbers, UnreachedGroupsMayGo}

-- ---- the group that is found

-- the first of a list that passes
abbrev first_of : {X : Type 0} → (X → Bool) → List X → Option X
first_of p [] = None
first_of p (x ∷ xs) = if p x then Some x else first_of p xs

found_here : {X : Type 0} (here : Bool) (x : X) (xs : List X) (place : Option ℕ)
    → option_and_then (slice_get (x ∷ xs)) (cond here (Some 0) (option_map suc place)) ≡ (if here then Some x else option_and_then (slice_get xs) place)
found_here true x xs place = refl
found_here false x xs None = refl
found_here false x xs (Some n) = refl

found_is_first : {X : Type 0} (p : X → Bool) (xs : List X) → option_and_then (slice_get xs) (position p xs) ≡ first_of p xs
found_is_first p [] = refl
found_is_first p (x ∷ xs) =
    ap (option_and_then (slice_get (x ∷ xs))) (position_cons p x xs)
    ∙ found_here (p x) x xs (position p xs)
    ∙ ap (λ o. if p x then Some x else o) (found_is_first p xs)

module _ (kept : Kept) (caseless : (a b : List ℕ) → same_name a b ≡ true → kept a ≡ kept b) (name : List ℕ) (named : kept name ≡ true) where
  abbrev is_named : GroupMeaning → Bool
  is_named group = same_name group.name name

  abbrev kept_group : GroupMeaning → Bool
  kept_group group = kept group.name

  -- a group that goes doesn't have the name
  other_name : (group : GroupMeaning) (has : Bool) → is_named group ≡ has → kept group.name ≡ false → has ≡ false
  other_name group false e gone = refl
  other_name group true e gone = absurd (false≢true (sym gone ∙ (caseless group.name name e ∙ named)))

  kept_first : (groups : List GroupMeaning) → first_of is_named (filter kept_group groups) ≡ first_of is_named groups
  kept_first [] = refl
  kept_first (group ∷ groups) =
      elim (kept group.name) as (λ (b : Bool). kept group.name ≡ b → first_of is_named (if b then group ∷ filter kept_group groups else filter kept_group groups) ≡ (if is_named group then Some group else first_of is_named groups)) [
        | true ↦ λ e. ap (λ o. if is_named group then Some group else o) (kept_first groups)
        | false ↦ λ e. kept_first groups ∙ sym (ap (λ b. if b then Some group else first_of is_named groups) (other_name group (is_named group) refl e))
      ] refl

  -- what is found under the name among the groups that stay is what was found
  pub same_group : (groups : List GroupMeaning) → group_at (filter (λ (group : GroupMeaning). kept group.name) groups) (Named name) ≡ group_at groups (Named name)
  same_group groups = found_is_first is_named (filter kept_group groups) ∙ kept_first groups ∙ sym (found_is_first is_named groups)

  abbrev GroupStays : Option GroupMeaning → Type 0
  GroupStays None = Unit {0}
  GroupStays (Some group) = group_stays kept group ≡ true

  closed_here : (stays_there known : Bool) → (not known || stays_there) ≡ true → known ≡ true → stays_there ≡ true
  closed_here stays_there true h e = h
  closed_here stays_there false h e = absurd (false≢true e)

  first_stays : (groups : List GroupMeaning) → list_all (is_closed_at kept) groups ≡ true → GroupStays (first_of is_named groups)
  first_stays [] h = tt
  first_stays (group ∷ groups) h =
      let parts = and_parts (is_closed_at kept group) (list_all (is_closed_at kept) groups) h in
      elim (is_named group) as (λ (b : Bool). is_named group ≡ b → GroupStays (if b then Some group else first_of is_named groups)) [
        | true ↦ λ e. closed_here (group_stays kept group) (kept group.name) parts.0 (caseless group.name name e ∙ named)
        | false ↦ λ e. first_stays groups parts.1
      ] refl

  -- and it enters only groups that stay
  pub found_stays : (groups : List GroupMeaning) → list_all (is_closed_at kept) groups ≡ true → GroupStays (group_at groups (Named name))
  found_stays groups h = subst GroupStays (sym (found_is_first is_named groups)) (first_stays groups h)

-- ---- the rule that is chosen

module _ (kept : Kept) where
  abbrev ChosenStays : Option Chosen → Type 0
  ChosenStays None = Unit {0}
  ChosenStays (Some chosen) = rule_stays kept chosen.0 ≡ true

  first_with_stays : (rule : RuleMeaning) (caught : Option Caught) (others : Option Chosen) → rule_stays kept rule ≡ true → ChosenStays others → ChosenStays (first_with rule caught others)
  first_with_stays rule None others h more = more
  first_with_stays rule (Some caught) others h more = h

  better_stays : (chosen : Chosen) (others : Option Chosen) → rule_stays kept chosen.0 ≡ true → ChosenStays others → ChosenStays (better chosen others)
  better_stays chosen None h more = h
  better_stays chosen (Some other) h more = elim (goes_before other.0 chosen.0) as (λ (b : Bool). ChosenStays (if b then Some other else Some chosen)) [ true ↦ more | false ↦ h ]

  best_with_stays : (rule : RuleMeaning) (caught : Option Caught) (others : Option Chosen) → rule_stays kept rule ≡ true → ChosenStays others → ChosenStays (best_with rule caught others)
  best_with_stays rule None others h more = more
  best_with_stays rule (Some caught) others h more = better_stays (rule, caught) others h more

  first_chosen_stays : (holds : RuleMeaning → Option Caught) (rules : List RuleMeaning) → list_all (rule_stays kept) rules ≡ true → ChosenStays (first holds rules)
  first_chosen_stays holds [] h = tt
  first_chosen_stays holds (rule ∷ rules) h =
      let parts = and_parts (rule_stays kept rule) (list_all (rule_stays kept) rules) h in
      first_with_stays rule (holds rule) (first holds rules) parts.0 (first_chosen_stays holds rules parts.1)

  best_chosen_stays : (holds : RuleMeaning → Option Caught) (rules : List RuleMeaning) → list_all (rule_stays kept) rules ≡ true → ChosenStays (best holds rules)
  best_chosen_stays holds [] h = tt
  best_chosen_stays holds (rule ∷ rules) h =
      let parts = and_parts (rule_stays kept rule) (list_all (rule_stays kept) rules) h in
      best_with_stays rule (holds rule) (best holds rules) parts.0 (best_chosen_stays holds rules parts.1)

  chosen_stays : (choice : Choice) (holds : RuleMeaning → Option Caught) (rules : List RuleMeaning) → list_all (rule_stays kept) rules ≡ true → ChosenStays (choose choice holds rules)
  chosen_stays Best = best_chosen_stays
  chosen_stays First = first_chosen_stays

-- ---- what acts

module _ (kept : Kept) (kb : Keyboard) where
  -- entering a group that stays does the same
  abbrev SameEntry : (Ref → EventState → EventState) → (Ref → EventState → EventState) → Type 0
  SameEntry e f = (group : Ref) → stays kept group ≡ true → (s : EventState) → e group s ≡ f group s

  module _ (e f : Ref → EventState → EventState) (entry : SameEntry e f) where
    item_same : (caught : Caught) (output : Output) → item_stays kept output ≡ true → (s : EventState) → act_one (with_kept kept kb) e caught output s ≡ act_one kb f caught output s
    item_same caught (PutChar c) h s = refl
    item_same caught (PutMark m) h s = refl
    item_same caught (PutIndex store offset) h s = refl
    item_same caught PutContext h s = refl
    item_same caught (PutContextAt offset) h s = refl
    item_same caught (PutStore store) h s = refl
    item_same caught (UseGroup group) h s = ap (λ t. if nat_le EVENT_ENTRIES s.entered then record s { stopped = true } else t) (entry group h s)
    item_same caught (SetOption store value) h s = refl
    item_same caught (SaveOption store) h s = refl
    item_same caught (ResetOption store) h s = refl
    item_same caught MakeBeep h s = refl
    item_same caught DoNothing h s = refl
    item_same caught StopEvent h s = refl

    output_same : (caught : Caught) (outputs : List Output) → output_stays kept outputs ≡ true → (s : EventState) → act (with_kept kept kb) e caught outputs s ≡ act kb f caught outputs s
    output_same caught [] h s = refl
    output_same caught (output ∷ outputs) h s =
        let parts = and_parts (item_stays kept output) (output_stays kept outputs) h in
        output_same caught outputs parts.1 (if s.stopped then s else act_one (with_kept kept kb) e caught output s)
        ∙ ap (λ t. act kb f caught outputs (if s.stopped then s else t)) (item_same caught output parts.0 s)

    optional_same : (outputs : Option (List Output)) → optional_stays kept outputs ≡ true → (s : EventState) → act_if_any (with_kept kept kb) e outputs s ≡ act_if_any kb f outputs s
    optional_same None h s = refl
    optional_same (Some outputs) h s = output_same nothing outputs h s

    default_same : (press : KeyPress) (s : EventState) → by_default (with_kept kept kb) press s ≡ by_default kb press s
    unfolding by_default
    default_same press s = refl

    unmatched_same : (press : KeyPress) (outputs : Option (List Output)) (using_keys : Bool) → optional_stays kept outputs ≡ true → (s : EventState)
        → do_unmatched (with_kept kept kb) e press outputs using_keys s ≡ do_unmatched kb f press outputs using_keys s
    unmatched_same press (Some outputs) using_keys h s = output_same nothing outputs h s
    unmatched_same press None using_keys h s = ap (λ t. if using_keys then t else s) (default_same press s)

    do_same : (press : KeyPress) (group : GroupMeaning) (chosen : Option Chosen) → group_stays kept group ≡ true → ChosenStays kept chosen → (s : EventState)
        → do_group (with_kept kept kb) e press group chosen s ≡ do_group kb f press group chosen s
    do_same press group None h rule s =
        let outputs = (and_parts (list_all (rule_stays kept) group.rules) (optional_stays kept group.on_match && optional_stays kept group.on_nomatch) h).1 in
        unmatched_same press group.on_nomatch group.using_keys (and_parts (optional_stays kept group.on_match) (optional_stays kept group.on_nomatch) outputs).1 s
    do_same press group (Some chosen) h rule s =
        let outputs = (and_parts (list_all (rule_stays kept) group.rules) (optional_stays kept group.on_match && optional_stays kept group.on_nomatch) h).1 in
        let taken : EventState = record s { left = without_last (length (items_caught chosen.1)) s.left } in
        optional_same group.on_match (and_parts (optional_stays kept group.on_match) (optional_stays kept group.on_nomatch) outputs).0 (act (with_kept kept kb) e chosen.1 chosen.0.output taken)
        ∙ ap (act_if_any kb f group.on_match) (output_same chosen.1 chosen.0.output rule taken)

    in_same : (press : KeyPress) (group : Option GroupMeaning) → ((g : GroupMeaning) → group ≡ Some g → group_stays kept g ≡ true) → (s : EventState)
        → in_group (with_kept kept kb) e press group s ≡ in_group kb f press group s
    in_same press None h s = refl
    in_same press (Some group) h s =
        let here = h group refl in
        let rules = (and_parts (list_all (rule_stays kept) group.rules) (optional_stays kept group.on_match && optional_stays kept group.on_nomatch) here).0 in
        do_same press group (chosen_in kb press group s) here (chosen_stays kept kb.choice (holds_with kb.cased (content_now kb s) s.left press) group.rules rules) s

  module _ (closed : IsClosedUnderUse kept kb) where
    some_stays : (name : List ℕ) (named : kept name ≡ true) (found : Option GroupMeaning) → GroupStays kept closed.caseless name named found → (g : GroupMeaning) → found ≡ Some g → group_stays kept g ≡ true
    some_stays name named found h g e = subst (λ (o : Option GroupMeaning). GroupStays kept closed.caseless name named o) e h

    level_same : (n : ℕ) (press : KeyPress) → SameEntry (enter_group n (with_kept kept kb) press) (enter_group n kb press)
    level_same zero press group h s = refl
    level_same (suc n) press (Named name) h s =
        let more : EventState = record s { entered = s.entered + 1 } in
        ap (λ g. in_group (with_kept kept kb) (enter_group n (with_kept kept kb) press) press g more) (same_group kept closed.caseless name h kb.groups)
        ∙ in_same (enter_group n (with_kept kept kb) press) (enter_group n kb press) (level_same n press) press (group_at kb.groups (Named name))
        (some_stays name h (group_at kb.groups (Named name)) (found_stays kept closed.caseless name h kb.groups closed.groups)) more
    level_same (suc n) press (Numbered m) h s = absurd (false≢true h)
    level_same (suc n) press Layer h s = absurd (false≢true h)
    level_same (suc n) press Platform h s = absurd (false≢true h)

    key_same : (press : KeyPress) (s : EventState) → after_key (with_kept kept kb) press s ≡ after_key kb press s
    unfolding after_key
    key_same press s = level_same EVENT_ENTRIES press kb.start closed.start s

    happening_same : (state : State) (event : Event) → happening (with_kept kept kb) state event ≡ happening kb state event
    unfolding happening
    happening_same state (event.Key press) = ap (λ s. happening_of press s state) (key_same press (begin_event state.left state.current state.saved))
    happening_same state (event.Setting name value) = refl
    happening_same state (event.Caret place) = refl
    happening_same state (event.Edit from to text) = refl

    event_same : (state : State) (event : Event) → event_of (with_kept kept kb) state event ≡ event_of kb state event
    event_same state event = ap (unless_refused (event_refusal state event)) (happening_same state event)

    steps_same : (number : ℕ) (events : List Event) (state : State) → steps_from (with_kept kept kb) number events state ≡ steps_from kb number events state
    steps_same number [] state = refl
    steps_same number (event ∷ events) state =
        (λ i. step_then number (λ after. steps_same (one_more number) events after i) (event_same state event i))

    trace_same : (events : List Event) → trace (with_kept kept kb) events ≡ trace kb events
    unfolding trace
    trace_same events = ap (trace_of (first_state kb)) (steps_same 1 events (first_state kb))

pub unreached_groups_are_silent : UnreachedGroupsAreSilent
unreached_groups_are_silent kept kb closed events = trace_same kept kb closed events

-- ---- programs

-- a filtered list, mapped, is the mapped list filtered by what is mapped
filter_mapped : {X Y : Type 0} (p : X → Bool) (q : Y → Bool) (f : X → Y) → ((x : X) → q (f x) ≡ p x) → (xs : List X) → map f (filter p xs) ≡ filter q (map f xs)
filter_mapped p q f same [] = refl
filter_mapped p q f same (x ∷ xs) =
    elim (p x) as (λ (b : Bool). map f (if b then x ∷ filter p xs else filter p xs) ≡ (if b then f x ∷ filter q (map f xs) else filter q (map f xs))) [
      | true ↦ ap (λ ys. f x ∷ ys) (filter_mapped p q f same xs)
      | false ↦ filter_mapped p q f same xs
    ] ∙ ap (λ b. if b then f x ∷ filter q (map f xs) else filter q (map f xs)) (sym (same x))

-- the cased keys come of the stores, which come of the names and the store statements
cased_same : (kept : Kept) (program : Program) → KeepsNumbers kept program → cased_keys (program_with_kept kept program) ≡ cased_keys program
unfolding cased_keys stores_of
cased_same kept program keeps = ap (λ (names : SourceNames). codes_among (store_elements (find is_cased_keys (stores_onto names [] program.stores)))) keeps.names

-- the keyboard of the program without the groups is the program's without them
kept_meaning : (kept : Kept) (program : Program) → KeepsNumbers kept program → src (program_with_kept kept program) ≡ with_kept kept (src program)
unfolding src
kept_meaning kept program keeps = (λ i. record (src program) {
  stores = keeps.stores i;
  groups = (ap (λ (names : SourceNames). map (src_group names) (filter (λ (group : GroupDef). kept group.name) program.groups)) keeps.names
      ∙ filter_mapped (λ (group : GroupDef). kept group.name) (λ (group : GroupMeaning). kept group.name) (src_group (names_of program)) (λ group. refl) program.groups) i;
  dictionary = (keeps.names i).keys;
  cased = cased_same kept program keeps i;
})

pub unreached_groups_may_go : UnreachedGroupsMayGo
unreached_groups_may_go kept program closed keeps events =
    ap (λ (kb : Keyboard). trace kb events) (kept_meaning kept program keeps) ∙ unreached_groups_are_silent kept (src program) closed events
