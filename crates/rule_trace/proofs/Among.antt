-- The lines that tables choose are lines of their records.
use Rattle.std.proofs.Common.{◌≡◌, ℕ, zero, suc, ◌+◌, Bool, true, false, List, [], ◌∷◌, ◌++◌, map, Option, Some, None, refl, sym, subst, arith, if◌then◌else◌}
use Rattle.std.specs.Prelude.{All, flat_map, nat_le, position, slice_get, option_and_then}
use Rattle.std.specs.List.{AllByRecursion, Contains}
use Rattle.std.proofs.lemmas.Option.{same_Some, none-some}
use Rattle.std.proofs.lemmas.List.Elements.{All-push, All-nil, Contains-append_left, Contains-append_right}
use Rattle.std.proofs.lemmas.List.Concat.{flat_map-cons}
use Rattle.kmn_base.specs.declared.limits.TheConstants.{EVENT_ENTRIES}
use Rattle.kmn_base.specs.declared.keys.KeyPress.{KeyPress}
use Rattle.kmn_base.specs.declared.events.Event.TheVariants as event
use Rattle.kmn_base.specs.Names.{same_name}
use Rattle.kmn_base.proofs.Elements.{AllByRecursion_at}
use Rattle.rule_model.specs.declared.event_state.Caught.{Caught}
use Rattle.rule_model.specs.declared.event_state.EventState.{EventState}
use Rattle.rule_model.specs.declared.tables.Rule.{Rule}
use Rattle.rule_model.specs.declared.tables.Group.{Group}
use Rattle.rule_model.specs.declared.tables.Store.{Store}
use Rattle.rule_model.specs.Keyboard.{Ref, Named, Numbered, Layer, Platform, Keyboard, First, Output, UseGroup, RuleMeaning, GroupMeaning}
use Rattle.rule_model.specs.Content.{group_at}
use Rattle.rule_model.specs.Hold.{holds_with}
use Rattle.rule_model.specs.Choose.{Chosen, choose, first, first_with}
use Rattle.rule_model.specs.Act.{act, act_one, content_now}
use Rattle.rule_model.specs.Enter.{nothing, chosen_in, enter_group}
use Rattle.rule_model.specs.KeyEvent.{begin_event}
use Rattle.rule_model.specs.Tab.{tab, tab_rule, tab_group}
use Rattle.rule_model.specs.ChosenLines.{Adding, lines_of_one, lines_of, lines_if_any, taken_by, lines_of_group, lines_in_group, add_lines, lines_of_press}
use Rattle.compile_laws.proofs.Keyboards.{tab_choice, tab_groups}
use Rattle.rule_trace.specs.Coverage.{rule_lines, record_lines}
use Rattle.rule_trace.specs.Laws.{ChosenLinesAreLines}
use Rattle.rule_trace.proofs.Lines.{press-adds}

-- a property is true for the line of each rule of a group
HasLines : (ℕ → Type 0) → GroupMeaning → Type 0
HasLines P group = AllByRecursion (λ (rule : RuleMeaning). P rule.line) group.rules

-- a property is true for the line of the rule that a choice finds, if any
Found : (ℕ → Type 0) → Option Chosen → Type 0
Found P o = (x : Chosen) → o ≡ Some x → P x.0.line

first_found : (P : ℕ → Type 0) (rule : RuleMeaning) (o : Option Caught) (others : Option Chosen) → P rule.line → Found P others → Found P (first_with rule o others)
unfolding Found
first_found P rule None others own rest x e = rest x e
first_found P rule (Some caught) others own rest x e = subst (λ (c : Chosen). P c.0.line) (same_Some {A = Chosen} (rule, caught) x e) own

first_among : (P : ℕ → Type 0) (caught : RuleMeaning → Option Caught) (rules : List RuleMeaning) → AllByRecursion (λ (rule : RuleMeaning). P rule.line) rules → Found P (first caught rules)
unfolding Found
first_among P caught [] h = λ x e. absurd (none-some x e)
first_among P caught (rule ∷ rules) h = first_found P rule (caught rule) (first caught rules) h.0 (first_among P caught rules h.1)

at_place_if : {X : Type 0} (P : X → Type 0) (xs : List X) (o : Option ℕ) (x : X) → AllByRecursion P xs → option_and_then (slice_get xs) o ≡ Some x → P x
at_place_if P xs None x h e = absurd (none-some x e)
at_place_if P xs (Some k) x h e = AllByRecursion_at P xs k x h e

at_name : (P : GroupMeaning → Type 0) (groups : List GroupMeaning) (name : Ref) (group : GroupMeaning) → AllByRecursion P groups → group_at groups name ≡ Some group → P group
at_name P groups (Named name) group h e = at_place_if P groups (position (λ (g : GroupMeaning). same_name g.name name) groups) group h e
at_name P groups (Numbered n) group h e = AllByRecursion_at P groups n group h e
at_name P groups Layer group h e = absurd (none-some group e)
at_name P groups Platform group h e = absurd (none-some group e)

either : (P : ℕ → Type 0) (b : Bool) (xs ys : List ℕ) → All P xs → All P ys → All P (if b then xs else ys)
either P true xs ys h k = h
either P false xs ys h k = k

-- if a property is true for all lines so far, it is true for all lines after a group is entered
Keeps : (ℕ → Type 0) → Adding → Type 0
Keeps P adding = (group : Ref) (s : EventState) (lines : List ℕ) → All P lines → All P (adding group s lines)

one-keeps : (P : ℕ → Type 0) (adding : Adding) → Keeps P adding → (output : Output) (s : EventState) (lines : List ℕ) → All P lines → All P (lines_of_one adding output s lines)
unfolding Keeps
one-keeps P adding keeps (UseGroup group) s lines h = either P (nat_le EVENT_ENTRIES s.entered) lines (adding group s lines) h (keeps group s lines h)
one-keeps P adding keeps output s lines h = h

module _ (P : ℕ → Type 0) (kb : Keyboard) (is_first : kb.choice ≡ First) (each : AllByRecursion (HasLines P) kb.groups) where
  outputs-keep : (enter : Ref → EventState → EventState) (adding : Adding) → Keeps P adding → (caught : Caught) (outputs : List Output) (s : EventState) (lines : List ℕ) →
      All P lines → All P (lines_of kb enter adding caught outputs s lines)
  outputs-keep enter adding keeps caught [] s lines h = h
  outputs-keep enter adding keeps caught (output ∷ outputs) s lines h =
      outputs-keep enter adding keeps caught outputs (if s.stopped then s else act_one kb enter caught output s) (if s.stopped then lines else lines_of_one adding output s lines)
      (either P s.stopped lines (lines_of_one adding output s lines) h (one-keeps P adding keeps output s lines h))

  any-keep : (enter : Ref → EventState → EventState) (adding : Adding) → Keeps P adding → (o : Option (List Output)) (s : EventState) (lines : List ℕ) →
      All P lines → All P (lines_if_any kb enter adding o s lines)
  any-keep enter adding keeps None s lines h = h
  any-keep enter adding keeps (Some outputs) s lines h = outputs-keep enter adding keeps nothing outputs s lines h

  group-keeps : (enter : Ref → EventState → EventState) (adding : Adding) → Keeps P adding → (group : GroupMeaning) (o : Option Chosen) → Found P o → (s : EventState) (lines : List ℕ) →
      All P lines → All P (lines_of_group kb enter adding group o s lines)
  unfolding Found
  group-keeps enter adding keeps group None found s lines h = any-keep enter adding keeps group.on_nomatch s lines h
  group-keeps enter adding keeps group (Some x) found s lines h =
      any-keep enter adding keeps group.on_match (act kb enter x.1 x.0.output (taken_by x s)) (lines_of kb enter adding x.1 x.0.output (taken_by x s) (lines ++ x.0.line ∷ []))
      (outputs-keep enter adding keeps x.1 x.0.output (taken_by x s) (lines ++ x.0.line ∷ []) (All-push P lines x.0.line h (found x refl)))

  found_in : (press : KeyPress) (group : GroupMeaning) (s : EventState) → HasLines P group → Found P (chosen_in kb press group s)
  unfolding HasLines
  found_in press group s h =
      subst (λ choice. Found P (choose choice (holds_with kb.cased (content_now kb s) s.left press) group.rules)) (sym is_first)
      (first_among P (holds_with kb.cased (content_now kb s) s.left press) group.rules h)

  in-group-keeps : (enter : Ref → EventState → EventState) (adding : Adding) → Keeps P adding → (press : KeyPress) (o : Option GroupMeaning) →
      ((group : GroupMeaning) → o ≡ Some group → HasLines P group) → (s : EventState) (lines : List ℕ) → All P lines → All P (lines_in_group kb enter adding press o s lines)
  in-group-keeps enter adding keeps press None has s lines h = h
  in-group-keeps enter adding keeps press (Some group) has s lines h =
      group-keeps enter adding keeps group (chosen_in kb press group s) (found_in press group s (has group refl)) s lines h

  level-keeps : (press : KeyPress) (n : ℕ) → Keeps P (add_lines n kb press)
  unfolding Keeps
  level-keeps press zero group s lines h = h
  level-keeps press (suc n) group s lines h =
      in-group-keeps (enter_group n kb press) (add_lines n kb press) (level-keeps press n) press (group_at kb.groups group)
      (λ found e. at_name (HasLines P) kb.groups group found each e) (record s { entered = s.entered + 1 }) lines h

  press-keeps : (press : KeyPress) (s : EventState) → All P (lines_of_press kb press s)
  unfolding Keeps
  press-keeps press s = subst (All P) (sym (press-adds kb press s)) (level-keeps press EVENT_ENTRIES kb.start s [] (All-nil P))

-- if a property is true for the lines of records, it is true for the lines of the rules that the records mean
rules_have : (P : ℕ → Type 0) (stores : List Store) (using_keys : Bool) (rules : List Rule) → ((line : ℕ) → Contains (rule_lines rules) line → P line) →
    AllByRecursion (λ (rule : RuleMeaning). P rule.line) (map (tab_rule stores using_keys) rules)
rules_have P stores using_keys [] h = tt
rules_have P stores using_keys (rule ∷ rules) h = (
  h rule.line (Contains-append_left (rule.line ∷ []) (rule_lines rules) rule.line (0, omega arith, refl)),
  rules_have P stores using_keys rules (λ line k. h line (Contains-append_right (rule.line ∷ []) (rule_lines rules) line k)),
)

groups_have : (P : ℕ → Type 0) (stores : List Store) (groups : List Group) → ((line : ℕ) → Contains (flat_map (λ (group : Group). rule_lines group.rules) groups) line → P line) →
    AllByRecursion (HasLines P) (map (tab_group stores) groups)
unfolding HasLines
groups_have P stores [] h = tt
groups_have P stores (group ∷ groups) h =
    let lines = λ (g : Group). rule_lines g.rules in
    let all = sym (flat_map-cons lines group groups) in (
      rules_have P stores group.using_keys group.rules (λ line k. h line (subst (λ xs. Contains xs line) all (Contains-append_left (lines group) (flat_map lines groups) line k))),
      groups_have P stores groups (λ line k. h line (subst (λ xs. Contains xs line) all (Contains-append_right (lines group) (flat_map lines groups) line k))),
    )

pub chosen_are_lines : ChosenLinesAreLines
chosen_are_lines t state (event.Key press) =
    let P = Contains (record_lines t) in
    press-keeps P (tab t) (tab_choice t) (subst (AllByRecursion (HasLines P)) (sym (tab_groups t)) (groups_have P t.stores t.groups (λ line k. k))) press
    (begin_event state.left state.current state.saved)
chosen_are_lines t state event = All-nil (Contains (record_lines t))
