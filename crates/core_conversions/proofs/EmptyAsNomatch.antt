-- In a group without keys a rule with an empty context always holds, so such a group never runs its nomatch output.
use Rattle.std.proofs.Common.{◌≡◌, ℕ, ◌<◌, Bool, true, false, not, ◌&&◌, List, [], ◌∷◌, ◌++◌, length, map, drop, Option, None, Some, refl, sym, ◌∙◌, ap, if◌then◌else◌, arith}
use Rattle.std.specs.Prelude.{◌-◌, ◌||◌, nat_eq, nat_le, flat_map}
use Rattle.std.specs.List.{list_all, list_any}
use Rattle.std.proofs.lemmas.Bool.{false≢true}
use Rattle.std.proofs.lemmas.Bool.Decides.{nat_tests}
use Rattle.std.proofs.lemmas.List.{drop_all}
use Rattle.std.proofs.lemmas.List.Folds.{list_any-append}
use Rattle.kmn_base.specs.declared.items.Item.{Item}
use Rattle.kmn_base.specs.declared.keys.KeyPress.{KeyPress}
use Rattle.kmn_base.specs.declared.keys.RuleKey.TheVariants as key
use Rattle.virtual_keys.specs.Fits.{key_fits}
use Rattle.rule_model.specs.declared.event_state.EventState.{EventState}
use Rattle.rule_model.specs.declared.event_state.Caught.{Caught}
use Rattle.rule_model.specs.declared.tables.Pat.{Pat}
use Rattle.rule_model.specs.declared.tables.Out.{Out}
use Rattle.rule_model.specs.declared.tables.Rule.{Rule}
use Rattle.rule_model.specs.declared.tables.Store.{Store}
use Rattle.rule_model.specs.declared.tables.Group.{Group}
use Rattle.rule_model.specs.Keyboard.{Ref, OneKey, RuleMeaning, Keyboard}
use Rattle.rule_model.specs.Match.{Content, catches_from}
use Rattle.rule_model.specs.Hold.{is_true, has_room, pattern_count, caught_by, holds_with}
use Rattle.rule_model.specs.Act.{content_now}
use Rattle.rule_model.specs.Choose.{Chosen, first, first_with}
use Rattle.rule_model.specs.Enter.{do_group, in_group}
use Rattle.rule_model.specs.Tab.{tab_pattern, tab_rule, tab_group, pattern_options, output_options, rule_options, group_options}
use Rattle.core_conversions.specs.Conversions.{can_be_nomatch, has_empty_context, from_empty_context, nomatch_with, nomatch_of, empty_as_nomatch, group_with_nomatch}
use Rattle.core_conversions.specs.Laws.{EmptyAsNomatchKeepsTraces, KeepsPresses}
use Rattle.core_conversions.proofs.SameTraces.{keyboard, GroupsAlike, presses_same, traces_same}

-- a list that has no items is empty
no_items : {X : Type 0} (xs : List X) → nat_eq (length xs) 0 ≡ true → xs ≡ []
no_items [] e = refl
no_items (x ∷ xs) e = absurd (grind (arith, nat_tests))

-- ---- a rule with an empty context holds

abbrev IsChosen : Option Chosen → Type 0
IsChosen chosen = (c : Chosen) × (chosen ≡ Some c)

abbrev IsCaught : Option Caught → Type 0
IsCaught held = (caught : Caught) × (held ≡ Some caught)

at_least_none : (n : ℕ) → nat_le 0 n ≡ true
at_least_none n = grind (arith, nat_tests)

nothing_left : (left : List Item) → drop (length left - 0) left ≡ []
nothing_left left = drop_all (length left - 0) left (omega arith)

module _ (stores : List Store) (content : Content) (left : List Item) (press : KeyPress) where
  abbrev held : RuleMeaning → Option Caught
  held = holds_with [] content left press

  empty_held : (rule : Rule) (context : List Pat) → context ≡ [] → IsCaught (held (record (tab_rule stores false rule) { context = map (tab_pattern stores) context }))
  unfolding key_fits
  empty_held rule context none =
      (record { catches = []; key_place = None }, (λ i. held (record (tab_rule stores false rule) { context = map (tab_pattern stores) (none i) })) ∙ held_now)
    where
      held_now : held (record (tab_rule stores false rule) { context = [] }) ≡ Some (record { catches = []; key_place = None })
      held_now =
          (λ i. if at_least_none (length left) i then caught_by (catches_from content [] [] (nothing_left left i)) (Some None) else None)

  first_chosen : (rule : RuleMeaning) (caught : Option Caught) (others : Option Chosen) → IsCaught caught → IsChosen (first_with rule caught others)
  first_chosen rule caught others (c, e) = ((rule, c), ap (λ o. first_with rule o others) e)

  later_chosen : (rule : RuleMeaning) (caught : Option Caught) (others : Option Chosen) → IsChosen others → IsChosen (first_with rule caught others)
  later_chosen rule None others chosen = chosen
  later_chosen rule (Some caught) others chosen = ((rule, caught), refl)

  abbrev choice : List Rule → Option Chosen
  choice rules = first held (map (tab_rule stores false) rules)

  chosen_by : (test : Bool) (rule : Rule) (rules : List Rule) → has_empty_context rule ≡ test → (found : Rule) (rest : List Rule)
      → (from_empty_context rules ≡ found ∷ rest → IsChosen (choice rules)) → (if test then rule ∷ rules else from_empty_context rules) ≡ found ∷ rest → IsChosen (choice (rule ∷ rules))
  chosen_by true rule rules told found rest later e = first_chosen (tab_rule stores false rule) (held (tab_rule stores false rule)) (choice rules) (empty_held rule rule.context (no_items rule.context told))
  chosen_by false rule rules told found rest later e = later_chosen (tab_rule stores false rule) (held (tab_rule stores false rule)) (choice rules) (later e)

  is_chosen : (rules : List Rule) (found : Rule) (rest : List Rule) → from_empty_context rules ≡ found ∷ rest → IsChosen (choice rules)
  is_chosen [] found rest e = absurd (cc)
  is_chosen (rule ∷ rules) found rest e = chosen_by (has_empty_context rule) rule rules refl found rest (is_chosen rules found rest) e

-- ---- the effect of a group

abbrev with_nomatch : Group → List Out → Group
with_nomatch group outputs = record group { on_nomatch = outputs }

module _ (kb : Keyboard) (enter : Ref → EventState → EventState) (press : KeyPress) (stores : List Store) (group : Group) (s : EventState) where
  abbrev after_choice : List Out → Option Chosen → EventState
  after_choice outputs chosen = do_group kb enter press (tab_group stores (with_nomatch group outputs)) chosen s

  same_if_chosen : (outputs : List Out) (chosen : Option Chosen) → IsChosen chosen → after_choice outputs chosen ≡ after_choice group.on_nomatch chosen
  same_if_chosen outputs chosen (c, e) = ap (after_choice outputs) e ∙ sym (ap (after_choice group.on_nomatch) e)

  same_with : (rules : List Rule) (chosen : Option Chosen) → ((rule : Rule) (rest : List Rule) → rules ≡ rule ∷ rest → IsChosen chosen) → after_choice (nomatch_with group rules) chosen ≡ after_choice group.on_nomatch chosen
  same_with [] chosen h = refl
  same_with (rule ∷ rest) chosen h = same_if_chosen (nomatch_with group (rule ∷ rest)) chosen (h rule rest refl)

-- ---- options

absorbed : (r m o : Bool) → (o ≡ true → r ≡ true) → (r || (m || o)) ≡ (r || (m || false))
absorbed true m o h = refl
absorbed false m false h = refl
absorbed false m true h = absurd (false≢true (h refl))

or_true : (b : Bool) → (b || true) ≡ true
or_true true = refl
or_true false = refl

module _ (test : ℕ → Bool) where
  abbrev has_option : List ℕ → Bool
  has_option options = list_any test options

  used_by : (empty : Bool) (rule : Rule) (rules : List Rule) (found : Rule) (rest : List Rule) → has_option (flat_map output_options found.output) ≡ true
      → (from_empty_context rules ≡ found ∷ rest → has_option (flat_map rule_options rules) ≡ true) → (if empty then rule ∷ rules else from_empty_context rules) ≡ found ∷ rest
      → has_option (flat_map rule_options (rule ∷ rules)) ≡ true
  used_by true rule rules found rest used later e =
      let same : rule ≡ found = cc in
      let own : has_option (flat_map output_options rule.output) ≡ true = ap (λ (r : Rule). has_option (flat_map output_options r.output)) same ∙ used in
      list_any-append test (rule_options rule) (flat_map rule_options rules)
      ∙ ap (λ (b : Bool). b || has_option (flat_map rule_options rules))
      (list_any-append test (flat_map pattern_options rule.context) (flat_map output_options rule.output) ∙ ap (λ (b : Bool). has_option (flat_map pattern_options rule.context) || b) own
      ∙ or_true (has_option (flat_map pattern_options rule.context)))
  used_by false rule rules found rest used later e =
      list_any-append test (rule_options rule) (flat_map rule_options rules)
      ∙ ap (λ (b : Bool). has_option (rule_options rule) || b) (later e)
      ∙ or_true (has_option (rule_options rule))

  used : (rules : List Rule) (found : Rule) (rest : List Rule) → from_empty_context rules ≡ found ∷ rest → has_option (flat_map output_options found.output) ≡ true → has_option (flat_map rule_options rules) ≡ true
  used [] found rest e own = absurd (cc)
  used (rule ∷ rules) found rest e own = used_by (has_empty_context rule) rule rules found rest own (λ later. used rules found rest later own) e

  -- the options of a group, by its outputs
  abbrev parts : Group → List Out → Bool
  parts group outputs = has_option (flat_map rule_options group.rules) || (has_option (flat_map output_options group.on_match) || has_option (flat_map output_options outputs))

  by_parts : (group : Group) (outputs : List Out) → has_option (group_options (with_nomatch group outputs)) ≡ parts group outputs
  by_parts group outputs =
      list_any-append test (flat_map rule_options group.rules) (flat_map output_options group.on_match ++ flat_map output_options outputs)
      ∙ ap (λ (b : Bool). has_option (flat_map rule_options group.rules) || b) (list_any-append test (flat_map output_options group.on_match) (flat_map output_options outputs))

  options_if : (able : Bool) (group : Group) (rule : Rule) → group.on_nomatch ≡ [] → (has_option (flat_map output_options rule.output) ≡ true → has_option (flat_map rule_options group.rules) ≡ true)
      → parts group (if able then rule.output else group.on_nomatch) ≡ parts group group.on_nomatch
  options_if true group rule none listed =
      absorbed (has_option (flat_map rule_options group.rules)) (has_option (flat_map output_options group.on_match)) (has_option (flat_map output_options rule.output)) listed
      ∙ sym (ap (parts group) none)
  options_if false group rule none listed = refl

  options_with : (group : Group) (rules : List Rule) → group.on_nomatch ≡ [] → from_empty_context group.rules ≡ rules → parts group (nomatch_with group rules) ≡ parts group group.on_nomatch
  options_with group [] none is = refl
  options_with group (rule ∷ rest) none is =
      options_if (list_all has_empty_context rest && can_be_nomatch group.on_match rule.output) group rule none (used group.rules rule rest is)

-- ---- the conversion

-- if two are true, each is
both_true : (a b : Bool) → (a && b) ≡ true → (a ≡ true) × (b ≡ true)
both_true a true both = grind arith
both_true true false both = grind arith
both_true false false both = grind arith

not_true : (b : Bool) → not b ≡ true → b ≡ false
not_true true e = absurd (false≢true e)
not_true false e = refl

abbrev is_open : Group → Bool
is_open group = not group.using_keys && nat_eq (length group.on_nomatch) 0

options_by : (test : ℕ → Bool) (group : Group) (open_group : Bool) → is_open group ≡ open_group
    → parts test group (if open_group then nomatch_with group (from_empty_context group.rules) else group.on_nomatch) ≡ parts test group group.on_nomatch
options_by test group false told = refl
options_by test group true told =
    let both = both_true (not group.using_keys) (nat_eq (length group.on_nomatch) 0) told in
    options_with test group (from_empty_context group.rules) (no_items group.on_nomatch both.1) refl

effect_by : (kb : Keyboard) (enter : Ref → EventState → EventState) (press : KeyPress) (stores : List Store) (group : Group) (s : EventState) (content : Content) (open_group : Bool) → is_open group ≡ open_group
    → after_choice kb enter press stores group s (if open_group then nomatch_with group (from_empty_context group.rules) else group.on_nomatch) (first (holds_with [] content s.left press) (map (tab_rule stores group.using_keys) group.rules))
    ≡ after_choice kb enter press stores group s group.on_nomatch (first (holds_with [] content s.left press) (map (tab_rule stores group.using_keys) group.rules))
effect_by kb enter press stores group s content false told = refl
effect_by kb enter press stores group s content true told =
    let both = both_true (not group.using_keys) (nat_eq (length group.on_nomatch) 0) told in
    let keys : group.using_keys ≡ false = not_true group.using_keys both.0 in
    same_with kb enter press stores group s (from_empty_context group.rules) (first (holds_with [] content s.left press) (map (tab_rule stores group.using_keys) group.rules))
    (λ rule rest e. chosen_with keys (is_chosen stores content s.left press group.rules rule rest e))
  where
    chosen_with : group.using_keys ≡ false → IsChosen (first (holds_with [] content s.left press) (map (tab_rule stores false) group.rules)) → IsChosen (first (holds_with [] content s.left press) (map (tab_rule stores group.using_keys) group.rules))
    chosen_with keys (c, e) = (c, (λ i. first (holds_with [] content s.left press) (map (tab_rule stores (keys i)) group.rules)) ∙ e)

nomatch_alike : GroupsAlike group_with_nomatch
nomatch_alike =
    record {
      name = λ group. refl;
      options = λ group n. by_parts (nat_eq n) group (nomatch_of group) ∙ options_by (nat_eq n) group (is_open group) refl ∙ sym (by_parts (nat_eq n) group group.on_nomatch);
      effect = λ start stores dictionary groups enter press shown group s.
          let kb : Keyboard = keyboard start stores dictionary groups in
          effect_by kb enter press shown group s (content_now kb s) (is_open group) refl;
    }

pub empty_as_nomatch_keeps_traces : EmptyAsNomatchKeepsTraces
empty_as_nomatch_keeps_traces = traces_same group_with_nomatch nomatch_alike

pub empty_as_nomatch_keeps_presses : KeepsPresses empty_as_nomatch
empty_as_nomatch_keeps_presses = presses_same group_with_nomatch nomatch_alike
