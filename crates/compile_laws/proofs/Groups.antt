-- A group of a program has the same effect as the group that it compiles to.
use Rattle.std.proofs.Common.{◌≡◌, ℕ, zero, suc, ◌+◌, ◌<◌, Bool, true, List, [], ◌∷◌, length, map, get_or, Option, Some, None, refl, ap, sym, ◌∙◌, subst, arith, if◌then◌else◌}
use Rattle.std.specs.Prelude.{find, filter, option_map, option_and_then, position, slice_get, unwrap_or, flat_map}
use Rattle.std.specs.List.{list_all}
use Rattle.std.proofs.lemmas.Option.{slice_get-map, slice_get-get_or, get_or_from_slice_get}
use Rattle.std.proofs.lemmas.List.{length-map}
use Rattle.kmn_base.specs.declared.keys.KeyPress.{KeyPress}
use Rattle.kmn_base.specs.Lists.{without_last}
use Rattle.kmn_base.specs.Names.{same_name}
use Rattle.kmn_base.proofs.Elements.{all_at}
use Rattle.virtual_keys.specs.Dictionary.{name_in}
use Rattle.rule_model.specs.declared.event_state.EventState.{EventState}
use Rattle.rule_model.specs.declared.program.Program.{Program}
use Rattle.rule_model.specs.declared.program.GroupDef.{GroupDef}
use Rattle.rule_model.specs.declared.program.RuleDef.{RuleDef}
use Rattle.rule_model.specs.declared.tables.Out.{Out}
use Rattle.rule_model.specs.declared.tables.Rule.{Rule}
use Rattle.rule_model.specs.declared.tables.Group.{Group}
use Rattle.rule_model.specs.declared.tables.Tables.{Tables}
use Rattle.rule_model.specs.Keyboard.{Ref, Named, Numbered, Keyboard, GroupMeaning, Output}
use Rattle.rule_model.specs.Content.{content, group_at}
use Rattle.rule_model.specs.Hold.{holds_with}
use Rattle.rule_model.specs.Choose.{choose}
use Rattle.rule_model.specs.Act.{items_caught}
use Rattle.rule_model.specs.Enter.{by_default, default_of, nothing, act_if_any, do_unmatched, do_group, chosen_in, in_group, enter_group}
use Rattle.rule_model.specs.Naming.{names_of, rule_items}
use Rattle.rule_model.specs.Tab.{tab, tab_rule, tab_group, tab_output, output_if_any}
use Rattle.rule_model.specs.Src.{cased_keys, src, src_rule, src_group, src_outputs, is_plain, is_on_match, is_on_nomatch}
use Rattle.compile_laws.specs.Numbers.{numbers_of, number_of_group}
use Rattle.compile_laws.specs.Compiles.{Compiles, IsOrderedGroup, file_group, file_output, statement_outputs, or_nul}
use Rattle.compile_laws.specs.WellNamed.{IsWellNamed, is_group, is_known_group}
use Rattle.compile_laws.proofs.Keyboards.{src_groups, src_choice, src_cased, tab_groups, tab_choice, tab_cased}
use Rattle.compile_laws.proofs.Linked.{Linked}
use Rattle.compile_laws.proofs.Known.{has_values, KnownGroup, KnownStatement, group_known}
use Rattle.compile_laws.proofs.Values.{values_known}
use Rattle.compile_laws.proofs.PlacedItems.{FirstPlace, first_place, at_place}
use Rattle.virtual_keys.proofs.PositionLemmas.{position-map}
use Rattle.compile_laws.proofs.Outputs.{SameEntry, outputs-same}
use Rattle.compile_laws.proofs.Choices.{ChosenRule, best_now, best-map, best_known, BestKnown, src_chosen, tab_chosen, choice-kept}

-- the default of a key depends only on the dictionary
pub default-same : (a b : Keyboard) → a.dictionary ≡ b.dictionary → (press : KeyPress) (s : EventState) → by_default a press s ≡ by_default b press s
unfolding by_default
default-same a b e press s = λ i. default_of press (name_in (e i) press.code) s

pub some_output : (f : Out → Output) (outs : List Out) → output_if_any (map f (or_nul outs)) ≡ Some (map f (or_nul outs))
some_output f [] = refl
some_output f (out ∷ outs) = refl

-- the group that a group compiles to, with this table of records
abbrev pub with_table : Program → GroupDef → List Rule → Group
with_table p g table = record (file_group (numbers_of p) g) { rules = table }

pub ordered_group : (p : Program) (g : GroupDef) (h : Group) → IsOrderedGroup (file_group (numbers_of p) g) h → h ≡ with_table p g h.rules
ordered_group p g h o = λ i. record { name = o.name i; using_keys = o.using_keys i; rules = h.rules; on_match = o.on_match i; on_nomatch = o.on_nomatch i }

module _ (p : Program) (t : Tables) (l : Linked p t) (d : (tab t).dictionary ≡ (src p).dictionary) (press : KeyPress) (e f : Ref → EventState → EventState) (same : SameEntry p e f) where
  statement-same : (o : Option RuleDef) → KnownStatement p o → (s : EventState) →
      act_if_any (tab t) f (output_if_any (map (tab_output t.stores) (statement_outputs (numbers_of p) o))) s
      ≡ act_if_any (src p) e (option_map (src_outputs (names_of p)) o) s
  statement-same None known s = refl
  statement-same (Some r) known s =
      ap (λ o. act_if_any (tab t) f o s) (some_output (tab_output t.stores) (flat_map (file_output (numbers_of p) 0 None) r.output))
      ∙ outputs-same p t l e f same nothing 0 refl r.output known.0 known.1 s

  unmatched-same : (o : Option RuleDef) → KnownStatement p o → (using_keys : Bool) (s : EventState) →
      do_unmatched (tab t) f press (output_if_any (map (tab_output t.stores) (statement_outputs (numbers_of p) o))) using_keys s
      ≡ do_unmatched (src p) e press (option_map (src_outputs (names_of p)) o) using_keys s
  unmatched-same None known using_keys s = λ i. if using_keys then default-same (tab t) (src p) d press s i else s
  unmatched-same (Some r) known using_keys s =
      ap (λ o. do_unmatched (tab t) f press o using_keys s) (some_output (tab_output t.stores) (flat_map (file_output (numbers_of p) 0 None) r.output))
      ∙ outputs-same p t l e f same nothing 0 refl r.output known.0 known.1 s

  module _ (g : GroupDef) (known : KnownGroup p g) (table : List Rule) where
    do_same : (s : EventState) (o : Option ChosenRule) → ((x : ChosenRule) → o ≡ Some x → BestKnown p t l s.current s.left press g.using_keys x) →
        do_group (tab t) f press (tab_group t.stores (with_table p g table)) (option_map (tab_chosen p t l s.current s.left press g.using_keys) o) s
        ≡ do_group (src p) e press (src_group (names_of p) g) (option_map (src_chosen (names_of p)) o) s
    do_same s None h = unmatched-same (find is_on_nomatch g.rules) known.on_nomatch g.using_keys s
    do_same s (Some x) h =
        let b = h x refl in
        let taken : EventState = record s { left = without_last (length (items_caught x.1)) s.left } in
        ap (act_if_any (tab t) f (output_if_any (map (tab_output t.stores) (statement_outputs (numbers_of p) (find is_on_match g.rules)))))
        (outputs-same p t l e f same x.1 (length x.0.context) b.count x.0.output b.known.output b.known.output_values taken)
        ∙ statement-same (find is_on_match g.rules) known.on_match _

  pub chosen_src : (g : GroupDef) (s : EventState) →
      chosen_in (src p) press (src_group (names_of p) g) s ≡ option_map (src_chosen (names_of p)) (best_now p t l s.current s.left press g.using_keys (filter is_plain g.rules))
  chosen_src g s =
      (λ i. choose (src_choice p i) (holds_with (src_cased p i) (content (src p).stores s.current) s.left press) (map (src_rule (names_of p)) (filter is_plain g.rules)))
      ∙ best-map (names_of p) (holds_with (cased_keys p) (content (src p).stores s.current) s.left press) (filter is_plain g.rules)

  pub chosen_tab : (g : GroupDef) → KnownGroup p g → (h : Group) → IsOrderedGroup (file_group (numbers_of p) g) h → (s : EventState) →
      chosen_in (tab t) press (tab_group t.stores (with_table p g h.rules)) s
      ≡ option_map (tab_chosen p t l s.current s.left press g.using_keys) (best_now p t l s.current s.left press g.using_keys (filter is_plain g.rules))
  chosen_tab g known h o s =
      (λ i. choose (tab_choice t i) (holds_with (tab_cased t i) (content (tab t).stores s.current) s.left press) (map (tab_rule t.stores g.using_keys) h.rules))
      ∙ choice-kept p t l s.current s.left press g.using_keys (filter is_plain g.rules) known.rules known.lines h.rules o.records o.in_order

  pub group-same : (g : GroupDef) → KnownGroup p g → (h : Group) → IsOrderedGroup (file_group (numbers_of p) g) h → (s : EventState) →
      in_group (tab t) f press (Some (tab_group t.stores h)) s ≡ in_group (src p) e press (Some (src_group (names_of p) g)) s
  group-same g known h o s =
      let best = best_now p t l s.current s.left press g.using_keys (filter is_plain g.rules) in
      let is = ordered_group p g h o in
      (λ i. do_group (tab t) f press (tab_group t.stores (is i)) (chosen_in (tab t) press (tab_group t.stores (is i)) s) s)
      ∙ (ap (λ c. do_group (tab t) f press (tab_group t.stores (with_table p g h.rules)) c s) (chosen_tab g known h o s)
      ∙ (do_same g known h.rules s best (best_known p t l s.current s.left press g.using_keys (filter is_plain g.rules) known.rules)
      ∙ sym (ap (λ c. do_group (src p) e press (src_group (names_of p) g) c s) (chosen_src g s))))

-- a named group in a program and in its tables
pub record GroupPlace (p : Program) (t : Tables) (name : List ℕ) : Type 0 where
  pub stated : GroupDef
  pub compiled : Group
  pub named : group_at (src p).groups (Named name) ≡ Some (src_group (names_of p) stated)
  pub numbered : group_at (tab t).groups (Numbered (number_of_group (numbers_of p) name)) ≡ Some (tab_group t.stores compiled)
  pub ordered : IsOrderedGroup (file_group (numbers_of p) stated) compiled
  pub known : KnownGroup p stated

module _ (p : Program) (t : Tables) (ok : IsWellNamed p) (c : Compiles p t) (name : List ℕ) (k : ℕ)
    (at_k : position (λ (g : GroupDef). same_name g.name name) p.groups ≡ Some k) (here : FirstPlace (λ (g : GroupDef). same_name g.name name) p.groups k) where
  group_stands : GroupPlace p t name
  group_stands =
      let g : GroupDef = here.item in
      let file : Group = file_group (numbers_of p) g in
      let expanded : k < length (map (file_group (numbers_of p)) p.groups) = omega (arith, here.within, length-map p.groups (file_group (numbers_of p))) in
      let within : k < length t.groups = omega (arith, expanded, c.groups.count) in
      let number : number_of_group (numbers_of p) name ≡ k = ap (λ o. unwrap_or o 0) (position-map (λ (g : GroupDef). g.name) (λ known. same_name known name) p.groups ∙ at_k) in
      record {
        stated = g;
        compiled = get_or t.groups k file;
        named =
            (λ i. group_at (src_groups p i) (Named name))
            ∙ (ap (option_and_then (slice_get (map (src_group (names_of p)) p.groups))) (position-map (src_group (names_of p)) (λ (group : GroupMeaning). same_name group.name name) p.groups ∙ at_k)
            ∙ (slice_get-map (src_group (names_of p)) p.groups k ∙ ap (option_map (src_group (names_of p))) here.reads));
        numbered =
            (λ i. slice_get (tab_groups t i) (number i))
            ∙ (slice_get-map (tab_group t.stores) t.groups k ∙ ap (option_map (tab_group t.stores)) (slice_get-get_or t.groups k file within));
        ordered =
            subst (λ h. IsOrderedGroup h (get_or t.groups k file))
            (get_or_from_slice_get (map (file_group (numbers_of p)) p.groups) k file file (slice_get-map (file_group (numbers_of p)) p.groups k ∙ ap (option_map (file_group (numbers_of p))) here.reads))
            (c.groups.each k file expanded);
        known =
            group_known p g (all_at (is_known_group p) p.groups k g ok.groups here.reads)
            (all_at (λ (g : GroupDef). list_all (λ r. list_all (has_values p) (rule_items r)) g.rules) p.groups k g (values_known p) here.reads);
      }

pub group_place : (p : Program) (t : Tables) → IsWellNamed p → Compiles p t → (name : List ℕ) → is_group p name ≡ true → GroupPlace p t name
group_place p t ok c name h =
    let at = at_place (position (λ (g : GroupDef). same_name g.name name) p.groups) h in
    group_stands p t ok c name at.0 at.1 (first_place (λ (g : GroupDef). same_name g.name name) p.groups at.0 at.1)

-- at each depth, a group has the same effect
pub level-same : (p : Program) (t : Tables) → IsWellNamed p → Compiles p t → Linked p t → (tab t).dictionary ≡ (src p).dictionary → (press : KeyPress) (n : ℕ) →
    SameEntry p (enter_group n (src p) press) (enter_group n (tab t) press)
level-same p t ok c l d press zero name h s = refl
level-same p t ok c l d press (suc n) name h s =
    let place = group_place p t ok c name h in
    let entered : EventState = record s { entered = s.entered + 1 } in
    ap (λ o. in_group (tab t) (enter_group n (tab t) press) press o entered) place.numbered
    ∙ (group-same p t l d press (enter_group n (src p) press) (enter_group n (tab t) press) (level-same p t ok c l d press n) place.stated place.known place.compiled place.ordered entered
    ∙ sym (ap (λ o. in_group (src p) (enter_group n (src p) press) press o entered) place.named))
