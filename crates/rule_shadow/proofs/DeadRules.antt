-- If all records of a rule have certificates, the rule is dead.
use Rattle.std.proofs.Common.{◌≡◌, ◌≢◌, ℕ, ◌+◌, ◌<◌, List, [], ◌∷◌, length, map, Option, Some, None, refl, sym, ap, ◌∙◌, subst, arith, inl, inr, suc}
use Rattle.std.specs.Prelude.{filter, is_some, option_map, position, slice_get, slice_index_or}
use Rattle.std.specs.List.{list_all}
use Rattle.std.proofs.lemmas.List.{length-map}
use Rattle.std.proofs.lemmas.Option.{none-some, same_Some, slice_get-map, slice_get_cases, get_or_from_slice_get}
use Rattle.kmn_base.specs.declared.keys.KeyPress.{KeyPress}
use Rattle.kmn_base.proofs.Elements.{all_at}
use Rattle.rule_model.specs.declared.event_state.Caught.{Caught}
use Rattle.rule_model.specs.declared.event_state.EventState.{EventState}
use Rattle.rule_model.specs.declared.program.Program.{Program}
use Rattle.rule_model.specs.declared.program.GroupDef.{GroupDef}
use Rattle.rule_model.specs.declared.tables.Rule.{Rule}
use Rattle.rule_model.specs.declared.tables.Group.{Group}
use Rattle.rule_model.specs.declared.tables.Tables.{Tables}
use Rattle.rule_model.specs.Keyboard.{RuleMeaning}
use Rattle.rule_model.specs.Content.{content}
use Rattle.rule_model.specs.Hold.{holds, holds_with}
use Rattle.rule_model.specs.Choose.{Chosen, choose, first, first_with}
use Rattle.rule_model.specs.Enter.{chosen_in}
use Rattle.rule_model.specs.Naming.{names_of, rule_items}
use Rattle.rule_model.specs.Src.{src, src_rule, src_group, is_plain, cased_keys}
use Rattle.rule_model.specs.Tab.{tab, tab_rule}
use Rattle.rule_model.proofs.PlainOptions.{position-passes, position-fails}
use Rattle.kmx_format.specs.Writable.{IsWritable}
use Rattle.compile_laws.specs.WellNamed.{IsWellNamed, is_known_group}
use Rattle.compile_laws.specs.Numbers.{numbers_of}
use Rattle.compile_laws.specs.Compiles.{Compiles, IsOrderedGroup, file_group}
use Rattle.compile_laws.proofs.Keyboards.{src_choice, src_cased}
use Rattle.compile_laws.proofs.Known.{has_values, KnownGroup, group_known}
use Rattle.compile_laws.proofs.Values.{values_known}
use Rattle.compile_laws.proofs.Linked.{Linked}
use Rattle.compile_laws.proofs.Stores.{linked}
use Rattle.compile_laws.proofs.Choices.{ChosenRule, best_now, best-map, src_chosen, tab_chosen, choice-kept}
use Rattle.rule_shadow.specs.Laws.{AreCovered, CoveredRulesAreDead}
use Rattle.rule_shadow.proofs.Sound.{covered_never_go_first}

-- the record that is selected has the number of the first that holds
record Numbered (caught : RuleMeaning → Option Caught) (f : Rule → RuleMeaning) (xs : List Rule) (c : Chosen) : Type 0 where
  number : ℕ
  rule : Rule
  at : slice_get xs number ≡ Some rule
  meant : f rule ≡ c.0
  is_first : position (λ x. is_some (caught (f x))) xs ≡ Some number

first_numbered : (caught : RuleMeaning → Option Caught) (f : Rule → RuleMeaning) (xs : List Rule) (c : Chosen) → first caught (map f xs) ≡ Some c → Numbered caught f xs c
first_numbered caught f [] c e = absurd (none-some c e)
first_numbered caught f (x ∷ xs) c e = by (caught (f x)) refl e (first_numbered caught f xs c)
  where
    by : (o : Option Caught) → caught (f x) ≡ o → first_with (f x) o (first caught (map f xs)) ≡ Some c → (first caught (map f xs) ≡ Some c → Numbered caught f xs c) → Numbered caught f (x ∷ xs) c
    by None is h more =
        let rest = more h in
        record {
          number = suc rest.number;
          rule = rest.rule;
          at = rest.at;
          meant = rest.meant;
          is_first = position-fails (λ x. is_some (caught (f x))) x xs (ap is_some is) ∙ ap (option_map (λ i. 1 + i)) rest.is_first ∙ (let n : 1 + rest.number ≡ suc rest.number = omega arith in ap Some n);
        }
    by (Some k) is h more =
        record {
          number = 0;
          rule = x;
          at = refl;
          meant = ap (λ (c : Chosen). c.0) (same_Some {A = Chosen} (f x, k) c h);
          is_first = position-passes (λ x. is_some (caught (f x))) x xs (ap is_some is);
        }

below : {X : Type 0} (xs : List X) (k : ℕ) (x : X) → slice_get xs k ≡ Some x → k < length xs
below xs k x e = elim (slice_get_cases xs k).1 [
  | inl c ↦ c.1
  | inr past ↦ absurd (none-some x (sym past.1 ∙ e))
]

module _ (p : Program) (t : Tables) (ok : IsWellNamed p) (c : Compiles p t) (n : ℕ) (g : GroupDef) (h : Group) (stated : slice_get p.groups n ≡ Some g) (compiled : slice_get t.groups n ≡ Some h) where
  ordered : IsOrderedGroup (file_group (numbers_of p) g) h
  ordered =
      let file : Group = file_group (numbers_of p) g in
      let at_file = get_or_from_slice_get (map (file_group (numbers_of p)) p.groups) n file file (slice_get-map (file_group (numbers_of p)) p.groups n ∙ ap (option_map (file_group (numbers_of p))) stated) in
      let within : n < length (map (file_group (numbers_of p)) p.groups) = omega (arith, below p.groups n g stated, length-map p.groups (file_group (numbers_of p))) in
      subst (λ k. IsOrderedGroup file k) (get_or_from_slice_get t.groups n h file compiled)
      (subst (λ k. IsOrderedGroup k (slice_index_or t.groups n file)) at_file (c.groups.each n file within))

  known : KnownGroup p g
  known =
      group_known p g (all_at (is_known_group p) p.groups n g ok.groups stated)
      (all_at (λ (g : GroupDef). list_all (λ r. list_all (has_values p) (rule_items r)) g.rules) p.groups n g (values_known p) stated)

  module _ (s : EventState) (press : KeyPress) where
    abbrev l : Linked p t
    l = linked p t ok c

    abbrev best : Option ChosenRule
    best = best_now p t l s.current s.left press g.using_keys (filter is_plain g.rules)

    by_source : chosen_in (src p) press (src_group (names_of p) g) s ≡ option_map (src_chosen (names_of p)) best
    by_source =
        (λ i. choose (src_choice p i) (holds_with (src_cased p i) (content (src p).stores s.current) s.left press) (map (src_rule (names_of p)) (filter is_plain g.rules)))
        ∙ best-map (names_of p) (holds_with (cased_keys p) (content (src p).stores s.current) s.left press) (filter is_plain g.rules)

    by_table : first (holds (content (tab t).stores s.current) s.left press) (map (tab_rule t.stores h.using_keys) h.rules) ≡ option_map (tab_chosen p t l s.current s.left press g.using_keys) best
    by_table =
        (λ i. first (holds (content (tab t).stores s.current) s.left press) (map (tab_rule t.stores (ordered.using_keys i)) h.rules))
        ∙ choice-kept p t l s.current s.left press g.using_keys (filter is_plain g.rules) known.rules known.lines h.rules ordered.records ordered.in_order

    dead_here : IsWritable t → (line : ℕ) → AreCovered t n h line → (o : Option ChosenRule) → best ≡ o → (chosen : Chosen) → option_map (src_chosen (names_of p)) o ≡ Some chosen → chosen.0.line ≢ line
    dead_here writable line covered None is chosen e same = absurd (none-some chosen e)
    dead_here writable line covered (Some x) is chosen e same =
        let numbered = first_numbered (holds (content (tab t).stores s.current) s.left press) (tab_rule t.stores h.using_keys) h.rules (tab_chosen p t l s.current s.left press g.using_keys x)
        (by_table ∙ ap (option_map (tab_chosen p t l s.current s.left press g.using_keys)) is) in
        let in_line : numbered.rule.line ≡ line = ap (λ (m : RuleMeaning). m.line) numbered.meant ∙ (ap (λ (c : Chosen). c.0.line) (same_Some {A = Chosen} (src_chosen (names_of p) x) chosen e) ∙ same) in
        let cert = covered numbered.number numbered.rule numbered.at in_line in
        covered_never_go_first t n numbered.number h cert.0 writable compiled cert.1 s.current s.left press numbered.is_first

pub covered_rules_are_dead : CoveredRulesAreDead
covered_rules_are_dead p t ok c writable n g h stated compiled line covered s press chosen e =
    let best = by_source p t ok c n g h stated compiled s press in
    dead_here p t ok c n g h stated compiled s press writable line covered _ refl chosen (sym best ∙ e)
