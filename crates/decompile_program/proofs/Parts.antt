-- If a property is true for all numbers in groups, it is true for the numbers of each item.
use Rattle.std.proofs.Common.{ℕ, List, [], ◌∷◌, ◌++◌}
use Rattle.std.specs.Prelude.{flat_map}
use Rattle.std.specs.List.{AllByRecursion}
use Rattle.rule_model.specs.declared.tables.Pat.{Pat}
use Rattle.rule_model.specs.declared.tables.Out.{Out}
use Rattle.rule_model.specs.declared.tables.Rule.{Rule}
use Rattle.rule_model.specs.declared.tables.Group.{Group}
use Rattle.decompile_program.proofs.Choosing.{all_parts, all_split}

-- a property is true for the numbers of each item of a group
pub record Each (P : ℕ → Type 0) (fp : Pat → List ℕ) (fo : Out → List ℕ) (g : Group) : Type 0 where
  pub contexts : AllByRecursion (λ (r : Rule). AllByRecursion (λ x. AllByRecursion P (fp x)) r.context) g.rules
  pub outputs : AllByRecursion (λ (r : Rule). AllByRecursion (λ x. AllByRecursion P (fo x)) r.output) g.rules
  pub on_match : AllByRecursion (λ x. AllByRecursion P (fo x)) g.on_match
  pub on_nomatch : AllByRecursion (λ x. AllByRecursion P (fo x)) g.on_nomatch

module _ (P : ℕ → Type 0) (fp : Pat → List ℕ) (fo : Out → List ℕ) where
  abbrev pub OfRule : Rule → List ℕ
  OfRule r = flat_map fp r.context ++ flat_map fo r.output

  contexts-each : (rules : List Rule) → AllByRecursion P (flat_map OfRule rules) → AllByRecursion (λ (r : Rule). AllByRecursion (λ x. AllByRecursion P (fp x)) r.context) rules
  contexts-each [] h = tt
  contexts-each (r ∷ rules) h =
      let two = all_parts P (OfRule r) (flat_map OfRule rules) h in
      (all_split P fp r.context (all_parts P (flat_map fp r.context) (flat_map fo r.output) two.0).0, contexts-each rules two.1)

  outputs-each : (rules : List Rule) → AllByRecursion P (flat_map OfRule rules) → AllByRecursion (λ (r : Rule). AllByRecursion (λ x. AllByRecursion P (fo x)) r.output) rules
  outputs-each [] h = tt
  outputs-each (r ∷ rules) h =
      let two = all_parts P (OfRule r) (flat_map OfRule rules) h in
      (all_split P fo r.output (all_parts P (flat_map fp r.context) (flat_map fo r.output) two.0).1, outputs-each rules two.1)

  group-each : (g : Group) → AllByRecursion P (flat_map OfRule g.rules ++ (flat_map fo g.on_match ++ flat_map fo g.on_nomatch)) → Each P fp fo g
  group-each g h =
      let two = all_parts P (flat_map OfRule g.rules) (flat_map fo g.on_match ++ flat_map fo g.on_nomatch) h in
      let more = all_parts P (flat_map fo g.on_match) (flat_map fo g.on_nomatch) two.1 in
      record {
        contexts = contexts-each g.rules two.0;
        outputs = outputs-each g.rules two.0;
        on_match = all_split P fo g.on_match more.0;
        on_nomatch = all_split P fo g.on_nomatch more.1;
      }

  pub groups-each : (groups : List Group) → AllByRecursion P (flat_map (λ (g : Group). flat_map OfRule g.rules ++ (flat_map fo g.on_match ++ flat_map fo g.on_nomatch)) groups) → AllByRecursion (Each P fp fo) groups
  groups-each [] h = tt
  groups-each (g ∷ groups) h =
      let two = all_parts P (flat_map OfRule g.rules ++ (flat_map fo g.on_match ++ flat_map fo g.on_nomatch)) (flat_map (λ (g : Group). flat_map OfRule g.rules ++ (flat_map fo g.on_match ++ flat_map fo g.on_nomatch)) groups) h in
      (group-each g two.0, groups-each groups two.1)
