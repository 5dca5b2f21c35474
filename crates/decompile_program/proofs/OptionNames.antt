-- Options are among the stores that items name.
use Rattle.std.proofs.Common.{◌≡◌, ℕ, Bool, true, false, ◌||◌, List, [], ◌∷◌, ◌++◌, refl, sym, ◌∙◌, ap}
use Rattle.std.specs.Prelude.{nat_eq, flat_map}
use Rattle.std.specs.List.{list_any}
use Rattle.std.proofs.lemmas.List.Folds.{list_any-append}
use Rattle.rule_model.specs.declared.tables.Pat.{Pat}
use Rattle.rule_model.specs.declared.tables.Pat.TheVariants as pattern
use Rattle.rule_model.specs.declared.tables.Out.{Out}
use Rattle.rule_model.specs.declared.tables.Out.TheVariants as output
use Rattle.rule_model.specs.declared.tables.Rule.{Rule}
use Rattle.rule_model.specs.declared.tables.Group.{Group}
use Rattle.rule_model.specs.declared.tables.Tables.{Tables}
use Rattle.rule_model.specs.Tab.{tab_options, pattern_options, output_options, rule_options, group_options}
use Rattle.decompile_program.specs.Names.{named_by_pattern, named_by_output, named_by_rule, named_by_group, named_stores}
use Rattle.decompile_program.proofs.Good.{IsNamed, IsOption}

-- options are among the stores that items name
or-sub : (a b c d : Bool) → (a ≡ true → c ≡ true) → (b ≡ true → d ≡ true) → (a || b) ≡ true → (c || d) ≡ true
or-sub true b c d f g h = ap (λ x. x || d) (f refl)
or-sub false b true d f g h = refl
or-sub false b false d f g h = g h

Sub : ℕ → List ℕ → List ℕ → Type 0
Sub n xs ys = list_any (nat_eq n) xs ≡ true → list_any (nat_eq n) ys ≡ true

append-sub : (n : ℕ) (xs us ys vs : List ℕ) → Sub n xs ys → Sub n us vs → Sub n (xs ++ us) (ys ++ vs)
unfolding Sub
append-sub n xs us ys vs f g h =
    list_any-append (nat_eq n) ys vs
    ∙ or-sub (list_any (nat_eq n) xs) (list_any (nat_eq n) us) (list_any (nat_eq n) ys) (list_any (nat_eq n) vs) f g (sym (list_any-append (nat_eq n) xs us) ∙ h)

flat-sub : {X : Type 0} (n : ℕ) (f g : X → List ℕ) → ((x : X) → Sub n (f x) (g x)) → (xs : List X) → Sub n (flat_map f xs) (flat_map g xs)
unfolding Sub
flat-sub n f g h [] e = e
flat-sub n f g h (x ∷ xs) e = append-sub n (f x) (flat_map f xs) (g x) (flat_map g xs) (h x) (flat-sub n f g h xs) e

pattern-sub : (n : ℕ) (x : Pat) → Sub n (pattern_options x) (named_by_pattern x)
unfolding Sub
pattern-sub n (pattern.Equal s v) e = e
pattern-sub n (pattern.Unequal s v) e = e
pattern-sub n x e = let bad : false ≡ true = e in absurd cc

output-sub : (n : ℕ) (x : Out) → Sub n (output_options x) (named_by_output x)
unfolding Sub
output-sub n (output.Set s v) e = e
output-sub n (output.Save s) e = e
output-sub n (output.Reset s) e = e
output-sub n x e = let bad : false ≡ true = e in absurd cc

rule-sub : (n : ℕ) (r : Rule) → Sub n (rule_options r) (named_by_rule r)
rule-sub n r =
    append-sub n (flat_map pattern_options r.context) (flat_map output_options r.output) (flat_map named_by_pattern r.context) (flat_map named_by_output r.output)
    (flat-sub n pattern_options named_by_pattern (pattern-sub n) r.context) (flat-sub n output_options named_by_output (output-sub n) r.output)

group-sub : (n : ℕ) (g : Group) → Sub n (group_options g) (named_by_group g)
group-sub n g =
    append-sub n (flat_map rule_options g.rules) (flat_map output_options g.on_match ++ flat_map output_options g.on_nomatch) (flat_map named_by_rule g.rules) (flat_map named_by_output g.on_match ++ flat_map named_by_output g.on_nomatch)
    (flat-sub n rule_options named_by_rule (rule-sub n) g.rules)
    (append-sub n (flat_map output_options g.on_match) (flat_map output_options g.on_nomatch) (flat_map named_by_output g.on_match) (flat_map named_by_output g.on_nomatch)
    (flat-sub n output_options named_by_output (output-sub n) g.on_match) (flat-sub n output_options named_by_output (output-sub n) g.on_nomatch))

pub option-named : (t : Tables) (n : ℕ) → IsOption t n → IsNamed t n
unfolding tab_options named_stores Sub
option-named t n e = flat-sub n group_options named_by_group (group-sub n) t.groups e
