-- If tables can be played, their deadkey numbers are at most 16 bits long.
use Rattle.std.proofs.Common.{ℕ, ◌^◌, ◌<◌, List, [], ◌∷◌, ◌++◌, length}
use Rattle.std.specs.Prelude.{Bool, flat_map}
use Rattle.std.specs.List.{AllByRecursion}
use Rattle.std.proofs.lemmas.List.Elements.{recursion_from_All}
use Rattle.kmn_base.specs.declared.items.Element.{Element}
use Rattle.kmn_base.specs.declared.items.Element.TheVariants as element
use Rattle.kmn_base.specs.Spelling.{IsSpellable}
use Rattle.rule_model.specs.declared.tables.Pat.{Pat}
use Rattle.rule_model.specs.declared.tables.Pat.TheVariants as pattern
use Rattle.rule_model.specs.declared.tables.Out.{Out}
use Rattle.rule_model.specs.declared.tables.Out.TheVariants as output
use Rattle.rule_model.specs.declared.tables.Rule.{Rule}
use Rattle.rule_model.specs.declared.tables.Store.{Store}
use Rattle.rule_model.specs.declared.tables.Group.{Group}
use Rattle.rule_model.specs.declared.tables.Tables.{Tables}
use Rattle.kmx_format.specs.FileUnits.{unit_item_of_element, unit_item_of_pattern, unit_item_of_output}
use Rattle.kmx_format.specs.Writable.{IsWritableRule}
use Rattle.kmx_format.specs.Playable.{IsPlayableStore, IsPlayableGroup, IsPlayable}
use Rattle.decompile_program.specs.Marks.{element_marks, pattern_marks, output_marks, rule_marks, group_marks, store_marks, table_marks}
use Rattle.decompile_program.proofs.Choosing.{all_join}

abbrev pub IsSmall : ℕ → Type 0
IsSmall m = m < 2 ^ 16

all_flat : {X : Type 0} (Q : X → Type 0) (f : X → List ℕ) → ((x : X) → Q x → AllByRecursion IsSmall (f x)) → (xs : List X) → AllByRecursion Q xs → AllByRecursion IsSmall (flat_map f xs)
all_flat Q f h [] k = tt
all_flat Q f h (x ∷ xs) k = all_join IsSmall (f x) (flat_map f xs) (h x k.0) (all_flat Q f h xs k.1)

small-element : (e : Element) → IsSpellable (unit_item_of_element e) → AllByRecursion IsSmall (element_marks e)
small-element (element.Mark m) h = (h.1, tt)
small-element e h = tt

small-pattern : (x : Pat) → IsSpellable (unit_item_of_pattern x) → AllByRecursion IsSmall (pattern_marks x)
small-pattern (pattern.Mark m) h = (h.1, tt)
small-pattern x h = tt

small-output : (x : Out) → IsSpellable (unit_item_of_output x) → AllByRecursion IsSmall (output_marks x)
small-output (output.Mark m) h = (h.1, tt)
small-output x h = tt

store-small : (s : Store) → IsPlayableStore s → AllByRecursion IsSmall (store_marks s)
store-small s p = all_flat (λ e. IsSpellable (unit_item_of_element e)) element_marks small-element s.elements (recursion_from_All (λ e. IsSpellable (unit_item_of_element e)) s.elements p.elements)

rule-small : (a b : ℕ) (using : Bool) (r : Rule) → IsWritableRule a b using r → AllByRecursion IsSmall (rule_marks r)
rule-small a b using r w =
    all_join IsSmall (flat_map pattern_marks r.context) (flat_map output_marks r.output)
    (all_flat (λ x. IsSpellable (unit_item_of_pattern x)) pattern_marks small-pattern r.context (recursion_from_All (λ x. IsSpellable (unit_item_of_pattern x)) r.context w.context.items))
    (all_flat (λ x. IsSpellable (unit_item_of_output x)) output_marks small-output r.output (recursion_from_All (λ x. IsSpellable (unit_item_of_output x)) r.output w.output.items))

group-small : (a b : ℕ) (g : Group) → IsPlayableGroup a b g → AllByRecursion IsSmall (group_marks g)
group-small a b g p =
    all_join IsSmall (flat_map rule_marks g.rules) (flat_map output_marks g.on_match ++ flat_map output_marks g.on_nomatch)
    (all_flat (IsWritableRule a b g.using_keys) rule_marks (rule-small a b g.using_keys) g.rules (recursion_from_All (IsWritableRule a b g.using_keys) g.rules p.rules))
    (all_join IsSmall (flat_map output_marks g.on_match) (flat_map output_marks g.on_nomatch)
    (all_flat (λ x. IsSpellable (unit_item_of_output x)) output_marks small-output g.on_match (recursion_from_All (λ x. IsSpellable (unit_item_of_output x)) g.on_match p.on_match.itself.items))
    (all_flat (λ x. IsSpellable (unit_item_of_output x)) output_marks small-output g.on_nomatch (recursion_from_All (λ x. IsSpellable (unit_item_of_output x)) g.on_nomatch p.on_nomatch.itself.items)))

pub small_marks : (t : Tables) → IsPlayable t → AllByRecursion IsSmall (table_marks t)
unfolding table_marks
small_marks t p =
    all_join IsSmall (flat_map store_marks t.stores) (flat_map group_marks t.groups)
    (all_flat IsPlayableStore store_marks store-small t.stores (recursion_from_All IsPlayableStore t.stores p.stores))
    (all_flat (IsPlayableGroup (length t.stores) (length t.groups)) group_marks (group-small (length t.stores) (length t.groups)) t.groups
    (recursion_from_All (IsPlayableGroup (length t.stores) (length t.groups)) t.groups p.groups))
