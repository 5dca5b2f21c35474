-- The tables of a valid file can be run.
use Rattle.std.proofs.Common.{◌≡◌, ◌<◌, ◌≤◌, ℕ, List, [], ◌∷◌, ◌++◌, length, true, arith}
use Rattle.std.specs.Prelude.{flat_map}
use Rattle.std.specs.List.{All, AllByRecursion}
use Rattle.std.proofs.lemmas.Bool.{eqb-true}
use Rattle.std.proofs.lemmas.List.Elements.{All-from_recursion, recursion_from_All}
use Rattle.std.proofs.lemmas.List.Folds.{length-flat_map-take}
use Rattle.rule_model.specs.declared.tables.Group.{Group}
use Rattle.rule_model.specs.declared.tables.Out.{Out}
use Rattle.rule_model.specs.declared.tables.Out.TheVariants as output
use Rattle.rule_model.specs.declared.tables.Rule.{Rule}
use Rattle.rule_model.specs.declared.tables.Store.{Store}
use Rattle.rule_model.specs.declared.tables.Tables.{Tables}
use Rattle.kmx_format.specs.File.{rules_of}
use Rattle.kmx_format.specs.Playable.{IsPlayable, IsPlayableGroup}
use Rattle.kmx_format.specs.Writable.{IsWritableOutput, IsWritableRule, sets_system_id, stores_of_output}
use Rattle.rule_matching.specs.MatchState.{AreShort}
use Rattle.rule_engine.specs.Event.{AllChangeOwn, ChangesOwn, GroupChangesOwn, RuleChangesOwn}
use Rattle.rule_engine.specs.Engine.{IsRunnable}

-- if each element has a property from which another property follows, each element has the other property
all_then : {X : Type 0} (P Q : X → Type 0) (xs : List X) → ((x : X) → P x → Q x) → AllByRecursion P xs → AllByRecursion Q xs
all_then P Q [] follows h = tt
all_then P Q (x ∷ xs) follows h = (follows x h.0, all_then P Q xs follows h.1)

each : {X : Type 0} (P Q : X → Type 0) (xs : List X) → ((x : X) → P x → Q x) → All P xs → All Q xs
each P Q xs follows h = All-from_recursion Q xs (all_then P Q xs follows (recursion_from_All P xs h))

-- ---- outputs

abbrev IsOwn : ℕ → ℕ → Type 0
IsOwn count store = store < count

abbrev SetsLayer : Out → Type 0
SetsLayer o = sets_system_id o ≡ true

-- if an item names only stores of a file and sets no system option but the layer, it changes only stores of the file and the layer
item_changes_own : (count : ℕ) (o : Out) → SetsLayer o → AllByRecursion (IsOwn count) (stores_of_output o) → ChangesOwn count o
item_changes_own count (output.Set store value) layer own = (own.0, own.1.0)
item_changes_own count (output.SetSystem id value) layer own = (eqb-true id 33 layer, own.0)
item_changes_own count (output.Reset store) layer own = own.0
item_changes_own count (output.Char c) layer own = tt
item_changes_own count (output.Mark m) layer own = tt
item_changes_own count (output.Index store offset) layer own = tt
item_changes_own count output.Context layer own = tt
item_changes_own count (output.ContextAt offset) layer own = tt
item_changes_own count (output.Enter group) layer own = tt
item_changes_own count (output.Save store) layer own = tt
item_changes_own count output.Nul layer own = tt
item_changes_own count output.Beep layer own = tt
item_changes_own count output.Stop layer own = tt

-- if each element of two joined lists has a property, each element of either list has it
first_part : {X : Type 0} (P : X → Type 0) (xs ys : List X) → AllByRecursion P (xs ++ ys) → AllByRecursion P xs
first_part P [] ys h = tt
first_part P (x ∷ xs) ys h = (h.0, first_part P xs ys h.1)

last_part : {X : Type 0} (P : X → Type 0) (xs ys : List X) → AllByRecursion P (xs ++ ys) → AllByRecursion P ys
last_part P [] ys h = h
last_part P (x ∷ xs) ys h = last_part P xs ys h.1

items_change_own : (count : ℕ) (os : List Out) → AllByRecursion SetsLayer os → AllByRecursion (IsOwn count) (flat_map stores_of_output os) → AllByRecursion (ChangesOwn count) os
items_change_own count [] layer own = tt
items_change_own count (o ∷ os) layer own =
    let more : List ℕ = flat_map stores_of_output os in (
      item_changes_own count o layer.0 (first_part (IsOwn count) (stores_of_output o) more own),
      items_change_own count os layer.1 (last_part (IsOwn count) (stores_of_output o) more own),
    )

output_changes_own : (count groups : ℕ) (os : List Out) → IsWritableOutput count groups os → AllChangeOwn count os
output_changes_own count groups os h =
    All-from_recursion (ChangesOwn count) os
    (items_change_own count os (recursion_from_All SetsLayer os h.systems) (recursion_from_All (IsOwn count) (flat_map stores_of_output os) h.stores))

group_changes_own : (count groups : ℕ) (group : Group) → IsPlayableGroup count groups group → GroupChangesOwn count group
group_changes_own count groups group g = record {
  rules = each (IsWritableRule count groups group.using_keys) (RuleChangesOwn count) group.rules
      (λ (rule : Rule) (r : IsWritableRule count groups group.using_keys rule). output_changes_own count groups rule.output r.output) g.rules;
  on_match = output_changes_own count groups group.on_match g.on_match.itself;
  on_nomatch = output_changes_own count groups group.on_nomatch g.on_nomatch.itself;
}

pub playable_is_runnable : (tables : Tables) → IsPlayable tables → IsRunnable tables
playable_is_runnable tables can = record {
  short = each (IsPlayableGroup (length tables.stores) (length tables.groups)) (λ (group : Group). AreShort group.rules) tables.groups
      (λ (group : Group) (g : IsPlayableGroup (length tables.stores) (length tables.groups) group).
      each (IsWritableRule (length tables.stores) (length tables.groups) group.using_keys) (λ (rule : Rule). length rule.context ≤ 60) group.rules
      (λ (rule : Rule) (r : IsWritableRule (length tables.stores) (length tables.groups) group.using_keys rule). r.context.item_count) g.rules)
      can.groups;
  few = λ (i : ℕ) (d : Group) (within : i < length tables.groups). omega (arith, length-flat_map-take rules_of tables.groups i d within, can.rule_count);
  elements = λ (i : ℕ) (d : Store) (within : i < length tables.stores). (can.stores i d within).element_count;
  stores = omega (arith, can.store_count);
  platform = each (IsPlayableGroup (length tables.stores) (length tables.groups)) (GroupChangesOwn (length tables.stores)) tables.groups
      (group_changes_own (length tables.stores) (length tables.groups)) can.groups;
}
