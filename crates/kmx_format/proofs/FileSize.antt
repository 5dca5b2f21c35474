-- A file of tables that a file can have is not longer than its limits allow.
use Rattle.std.proofs.Common.{◌≡◌, ℕ, ◌+◌, ◌*◌, ◌^◌, ◌<◌, ◌≤◌, List, [], ◌∷◌, ◌++◌, length, map, length-append, arith, inl, inr}
use Rattle.std.specs.List.{All, flat_map}
use Rattle.std.proofs.lemmas.Bool.{cases_lt}
use Rattle.std.proofs.lemmas.List.{length-map}
use Rattle.std.proofs.lemmas.List.Elements.{All-head, All-tail, All-weaker, All-append, All-nil}
use Rattle.kmn_base.specs.declared.units.UnitItem.{UnitItem}
use Rattle.kmn_base.specs.declared.units.UnitItem.TheVariants.{Char, Any, Index, Context, Nul, Enter, Stop, Beep, Dead, Key, ContextAt, NotAny, Set, Test, Save, Reset, SystemTest, SetSystem}
use Rattle.kmn_base.specs.Spelling.{spelling, unit_bytes}
use Rattle.rule_model.specs.declared.tables.Rule.{Rule}
use Rattle.rule_model.specs.declared.tables.Store.{Store}
use Rattle.rule_model.specs.declared.tables.Group.{Group}
use Rattle.rule_model.specs.declared.tables.Tables.{Tables}
use Rattle.kmx_format.specs.FileUnits.{unit_item_of_element, unit_item_of_pattern, unit_item_of_output, item_units, element_units, pattern_units, output_units, name_units}
use Rattle.kmx_format.specs.File.{string, store_strings, group_strings, rule_strings, rules_of, all_rules, picture_place}
use Rattle.kmx_format.specs.Writable.{IsWritableStore, IsWritableRule, IsWritableGroup, IsWritable}
use Rattle.kmx_format.proofs.FileItems.{char_units_low, char_units_high}

-- an item has at most five units
spelling_at_most : (item : UnitItem) → length (spelling item) ≤ 5
spelling_at_most (Char c) =
    elim (cases_lt c 0x1_0000) [
      | inl low ↦ rw (char_units_low c low) (omega arith)
      | inr high ↦ rw (char_units_high c high) (omega arith)
    ]
spelling_at_most (Any store) = omega arith
spelling_at_most (Index store offset) = omega arith
spelling_at_most Context = omega arith
spelling_at_most Nul = omega arith
spelling_at_most (Enter group) = omega arith
spelling_at_most Stop = omega arith
spelling_at_most Beep = omega arith
spelling_at_most (Dead mark) = omega arith
spelling_at_most (Key flags code) = omega arith
spelling_at_most (ContextAt offset) = omega arith
spelling_at_most (NotAny store) = omega arith
spelling_at_most (Set store value) = omega arith
spelling_at_most (Test store comparison value) = omega arith
spelling_at_most (Save store) = omega arith
spelling_at_most (Reset store) = omega arith
spelling_at_most (SystemTest system comparison value) = omega arith
spelling_at_most (SetSystem system value) = omega arith

item_units_at_most : (items : List UnitItem) → length (item_units items) ≤ 5 * length items
unfolding item_units
item_units_at_most [] = omega arith
item_units_at_most (item ∷ items) = omega (arith, length-append (spelling item) (item_units items), spelling_at_most item, item_units_at_most items)

pub length-unit_bytes : (units : List ℕ) → length (unit_bytes units) ≡ 2 * length units
length-unit_bytes [] = omega arith
length-unit_bytes (unit ∷ units) = omega (arith, length-unit_bytes units)

pub string_at_most : (units : List ℕ) → length (string units) ≤ 2 * length units + 2
unfolding string
string_at_most [] = omega arith
string_at_most (unit ∷ units) = omega (arith, length-append (unit_bytes (unit ∷ units)) (unit_bytes (0 ∷ [])), length-unit_bytes (unit ∷ units))

-- the bytes that items spell
pub items_at_most : {X : Type 0} (there : X → UnitItem) (xs : List X) → length (string (item_units (map there xs))) ≤ 10 * length xs + 2
items_at_most there xs = omega (arith, string_at_most (item_units (map there xs)), item_units_at_most (map there xs), length-map xs there)

pub flat_map_at_most : {X : Type 0} (f : X → List ℕ) (bound : ℕ) (xs : List X) → All (λ x. length (f x) ≤ bound) xs → length (flat_map f xs) ≤ bound * length xs
flat_map_at_most f bound [] h = omega arith
flat_map_at_most f bound (x ∷ xs) h =
    omega (arith, length-append (f x) (flat_map f xs), All-head (λ y. length (f y) ≤ bound) x xs h, flat_map_at_most f bound xs (All-tail (λ y. length (f y) ≤ bound) x xs h))

store_at_most : (store : Store) → IsWritableStore store → length (store_strings store) ≤ 700_000
store_at_most store h =
    omega (
      arith,
      length-append (string (name_units store.name)) (string (element_units store.elements)),
      string_at_most (name_units store.name),
      h.name.units,
      items_at_most unit_item_of_element store.elements,
      h.element_count,
    )

module _ (store_count group_count : ℕ) where
  group_at_most : (group : Group) → IsWritableGroup store_count group_count group → length (group_strings group) ≤ 30_000
  group_at_most group h =
      omega (
        arith,
        length-append (string (name_units group.name) ++ string (output_units group.on_match)) (string (output_units group.on_nomatch)),
        length-append (string (name_units group.name)) (string (output_units group.on_match)),
        string_at_most (name_units group.name),
        h.name.units,
        items_at_most unit_item_of_output group.on_match,
        h.on_match.itself.item_count,
        items_at_most unit_item_of_output group.on_nomatch,
        h.on_nomatch.itself.item_count,
      )

  rule_at_most : (keys : _) (rule : Rule) → IsWritableRule store_count group_count keys rule → length (rule_strings rule) ≤ 20_000
  rule_at_most keys rule h =
      omega (
        arith,
        length-append (string (pattern_units rule.context)) (string (output_units rule.output)),
        items_at_most unit_item_of_pattern rule.context,
        h.context.item_count,
        items_at_most unit_item_of_output rule.output,
        h.output.item_count,
      )

  rules_at_most : (groups : List Group) → All (IsWritableGroup store_count group_count) groups → All (λ rule. length (rule_strings rule) ≤ 20_000) (flat_map rules_of groups)
  rules_at_most [] h = All-nil (λ rule. length (rule_strings rule) ≤ 20_000)
  rules_at_most (group ∷ groups) h =
      let first : IsWritableGroup store_count group_count group = All-head (IsWritableGroup store_count group_count) group groups h in
      All-append (λ rule. length (rule_strings rule) ≤ 20_000) group.rules (flat_map rules_of groups)
      (All-weaker (IsWritableRule store_count group_count group.using_keys) (λ rule. length (rule_strings rule) ≤ 20_000) (rule_at_most group.using_keys) group.rules first.rules)
      (rules_at_most groups (All-tail (IsWritableGroup store_count group_count) group groups h))

-- the sum of all limits
pub picture_place_small : (tables : Tables) → IsWritable tables → picture_place tables < 2 ^ 40
picture_place_small tables h =
    omega (
      arith,
      h.store_count,
      h.group_count,
      h.rule_count,
      flat_map_at_most store_strings 700_000 tables.stores (All-weaker IsWritableStore (λ store. length (store_strings store) ≤ 700_000) store_at_most tables.stores h.stores),
      flat_map_at_most group_strings 30_000 tables.groups
          (All-weaker (IsWritableGroup (length tables.stores) (length tables.groups)) (λ group. length (group_strings group) ≤ 30_000)
          (group_at_most (length tables.stores) (length tables.groups)) tables.groups h.groups),
      flat_map_at_most rule_strings 20_000 (all_rules tables) (rules_at_most (length tables.stores) (length tables.groups) tables.groups h.groups),
    )
