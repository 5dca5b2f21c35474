-- The properties of a string in which the scan finds no fault.
use Rattle.std.proofs.Common.{◌≡◌, ℕ, ◌+◌, ◌-◌, ◌<◌, ◌⊎◌, Bool, true, false, List, [], ◌∷◌, ◌++◌, map, None, Some, refl, sym, ◌∙◌, ap, inl, inr, arith}
use Rattle.std.specs.Prelude.{Ok, Err}
use Rattle.std.proofs.lemmas.Bool.{not-false}
use Rattle.kmn_base.specs.declared.codes.Code.{Code}
use Rattle.kmn_base.specs.declared.items.Element.{Element}
use Rattle.kmn_base.specs.declared.units.UnitItem.{UnitItem}
use Rattle.kmn_base.specs.declared.units.UnitItem.TheVariants.{Char, Any, Index, Context, Nul, Enter, Stop, Beep, Dead, Key, ContextAt, NotAny, Set, Test, SystemTest, SetSystem, Save, Reset}
use Rattle.kmn_base.specs.Spelling.{IsSpellable}
use Rattle.kmn_base.proofs.Options.{option_or-none}
use Rattle.item_codec.specs.Walk.{spelled_size, items_given}
use Rattle.rule_model.specs.declared.tables.Pat.{Pat}
use Rattle.rule_model.specs.declared.tables.Out.{Out}
use Rattle.kmx_format.specs.FileUnits.{unit_item_of_element, unit_item_of_pattern, unit_item_of_output}
use Rattle.kmx_format.specs.TablesOf.{element_of_unit_item, comparison_of, system_comparison_of, pattern_of_unit_item, output_of_unit_item}
use Rattle.item_codec.proofs.Results.{Results}
use Rattle.kmx_verifier.specs.declared.faults.StringKind.{StringKind}
use Rattle.kmx_verifier.specs.declared.faults.StringKind.TheVariants as of
use Rattle.kmx_verifier.specs.declared.faults.Target.{Target}
use Rattle.kmx_verifier.specs.Items.{is_permitted, target_of, points_right, code_of}
use Rattle.kmx_verifier.specs.FaultOf.{broken, broken_by, names_outside, item_fault, walk_fault, context_fault}

pub broken-none : (code : Code) (at : ℕ) (c : Bool) → broken code at c ≡ None → c ≡ false
broken-none code at true h = absurd (cc)
broken-none code at false h = refl

pub broken_by-none : (unit at : ℕ) (c : Bool) → broken_by unit at c ≡ None → c ≡ false
broken_by-none unit at true h = absurd (cc)
broken_by-none unit at false h = refl

-- an item without a fault
pub record ItemStands (bytes : List ℕ) (kind : StringKind) (targets : List Target) (item : UnitItem) : Type 0 where
  pub stands : is_permitted kind item ≡ true
  pub named : names_outside bytes item ≡ false
  pub points : points_right targets item ≡ true

pub item_stands : (bytes : List ℕ) (kind : StringKind) (targets : List Target) (item : UnitItem) (at : ℕ)
    → item_fault bytes kind targets item at ≡ None → ItemStands bytes kind targets item
item_stands bytes kind targets item at h =
    let first = option_or-none _ _ h in
    let second = option_or-none _ _ first.1 in
    let third = option_or-none _ _ second.1 in
    record {
      stands = not-false _ (broken_by-none (code_of item) at _ first.0);
      named = broken-none _ at _ second.0;
      points = not-false _ (broken-none _ at _ third.0);
    }

-- items without a fault, whose offsets point into a context
abbrev pub ItemsStand : List ℕ → StringKind → List Target → List UnitItem → Type 0
ItemsStand bytes kind targets [] = Unit {0}
ItemsStand bytes kind targets (item ∷ items) = ItemStands bytes kind targets item × ItemsStand bytes kind targets items

-- items of a context without a fault
abbrev pub ContextStands : List ℕ → List Target → List UnitItem → Type 0
ContextStands bytes before [] = Unit {0}
ContextStands bytes before (item ∷ items) = ItemStands bytes of.Context before item × ContextStands bytes (before ++ target_of item ∷ []) items

-- if the scan of a string finds no fault, the whole string is readable
pub walk_readable : (bytes : List ℕ) (kind : StringKind) (targets : List Target) (at : ℕ) (results : Results)
    → walk_fault bytes kind targets at results ≡ None → results ≡ map Ok (items_given results)
walk_readable bytes kind targets at [] h = refl
walk_readable bytes kind targets at (Err bad ∷ results) h = absurd (cc)
walk_readable bytes kind targets at (Ok item ∷ results) h =
    ap (λ (rs : Results). Ok item ∷ rs) (walk_readable bytes kind targets (at + spelled_size item) results (option_or-none _ _ h).1)

pub context_readable : (bytes : List ℕ) (before : List Target) (at : ℕ) (results : Results)
    → context_fault bytes before at results ≡ None → results ≡ map Ok (items_given results)
context_readable bytes before at [] h = refl
context_readable bytes before at (Err bad ∷ results) h = absurd (cc)
context_readable bytes before at (Ok item ∷ results) h =
    ap (λ (rs : Results). Ok item ∷ rs) (context_readable bytes (before ++ target_of item ∷ []) (at + spelled_size item) results (option_or-none _ _ h).1)

pub walk_stands : (bytes : List ℕ) (kind : StringKind) (targets : List Target) (at : ℕ) (results : Results)
    → walk_fault bytes kind targets at results ≡ None → ItemsStand bytes kind targets (items_given results)
walk_stands bytes kind targets at [] h = tt
walk_stands bytes kind targets at (Err bad ∷ results) h = absurd (cc)
walk_stands bytes kind targets at (Ok item ∷ results) h =
    (item_stands bytes kind targets item at (option_or-none _ _ h).0, walk_stands bytes kind targets (at + spelled_size item) results (option_or-none _ _ h).1)

pub context_stands : (bytes : List ℕ) (before : List Target) (at : ℕ) (results : Results)
    → context_fault bytes before at results ≡ None → ContextStands bytes before (items_given results)
context_stands bytes before at [] h = tt
context_stands bytes before at (Err bad ∷ results) h = absurd (cc)
context_stands bytes before at (Ok item ∷ results) h =
    (item_stands bytes of.Context before item at (option_or-none _ _ h).0, context_stands bytes (before ++ target_of item ∷ []) (at + spelled_size item) results (option_or-none _ _ h).1)

-- if an item is allowed in a store and has a spelling, it is read as an element that converts back to it
pub element_again : (item : UnitItem) → is_permitted of.Store item ≡ true → IsSpellable item
    → (e : Element) × (element_of_unit_item item ≡ Some e) × (unit_item_of_element e ≡ item)
element_again (Char c) h s = (_, refl, refl)
element_again (Dead mark) h s = (_, refl, refl)
element_again (Key flags code) h s = (_, refl, refl)
element_again (Any store) h s = absurd (cc)
element_again (NotAny store) h s = absurd (cc)
element_again (Index store offset) h s = absurd (cc)
element_again Context h s = absurd (cc)
element_again Nul h s = absurd (cc)
element_again (Enter group) h s = absurd (cc)
element_again Stop h s = absurd (cc)
element_again Beep h s = absurd (cc)
element_again (ContextAt offset) h s = absurd (cc)
element_again (Set store value) h s = absurd (cc)
element_again (Test store comparison value) h s = absurd (cc)
element_again (SystemTest system comparison value) h s = absurd (cc)
element_again (SetSystem system value) h s = absurd (cc)
element_again (Save store) h s = absurd (cc)
element_again (Reset store) h s = absurd (cc)

less_one : (n : ℕ) → 0 < n → n - 1 + 1 ≡ n
less_one n h = omega arith

-- if a comparison has a spelling, it is read as a pattern that converts back to it
comparison_again : (store comparison value : ℕ) → 0 < store → 0 < value → (comparison ≡ 1) ⊎ (comparison ≡ 2)
    → (p : Pat) × (comparison_of store comparison value ≡ Some p) × (unit_item_of_pattern p ≡ Test store comparison value)
comparison_again store comparison value s v (inl one) =
    (_, ap (λ c. comparison_of store c value) one, ap (λ n. Test n 1 (value - 1 + 1)) (less_one store s) ∙ ap (Test store 1) (less_one value v) ∙ ap (λ c. Test store c value) (sym one))
comparison_again store comparison value s v (inr two) =
    (_, ap (λ c. comparison_of store c value) two, ap (λ n. Test n 2 (value - 1 + 1)) (less_one store s) ∙ ap (Test store 2) (less_one value v) ∙ ap (λ c. Test store c value) (sym two))

-- if a comparison with a system option has a spelling, it is read as a pattern that converts back to it
system_comparison_again : (system comparison value : ℕ) → 0 < system → 0 < value → (comparison ≡ 1) ⊎ (comparison ≡ 2)
    → (p : Pat) × (system_comparison_of system comparison value ≡ Some p) × (unit_item_of_pattern p ≡ SystemTest system comparison value)
system_comparison_again system comparison value s v (inl one) =
    (_, ap (λ c. system_comparison_of system c value) one, ap (λ n. SystemTest n 1 (value - 1 + 1)) (less_one system s) ∙ ap (SystemTest system 1) (less_one value v) ∙ ap (λ c. SystemTest system c value) (sym one))
system_comparison_again system comparison value s v (inr two) =
    (_, ap (λ c. system_comparison_of system c value) two, ap (λ n. SystemTest n 2 (value - 1 + 1)) (less_one system s) ∙ ap (SystemTest system 2) (less_one value v) ∙ ap (λ c. SystemTest system c value) (sym two))

-- if an item is allowed in a context and has a spelling, it is read as a pattern that converts back to it
pub pattern_again : (item : UnitItem) → is_permitted of.Context item ≡ true → IsSpellable item
    → (p : Pat) × (pattern_of_unit_item item ≡ Some p) × (unit_item_of_pattern p ≡ item)
pattern_again (Char c) h s = (_, refl, refl)
pattern_again (Dead mark) h s = (_, refl, refl)
pattern_again (Any store) h s = (_, refl, ap Any (less_one store s.0))
pattern_again (NotAny store) h s = (_, refl, ap NotAny (less_one store s.0))
pattern_again (Index store offset) h s = (_, refl, ap (λ n. Index n offset) (less_one store s.0.0))
pattern_again (ContextAt offset) h s = (_, refl, refl)
pattern_again (Test store comparison value) h s = comparison_again store comparison value s.0.0 s.2.0 s.1
pattern_again (SystemTest system comparison value) h s = system_comparison_again system comparison value s.0.0 s.2.0 s.1
pattern_again Nul h s = (_, refl, refl)
pattern_again (Key flags code) h s = absurd (cc)
pattern_again Context h s = absurd (cc)
pattern_again (Enter group) h s = absurd (cc)
pattern_again Stop h s = absurd (cc)
pattern_again Beep h s = absurd (cc)
pattern_again (Set store value) h s = absurd (cc)
pattern_again (SetSystem system value) h s = absurd (cc)
pattern_again (Save store) h s = absurd (cc)
pattern_again (Reset store) h s = absurd (cc)

-- if an item is allowed in an output and has a spelling, it is read as an output that converts back to it
pub output_again : (item : UnitItem) → is_permitted of.Output item ≡ true → IsSpellable item
    → (o : Out) × (output_of_unit_item item ≡ Some o) × (unit_item_of_output o ≡ item)
output_again (Char c) h s = (_, refl, refl)
output_again (Dead mark) h s = (_, refl, refl)
output_again (Index store offset) h s = (_, refl, ap (λ n. Index n offset) (less_one store s.0.0))
output_again Context h s = (_, refl, refl)
output_again (ContextAt offset) h s = (_, refl, refl)
output_again (Enter group) h s = (_, refl, ap Enter (less_one group s.0))
output_again (Set store value) h s = (_, refl, ap (λ n. Set n (value - 1 + 1)) (less_one store s.0.0) ∙ ap (Set store) (less_one value s.1.0))
output_again (SetSystem system value) h s = (_, refl, ap (λ n. SetSystem n (value - 1 + 1)) (less_one system s.0.0) ∙ ap (SetSystem system) (less_one value s.1.0))
output_again (Save store) h s = (_, refl, ap Save (less_one store s.0))
output_again (Reset store) h s = (_, refl, ap Reset (less_one store s.0))
output_again Nul h s = (_, refl, refl)
output_again Beep h s = (_, refl, refl)
output_again Stop h s = (_, refl, refl)
output_again (Any store) h s = absurd (cc)
output_again (NotAny store) h s = absurd (cc)
output_again (Key flags code) h s = absurd (cc)
output_again (Test store comparison value) h s = absurd (cc)
output_again (SystemTest system comparison value) h s = absurd (cc)
