-- An accepted program has tables.
use Rattle.std.proofs.Common.{◌≡◌, ℕ, ◌≤◌, Bool, true, false, nat_lt, nat_le, not, cond, List, [], ◌∷◌, ◌++◌, length, map, Option, Some, None, is_some, refl, arith}
use Rattle.std.specs.Prelude.{All, nat_eq, find}
use Rattle.std.specs.List.{list_all, list_any, AllByRecursion}
use Rattle.std.specs.Option.{option_or}
use Rattle.std.proofs.lemmas.Bool.{and_parts, and_from, or_parts}
use Rattle.std.proofs.lemmas.Bool.Decides.{nat_tests}
use Rattle.std.proofs.lemmas.List.Elements.{All-head, All-tail}
use Rattle.kmn_base.specs.declared.codes.Code.TheVariants.{C10, C13}
use Rattle.kmn_base.specs.declared.items.Element.{Element}
use Rattle.kmn_base.specs.declared.items.Element.TheVariants as element
use Rattle.kmn_base.specs.declared.limits.TheConstants.{STORE_ELEMENTS}
use Rattle.kmn_base.specs.Names.{same_name}
use Rattle.kmn_base.proofs.Options.{option_or-none}
use Rattle.kmn_base.proofs.Elements.{All-append_parts}
use Rattle.rule_model.specs.declared.program.SrcItem.{SrcItem}
use Rattle.rule_model.specs.declared.program.SrcItem.TheVariants as source
use Rattle.rule_model.specs.declared.program.RuleDef.{RuleDef}
use Rattle.rule_model.specs.declared.program.RuleKind.{RuleKind}
use Rattle.rule_model.specs.declared.program.RuleKind.TheVariants as kind
use Rattle.rule_model.specs.declared.program.GroupDef.{GroupDef}
use Rattle.rule_model.specs.declared.program.Program.{Program}
use Rattle.rule_model.specs.declared.tables.Store.{Store}
use Rattle.rule_model.specs.Naming.{names_of, stores_of, elements_named}
use Rattle.rule_model.specs.Tab.{store_elements}
use Rattle.compile_laws.specs.Numbers.{dictionary_stores, value_store, values_of}
use Rattle.store_table.specs.First.{first_code}
use Rattle.store_table.specs.Known.{known}
use Rattle.item_checker.specs.Items.{is_option, is_far, is_unfit_key, are_unfit_keys, key_code, context_code, rule_output_code, rule_code, rule_refusal, rules_refusal}
use Rattle.rule_checker.specs.Refused.{IsRead, refused}
use Rattle.rule_checker.proofs.Unrefused.{none_at_line, none_broken, none_first, Stands}
use Rattle.rule_checker.proofs.Accepted.{unrefused}
use Rattle.rule_checker.proofs.Reading.{has_parts, have_parts, all_have_parts, words_read}
use Rattle.rule_checker.proofs.Within.{few_stores, few_elements, few_groups, few_marks, few_keys}
use Rattle.rule_expand.specs.Groups.{is_unit, is_unit_element, are_unit_elements, is_unit_key, has_unit_key, have_unit_keys}
use Rattle.rule_expand.specs.Expanded.{HasTables}

unit_character : (c : ℕ) → nat_lt 0xFFFF c ≡ false → is_unit c ≡ true
unit_character c h = grind (arith, nat_tests)

few_places : (n : ℕ) → n ≤ STORE_ELEMENTS → nat_le n 0x7FFF_FFFF ≡ true
few_places n h = grind (arith, nat_tests)

-- elements that can be keys
unit_elements : (elements : List Element) → list_any is_unfit_key elements ≡ false → list_all is_unit_element elements ≡ true
unit_elements [] h = refl
unit_elements (element.Char c ∷ elements) h =
    let both = or_parts (nat_lt 0xFFFF c) (list_any is_unfit_key elements) h in
    and_from (is_unit c) (list_all is_unit_element elements) (unit_character c both.0) (unit_elements elements both.1)
unit_elements (element.Mark m ∷ elements) h = absurd (cc)
unit_elements (element.Key flags code ∷ elements) h = unit_elements elements h

unit_store : (elements : List Element) → are_unfit_keys elements ≡ false → length elements ≤ STORE_ELEMENTS → are_unit_elements elements ≡ true
unit_store [] h few = absurd (cc)
unit_store (e ∷ elements) h few =
    and_from (nat_le (length (e ∷ elements)) 0x7FFF_FFFF) (list_all is_unit_element (e ∷ elements)) (few_places (length (e ∷ elements)) few) (unit_elements (e ∷ elements) h)

chosen_few : (here : Bool) (store : Store) (found : Option Store) → length store.elements ≤ STORE_ELEMENTS → length (store_elements found) ≤ STORE_ELEMENTS → length (store_elements (cond here (Some store) found)) ≤ STORE_ELEMENTS
chosen_few true store found one more = one
chosen_few false store found one more = more

few_named : (stores : List Store) (name : List ℕ) → All (λ (s : Store). length s.elements ≤ STORE_ELEMENTS) stores → length (elements_named stores name) ≤ STORE_ELEMENTS
few_named [] name few = omega arith
few_named (store ∷ stores) name few =
    chosen_few (same_name store.name name) store (find (λ (s : Store). same_name s.name name) stores) (All-head (λ (s : Store). length s.elements ≤ STORE_ELEMENTS) store stores few)
    (few_named stores name (All-tail (λ (s : Store). length s.elements ≤ STORE_ELEMENTS) store stores few))

module _ (program : Program) (few : All (λ (s : Store). length s.elements ≤ STORE_ELEMENTS) (stores_of program)) where
  unit_key : (wanted : Option SrcItem) → key_code (known program) wanted ≡ None → is_unit_key (stores_of program) wanted ≡ true
  unfolding known
  unit_key None h = refl
  unit_key (Some (source.Char c)) h = unit_character c (none_broken C10 (is_far c) [] h).0
  unit_key (Some (source.Any store)) h =
      let rows = none_broken C10 (are_unfit_keys (elements_named (stores_of program) store)) ((C13, is_option (known program) store) ∷ []) h in
      unit_store (elements_named (stores_of program) store) rows.0 (few_named (stores_of program) store few)
  unit_key (Some item) h = refl

  bare_key : (wanted : Option SrcItem) → not (is_some wanted) ≡ true → is_unit_key (stores_of program) wanted ≡ true
  bare_key None h = refl
  bare_key (Some item) h = absurd (cc)

  unit_rule : (using_keys : Bool) (rule : RuleDef) → Stands (rule_refusal (known program)) rule → has_parts using_keys rule.kind rule ≡ true → has_unit_key (stores_of program) rule ≡ true
  unit_rule using_keys rule items parts = by rule.kind (none_at_line rule.line (rule_code (known program) rule.kind rule) items.1) parts
    where
      by : (k : RuleKind) → rule_code (known program) k rule ≡ None → has_parts using_keys k rule ≡ true → has_unit_key (stores_of program) rule ≡ true
      by kind.Plain codes fits =
          let one = option_or-none (context_code [] rule.context) (option_or (key_code (known program) rule.key) (first_code (rule_output_code (known program) rule) rule.output)) codes in
          unit_key rule.key (option_or-none (key_code (known program) rule.key) (first_code (rule_output_code (known program) rule) rule.output) one.1).0
      by kind.OnMatch codes fits = bare_key rule.key (and_parts (nat_eq (length rule.context) 0) (not (is_some rule.key)) fits).1
      by kind.OnNoMatch codes fits = bare_key rule.key (and_parts (nat_eq (length rule.context) 0) (not (is_some rule.key)) fits).1

  unit_rules : (using_keys : Bool) (rules : List RuleDef) → AllByRecursion (Stands (rule_refusal (known program))) rules
      → list_all (λ (rule : RuleDef). has_parts using_keys rule.kind rule) rules ≡ true → list_all (has_unit_key (stores_of program)) rules ≡ true
  unit_rules using_keys [] items parts = refl
  unit_rules using_keys (rule ∷ rules) items parts =
      let both = and_parts (has_parts using_keys rule.kind rule) (list_all (λ (r : RuleDef). has_parts using_keys r.kind r) rules) parts in
      and_from (has_unit_key (stores_of program) rule) (list_all (has_unit_key (stores_of program)) rules) (unit_rule using_keys rule items.0 both.0) (unit_rules using_keys rules items.1 both.1)

  unit_groups : (groups : List GroupDef) → AllByRecursion (Stands (rules_refusal (known program))) groups → list_all have_parts groups ≡ true → list_all (have_unit_keys (stores_of program)) groups ≡ true
  unit_groups [] items parts = refl
  unit_groups (group ∷ groups) items parts =
      let fits = and_parts (have_parts group) (list_all have_parts groups) parts in
      and_from (have_unit_keys (stores_of program) group) (list_all (have_unit_keys (stores_of program)) groups)
      (unit_rules group.using_keys group.rules (none_first (rule_refusal (known program)) [] group.rules items.0.1) fits.0) (unit_groups groups items.1 fits.1)

-- an accepted program meets what its tables require
pub has_tables : (program : Program) → IsRead program → refused program ≡ None → HasTables program
has_tables program read h =
    let whole = unrefused program h in
    let stores = All-append_parts (λ (s : Store). length s.elements ≤ STORE_ELEMENTS) (stores_of program) (dictionary_stores (names_of program).keys ++ map value_store (values_of program)) (few_elements program read whole) in
    record {
      marks = omega (arith, few_marks program whole);
      keys = few_keys program read whole;
      words = words_read program read.statements;
      groups = omega (arith, few_groups program whole);
      stores = omega (arith, few_stores program read whole);
      unit_keys = unit_groups program stores.0 program.groups (none_first (rules_refusal (known program)) [] program.groups whole.rule_items) (all_have_parts program.groups read.statements.groups);
    }
