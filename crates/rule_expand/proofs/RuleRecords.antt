-- The records of rules, by what the records of a rule have in common.
use Rattle.std.proofs.Common.{◌≡◌, ℕ, ◌+◌, ◌*◌, ◌<◌, ◌≤◌, Bool, true, false, nat_le, List, [], ◌∷◌, ◌++◌, length, take, get_or, Option, Some, None, refl, ap, ◌∙◌, arith, if◌then◌else◌}
use Rattle.std.specs.Prelude.{flat_map, filter, unwrap_or}
use Rattle.std.specs.List.{list_all}
use Rattle.std.proofs.lemmas.Bool.{and_parts}
use Rattle.std.proofs.lemmas.Bool.Decides.{nat_tests}
use Rattle.std.proofs.lemmas.List.{take_all}
use Rattle.kmn_base.specs.declared.items.Element.{Element}
use Rattle.kmn_base.specs.declared.keys.RuleKey.{RuleKey}
use Rattle.kmn_base.specs.declared.keys.RuleKey.TheVariants as key
use Rattle.rule_model.specs.declared.program.SrcItem.{SrcItem}
use Rattle.rule_model.specs.declared.program.SrcItem.TheVariants as source
use Rattle.rule_model.specs.declared.program.RuleDef.{RuleDef}
use Rattle.rule_model.specs.declared.program.GroupDef.{GroupDef}
use Rattle.rule_model.specs.declared.tables.Rule.{Rule}
use Rattle.rule_model.specs.declared.tables.Store.{Store}
use Rattle.rule_model.specs.Hold.{key_of_element}
use Rattle.rule_model.specs.Naming.{elements_named}
use Rattle.rule_model.specs.Src.{is_plain}
use Rattle.compile_laws.specs.Numbers.{Numbers}
use Rattle.compile_laws.specs.Compiles.{has_halves, half_key, file_record, key_records, records_from, own_key, keyed_records, rule_records}
use Rattle.item_checker.proofs.FoundKeys.{passes_at}
use Rattle.rule_expand.specs.Groups.{is_unit_element, are_unit_elements, has_unit_key, have_unit_keys, plain_records}
use Rattle.rule_expand.specs.Pieces.{template_of, template_record, template_halves, template_records, template_keyed}
use Rattle.rule_expand.proofs.PieceLaws.{pieces_put}

-- an element of a key store stands for a key of one unit, at a place of 31 bits
pub unit_at : (elements : List Element) (i : ℕ) (e : Element) → are_unit_elements elements ≡ true → i < length elements → e ≡ get_or elements i e → is_unit_element e ≡ true
unit_at elements i e all h is = passes_at is_unit_element elements i e (and_parts (nat_le (length elements) 0x7FFF_FFFF) (list_all is_unit_element elements) all).1 h is

few_as : (l i : ℕ) → nat_le l 0x7FFF_FFFF ≡ true → i < l → i < 0x7FFF_FFFF
few_as l i few h = grind (arith, nat_tests)

pub few_at : (elements : List Element) (i : ℕ) → are_unit_elements elements ≡ true → i < length elements → i < 0x7FFF_FFFF
few_at elements i all h = few_as (length elements) i (and_parts (nat_le (length elements) 0x7FFF_FFFF) (list_all is_unit_element elements) all).0 h

-- a rule of a group, and a group, with keys of one unit
pub unit_rule : (stores : List Store) (rules : List RuleDef) (i : ℕ) (rule : RuleDef) → list_all (has_unit_key stores) rules ≡ true → i < length rules → rule ≡ get_or rules i rule → has_unit_key stores rule ≡ true
unit_rule stores rules i rule all h e = passes_at (has_unit_key stores) rules i rule all h e

pub unit_group : (stores : List Store) (groups : List GroupDef) (i : ℕ) (group : GroupDef) → list_all (have_unit_keys stores) groups ≡ true → i < length groups → group ≡ get_or groups i group → have_unit_keys stores group ≡ true
unit_group stores groups i group all h e = passes_at (have_unit_keys stores) groups i group all h e

-- the record of a rule for a key
one_record : (numbers : Numbers) (rule : RuleDef) (place : Option ℕ) (half : ℕ) (wanted : RuleKey)
    → template_record numbers.stores (template_of numbers rule) place half wanted ≡ file_record numbers rule place half wanted
one_record numbers rule place half wanted = λ j. record {
  line = rule.line;
  place = 2 * unwrap_or place 0 + half;
  key = wanted;
  context = (template_of numbers rule).context;
  output = pieces_put numbers (length rule.context) place rule.output j;
}

-- the records of a rule for a key
halves_as : (numbers : Numbers) (rule : RuleDef) (place : Option ℕ) (wanted : RuleKey) → template_halves numbers (template_of numbers rule) place wanted ≡ key_records numbers rule place wanted
halves_as numbers rule place wanted =
    λ j. if has_halves numbers.cased wanted
    then one_record numbers rule place 0 (half_key 0 wanted) j ∷ one_record numbers rule place 1 (half_key 1 wanted) j ∷ []
    else one_record numbers rule place 0 wanted j ∷ []

-- the records of a rule for the elements of a key store
placed_records : (numbers : Numbers) (rule : RuleDef) (place : ℕ) (elements : List Element) → template_records numbers (template_of numbers rule) place elements ≡ records_from numbers rule place elements
placed_records numbers rule place [] = refl
placed_records numbers rule place (e ∷ elements) =
    λ j. halves_as numbers rule (Some place) (unwrap_or (key_of_element e) key.Any) j ++ placed_records numbers rule (place + 1) elements j

-- the records of a rule
keyed_as : (numbers : Numbers) (rule : RuleDef) (wanted : Option SrcItem) → template_keyed numbers (template_of numbers rule) wanted ≡ keyed_records numbers rule wanted
keyed_as numbers rule None = halves_as numbers rule None (own_key numbers None)
keyed_as numbers rule (Some (source.Any store)) = placed_records numbers rule 0 (elements_named numbers.stores store)
keyed_as numbers rule (Some item) = halves_as numbers rule None (own_key numbers (Some item))

pub all_records : (numbers : Numbers) (rule : RuleDef) → template_keyed numbers (template_of numbers rule) rule.key ≡ rule_records numbers rule
all_records numbers rule = keyed_as numbers rule rule.key

plain_next : (plain : Bool) (numbers : Numbers) (rule : RuleDef) (rules : List RuleDef)
    → (if plain then rule_records numbers rule else []) ++ flat_map (rule_records numbers) (filter is_plain rules)
    ≡ flat_map (rule_records numbers) (if plain then rule ∷ filter is_plain rules else filter is_plain rules)
plain_next true numbers rule rules = refl
plain_next false numbers rule rules = refl

-- the records of all statements are those of the plain rules
pub plain_alone : (numbers : Numbers) (rules : List RuleDef) → flat_map (plain_records numbers) rules ≡ flat_map (rule_records numbers) (filter is_plain rules)
plain_alone numbers [] = refl
plain_alone numbers (rule ∷ rules) =
    ap (λ rest. plain_records numbers rule ++ rest) (plain_alone numbers rules) ∙ plain_next (is_plain rule) numbers rule rules

-- if a loop has reached the end of the rules, its records are those of all plain rules
pub plain_all : (numbers : Numbers) (rules : List RuleDef) (i : ℕ) (records : List Rule) → length rules ≤ i → records ≡ flat_map (plain_records numbers) (take i rules)
    → records ≡ flat_map (rule_records numbers) (filter is_plain rules)
plain_all numbers rules i records h e = e ∙ (ap (flat_map (plain_records numbers)) (take_all i rules h) ∙ plain_alone numbers rules)
