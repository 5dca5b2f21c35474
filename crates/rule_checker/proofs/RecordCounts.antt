-- The count that the limit of records computes from an accepted program is the number of records of its tables.
use Rattle.std.proofs.Common.{◌≡◌, ℕ, ◌+◌, ◌≤◌, ◌⊎◌, inl, inr, Bool, true, false, not, List, [], ◌∷◌, length, map, Option, Some, None, option_map, unwrap_or, refl, sym, ap, ◌∙◌, arith, if◌then◌else◌, length-append}
use Rattle.std.specs.Prelude.{All, flat_map, filter, nat_eq, sum, ◌&&◌}
use Rattle.std.specs.List.{list_any, sum_by}
use Rattle.std.proofs.lemmas.Bool.{eqb-true}
use Rattle.std.proofs.lemmas.List.Sums.{sum-map, sum_by-cons, sum_by-append}
use Rattle.std.proofs.lemmas.List.Sorted.{length_permutation}
use Rattle.kmn_base.specs.declared.items.Element.{Element}
use Rattle.kmn_base.specs.declared.items.Element.TheVariants as element
use Rattle.kmn_base.specs.declared.keys.RuleKey.{RuleKey}
use Rattle.kmn_base.specs.declared.keys.RuleKey.TheVariants as key
use Rattle.virtual_keys.specs.Fits.{has, caps, no_caps}
use Rattle.virtual_keys.specs.Dictionary.{code_in}
use Rattle.rule_model.specs.declared.program.KeyName.{KeyName}
use Rattle.rule_model.specs.declared.program.SrcItem.{SrcItem}
use Rattle.rule_model.specs.declared.program.SrcItem.TheVariants as source
use Rattle.rule_model.specs.declared.program.StoreDef.{StoreDef}
use Rattle.rule_model.specs.declared.program.RuleDef.{RuleDef}
use Rattle.rule_model.specs.declared.program.RuleKind.{RuleKind}
use Rattle.rule_model.specs.declared.program.RuleKind.TheVariants as kind
use Rattle.rule_model.specs.declared.program.GroupDef.{GroupDef}
use Rattle.rule_model.specs.declared.program.Program.{Program}
use Rattle.rule_model.specs.Hold.{key_of_element, is_exchanged}
use Rattle.rule_model.specs.Naming.{SourceNames, key_number, elements_named, all_rules as program_rules, stores_before, stores_after}
use Rattle.rule_model.specs.Src.{is_plain, is_plain_kind}
use Rattle.compile_laws.specs.Numbers.{Numbers, numbers_of}
use Rattle.compile_laws.specs.Compiles.{has_halves, half_key, file_record, key_records, records_from, keyed_records, rule_records, file_group}
use Rattle.compile_laws.specs.Ordered.{in_order, ordered_group, compiled_tables}
use Rattle.compile_laws.proofs.Ordered.{in_order_permutes}
use Rattle.kmx_format.specs.File.{all_rules, rules_of}
use Rattle.store_table.specs.Known.{Known, known}
use Rattle.rule_checker.specs.Limits.{OfStore, OfRule, in_line_order, cased_codes, virtual_count, element_count, key_count, record_count, records_of_statement, all_records}
use Rattle.rule_checker.specs.Refused.{IsRead}
use Rattle.rule_checker.proofs.Accepted.{IsUnrefused}
use Rattle.rule_checker.proofs.CasedPrograms.{IsTableCode, cased_in_table, cased_counted, not_cased}

-- a key has two records if it has halves, else one
key_length : (numbers : Numbers) (rule : RuleDef) (place : Option ℕ) (wanted : RuleKey) → length (key_records numbers rule place wanted) ≡ (if has_halves numbers.cased wanted then 2 else 1)
key_length numbers rule place wanted = by (has_halves numbers.cased wanted)
  where
    by : (b : Bool) → length (if b then file_record numbers rule place 0 (half_key 0 wanted) ∷ file_record numbers rule place 1 (half_key 1 wanted) ∷ [] else file_record numbers rule place 0 wanted ∷ []) ≡ (if b then 2 else 1)
    by true = refl
    by false = refl

element_length : (numbers : Numbers) (rule : RuleDef) (place : Option ℕ) (e : Element) → length (key_records numbers rule place (unwrap_or (key_of_element e) key.Any)) ≡ element_count numbers.cased e
element_length numbers rule place (element.Char c) = refl
element_length numbers rule place (element.Mark m) = refl
element_length numbers rule place (element.Key flags code) = key_length numbers rule place (key.Virtual flags code)

elements_length : (numbers : Numbers) (rule : RuleDef) (place : ℕ) (elements : List Element) → length (records_from numbers rule place elements) ≡ sum_by (element_count numbers.cased) elements
elements_length numbers rule place [] = refl
elements_length numbers rule place (e ∷ elements) =
    omega (
      arith,
      length-append (key_records numbers rule (Some place) (unwrap_or (key_of_element e) key.Any)) (records_from numbers rule (place + 1) elements),
      element_length numbers rule (Some place) e,
      elements_length numbers rule (place + 1) elements,
      sum_by-cons (element_count numbers.cased) e elements,
    )

-- a custom key is not cased, by its code in the source or in the file
own_number : (found : Option ℕ) → (unwrap_or (option_map (λ place. 256 + place) found) 0 ≡ 0) ⊎ (256 ≤ unwrap_or (option_map (λ place. 256 + place) found) 0)
own_number None = inl refl
own_number (Some place) = inr (omega arith)

number_exchanged : (cased : List ℕ) → All IsTableCode cased → (names : SourceNames) (key : KeyName) → is_exchanged cased key.flags (key_number names key) ≡ is_exchanged cased key.flags key.code
unfolding code_in
number_exchanged cased table names key =
    ap (λ (named : Bool). named && (not (has key.flags caps) && not (has key.flags no_caps))) (by (nat_eq key.code 0) refl)
  where
    by : (b : Bool) → nat_eq key.code 0 ≡ b → list_any (nat_eq (if b then unwrap_or (code_in names.keys key.name) 0 else key.code)) cased ≡ list_any (nat_eq key.code) cased
    by true is = not_cased (unwrap_or (code_in names.keys key.name) 0) (own_number _) cased table ∙ sym (not_cased key.code (inl (eqb-true key.code 0 is)) cased table)
    by false is = refl

-- whether the limits count with the stores of the tables and with their cased keys
record CountsAlike (numbers : Numbers) (facts : Known) : Type 0 where
  stores : numbers.stores ≡ facts.stores
  cased : numbers.cased ≡ cased_codes facts
  table : All IsTableCode numbers.cased

module _ (numbers : Numbers) (facts : Known) (alike : CountsAlike numbers facts) where
  -- a rule has as many records as the limits count
  keyed_length : (rule : RuleDef) (item : Option SrcItem) → length (keyed_records numbers rule item) ≡ key_count facts item
  keyed_length rule None = refl
  keyed_length rule (Some (source.Any store)) =
      elements_length numbers rule 0 (elements_named numbers.stores store)
      ∙ sym (sum-map (element_count numbers.cased) (elements_named numbers.stores store))
      ∙ (λ j. sum (map (element_count (alike.cased j)) (elements_named (alike.stores j) store)))
  keyed_length rule (Some (source.Key k)) =
      key_length numbers rule None (key.Virtual k.flags (key_number numbers.names k))
      ∙ ap (λ (b : Bool). if b then 2 else 1) (number_exchanged numbers.cased alike.table numbers.names k)
      ∙ ap (λ (cased : List ℕ). virtual_count cased k.flags k.code) alike.cased
  keyed_length rule (Some item) = refl

  abbrev counted : RuleDef → ℕ
  counted rule = record_count facts rule.kind rule.key

  rules_length : (rules : List RuleDef) → length (flat_map (rule_records numbers) (filter is_plain rules)) ≡ sum_by counted rules
  rules_length [] = refl
  rules_length (rule ∷ rules) = by rule.kind (rules_length rules) ∙ sym (sum_by-cons counted rule rules)
    where
      by : (k : RuleKind) → length (flat_map (rule_records numbers) (filter is_plain rules)) ≡ sum_by counted rules
          → length (flat_map (rule_records numbers) (if is_plain_kind k then rule ∷ filter is_plain rules else filter is_plain rules)) ≡ record_count facts k rule.key + sum_by counted rules
      by kind.Plain h = omega (arith, length-append (rule_records numbers rule) (flat_map (rule_records numbers) (filter is_plain rules)), keyed_length rule rule.key, h)
      by kind.OnMatch h = omega (arith, h)
      by kind.OnNoMatch h = omega (arith, h)

  groups_length : (groups : List GroupDef) → length (flat_map rules_of (map (λ group. ordered_group (file_group numbers group)) groups)) ≡ sum_by counted (flat_map (λ (group : GroupDef). group.rules) groups)
  groups_length [] = refl
  groups_length (group ∷ groups) =
      let records = flat_map (rule_records numbers) (filter is_plain group.rules) in
      omega (
        arith,
        length-append (in_order records) (flat_map rules_of (map (λ g. ordered_group (file_group numbers g)) groups)),
        length_permutation records (in_order records) (in_order_permutes records),
        rules_length group.rules,
        groups_length groups,
        sum_by-append counted group.rules (flat_map (λ (g : GroupDef). g.rules) groups),
      )

no_records : (facts : Known) (stores : List StoreDef) → sum_by (records_of_statement facts) (map OfStore stores) ≡ 0
no_records facts [] = refl
no_records facts (store ∷ stores) = omega (arith, sum_by-cons (records_of_statement facts) (OfStore store) (map OfStore stores), no_records facts stores)

statements_length : (facts : Known) (stores : List StoreDef) (rules : List RuleDef)
    → sum_by (records_of_statement facts) (in_line_order stores rules) ≡ sum_by (λ (rule : RuleDef). record_count facts rule.kind rule.key) rules
statements_length facts stores [] = no_records facts stores
statements_length facts stores (rule ∷ rules) =
    let rest = in_line_order (stores_after rule.line stores) rules in
    omega (
      arith,
      sum_by-append (records_of_statement facts) (map OfStore (stores_before rule.line stores)) (OfRule rule ∷ rest),
      no_records facts (stores_before rule.line stores),
      sum_by-cons (records_of_statement facts) (OfRule rule) rest,
      statements_length facts (stores_after rule.line stores) rules,
      sum_by-cons (λ (r : RuleDef). record_count facts r.kind r.key) rule rules,
    )

counts_alike : (program : Program) → IsRead program → IsUnrefused program → CountsAlike (numbers_of program) (known program)
unfolding known
counts_alike program read whole = record { stores = refl; cased = sym (cased_counted program read whole); table = cased_in_table program read whole }

-- the number of records that the limits count is the number of records of the program's tables
pub records_counted : (program : Program) → IsRead program → IsUnrefused program
    → all_records (known program) (in_line_order program.stores (program_rules program)) ≡ length (all_rules (compiled_tables program))
unfolding compiled_tables
records_counted program read whole =
    sum-map (records_of_statement (known program)) (in_line_order program.stores (program_rules program))
    ∙ statements_length (known program) program.stores (program_rules program)
    ∙ sym (groups_length (numbers_of program) (known program) (counts_alike program read whole) program.groups)
