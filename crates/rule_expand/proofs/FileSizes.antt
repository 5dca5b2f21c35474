-- The size of a program's file by its tables without records, and by the sizes of the records.
use Rattle.std.proofs.Common.{◌≡◌, ℕ, ◌+◌, ◌*◌, List, [], ◌∷◌, ◌++◌, length, map, refl, sym, ap, ◌∙◌, length-append, arith}
use Rattle.std.specs.Prelude.{flat_map, filter, sum_by}
use Rattle.std.proofs.lemmas.List.{length-map}
use Rattle.std.proofs.lemmas.List.Concat.{flat_map-append}
use Rattle.std.proofs.lemmas.List.Sums.{sum_by-cons}
use Rattle.std.proofs.lemmas.List.Sorted.{sum_by-IsPermutation}
use Rattle.rule_model.specs.declared.program.Program.{Program}
use Rattle.rule_model.specs.declared.program.RuleDef.{RuleDef}
use Rattle.rule_model.specs.declared.program.GroupDef.{GroupDef}
use Rattle.rule_model.specs.declared.tables.Rule.{Rule}
use Rattle.rule_model.specs.declared.tables.Store.{Store}
use Rattle.rule_model.specs.declared.tables.Group.{Group}
use Rattle.rule_model.specs.declared.tables.Tables.{Tables}
use Rattle.rule_model.specs.Src.{is_plain}
use Rattle.compile_laws.specs.Compiles.{file_group, rule_records}
use Rattle.kmx_format.specs.File.{all_rules, group_strings, picture_place, rule_strings, rules_of, store_strings}
use Rattle.compile_laws.specs.Numbers.{Numbers, compiled_stores, numbers_of, version_of}
use Rattle.compile_laws.specs.Ordered.{compiled_tables, in_order, ordered_group}
use Rattle.kmx_format.specs.declared.sizes.TheConstants.{RULE_BYTES}
use Rattle.compile_laws.proofs.Ordered.{in_order_permutes}
use Rattle.rule_expand.specs.Expanded.{expanded_tables}
use Rattle.rule_expand.specs.Groups.{plain_records}
use Rattle.rule_expand.specs.Sizes.{groups_size, outline_group, outline_without_stores, plain_size, record_size, records_size, without_records, without_rules}
use Rattle.rule_expand.proofs.RecordSizes.{records_append}
use Rattle.rule_expand.proofs.RuleRecords.{plain_alone}

-- ---- the records apart from the rest

-- the size of records is that of the records themselves and that of their strings
records_split : (rules : List Rule) → records_size rules ≡ RULE_BYTES * length rules + length (flat_map rule_strings rules)
records_split [] = omega arith
records_split (rule ∷ rules) = omega (arith, records_split rules, length-append (rule_strings rule) (flat_map rule_strings rules))

-- groups without records have none
no_rules : (groups : List Group) → flat_map rules_of (map without_rules groups) ≡ []
no_rules [] = refl
no_rules (group ∷ groups) = no_rules groups

-- groups without records have the same strings
same_strings : (groups : List Group) → flat_map group_strings (map without_rules groups) ≡ flat_map group_strings groups
same_strings [] = refl
same_strings (group ∷ groups) = ap (λ (rest : List ℕ). group_strings group ++ rest) (same_strings groups)

-- the size of a file without its picture is that of the tables without records, and that of the records
apart : (tables : Tables) → picture_place tables ≡ picture_place (without_records tables) + records_size (all_rules tables)
apart tables =
    omega (
      arith,
      records_split (all_rules tables),
      length-map tables.groups without_rules,
      ap (length {A = Rule}) (no_rules tables.groups),
      ap (λ (rules : List Rule). length (flat_map rule_strings rules)) (no_rules tables.groups),
      ap (length {A = ℕ}) (same_strings tables.groups),
    )

-- ---- the order of records changes none of it

-- the size of records is a sum over them
summed : (rules : List Rule) → records_size rules ≡ sum_by record_size rules
summed [] = refl
summed (rule ∷ rules) = ap (λ (n : ℕ). record_size rule + n) (summed rules) ∙ sym (sum_by-cons record_size rule rules)

-- records in order have the same size
ordered : (rules : List Rule) → records_size (in_order rules) ≡ records_size rules
ordered rules = summed (in_order rules) ∙ sum_by-IsPermutation record_size rules (in_order rules) (in_order_permutes rules) ∙ sym (summed rules)

module _ (numbers : Numbers) where
  -- the records of groups in order have the same size
  all_ordered : (groups : List GroupDef)
      → records_size (flat_map rules_of (map (λ group. ordered_group (file_group numbers group)) groups)) ≡ records_size (flat_map rules_of (map (file_group numbers) groups))
  all_ordered [] = refl
  all_ordered (group ∷ groups) =
      let rules : List Rule = (file_group numbers group).rules in
      records_append (in_order rules) (flat_map rules_of (map (λ group. ordered_group (file_group numbers group)) groups))
      ∙ (λ i. ordered rules i + all_ordered groups i)
      ∙ sym (records_append rules (flat_map rules_of (map (file_group numbers) groups)))

  -- groups in order are the same without their records
  pub same_outline : (groups : List GroupDef) → map without_rules (map (λ group. ordered_group (file_group numbers group)) groups) ≡ map without_rules (map (file_group numbers) groups)
  same_outline [] = refl
  same_outline (group ∷ groups) = ap (λ (rest : List Group). without_rules (file_group numbers group) ∷ rest) (same_outline groups)

  -- the size of the records of rules, rule by rule
  rules_counted : (rules : List RuleDef) → plain_size numbers rules ≡ records_size (flat_map (plain_records numbers) rules)
  rules_counted [] = refl
  rules_counted (rule ∷ rules) =
      ap (λ (n : ℕ). records_size (plain_records numbers rule) + n) (rules_counted rules) ∙ sym (records_append (plain_records numbers rule) (flat_map (plain_records numbers) rules))

  -- the size of the records of groups, group by group
  pub groups_counted : (groups : List GroupDef) → groups_size numbers groups ≡ records_size (flat_map rules_of (map (file_group numbers) groups))
  groups_counted [] = refl
  groups_counted (group ∷ groups) =
      let rules : List Rule = (file_group numbers group).rules in
      (λ i. (rules_counted group.rules ∙ ap records_size (plain_alone numbers group.rules)) i + groups_counted groups i)
      ∙ sym (records_append rules (flat_map rules_of (map (file_group numbers) groups)))

-- the size of a program's file without its picture is that of its tables without records, and that of the records
pub size_is : (program : Program) → picture_place (compiled_tables program) ≡ picture_place (without_records (expanded_tables program)) + records_size (all_rules (expanded_tables program))
unfolding expanded_tables compiled_tables
size_is program =
    let numbers : Numbers = numbers_of program in
    apart (compiled_tables program)
    ∙ (λ i. picture_place (record (expanded_tables program) { groups = same_outline numbers program.groups i }) + all_ordered numbers program.groups i)

-- the groups of statements without records
outlines : (numbers : Numbers) (groups : List GroupDef) → map (outline_group numbers) groups ≡ map without_rules (map (file_group numbers) groups)
outlines numbers [] = refl
outlines numbers (group ∷ groups) = ap (λ (rest : List Group). outline_group numbers group ∷ rest) (outlines numbers groups)

-- tables without stores and records, with the program's stores, are its tables without records
pub outline_is : (program : Program) (added : List Store) (made : Tables) → made ≡ outline_without_stores (numbers_of program) program (version_of program) → added ≡ compiled_stores program
    → record made { stores = added } ≡ without_records (expanded_tables program)
unfolding expanded_tables
outline_is program added made filled all =
    (λ j. record (filled j) { stores = all j }) ∙ (λ j. record (without_records (expanded_tables program)) { groups = outlines (numbers_of program) program.groups j })

-- the size of the records of a program's groups is that of the records of its tables
pub records_are : (program : Program) (size : ℕ) → size ≡ groups_size (numbers_of program) program.groups → size ≡ records_size (all_rules (expanded_tables program))
unfolding expanded_tables
records_are program size is = is ∙ groups_counted (numbers_of program) program.groups
