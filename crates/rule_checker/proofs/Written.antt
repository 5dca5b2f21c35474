-- The tables of an accepted program can be written, and have the records that the limits count.
use Rattle.std.proofs.Common.{◌≡◌, ℕ, ◌<◌, ◌⊎◌, inl, inr, Bool, true, false, List, [], ◌∷◌, length, map, Option, Some, None, option_map, unwrap_or, refl, sym, ap, subst, ◌∙◌, arith, if◌then◌else◌}
use Rattle.std.specs.Prelude.{All, flat_map, find, ◌||◌}
use Rattle.std.specs.List.{list_all, list_any, AllByRecursion}
use Rattle.std.proofs.lemmas.Bool.{and_parts, not-false}
use Rattle.std.proofs.lemmas.List.{length-map}
use Rattle.std.proofs.lemmas.List.Elements.{All-nil, All-cons, All-head, All-tail}
use Rattle.kmn_base.specs.declared.codes.Code.TheVariants.{C02, C06}
use Rattle.kmn_base.proofs.Elements.{All-append_parts}
use Rattle.rule_model.specs.declared.program.SrcItem.{SrcItem}
use Rattle.rule_model.specs.declared.program.BeginDef.{BeginDef}
use Rattle.rule_model.specs.declared.program.RuleDef.{RuleDef}
use Rattle.rule_model.specs.declared.program.GroupDef.{GroupDef}
use Rattle.rule_model.specs.declared.program.Program.{Program}
use Rattle.rule_model.specs.declared.tables.Store.{Store}
use Rattle.rule_model.specs.declared.tables.Tables.{Tables}
use Rattle.rule_model.specs.Match.{same_value}
use Rattle.rule_model.specs.Naming.{stores_of, rule_items, all_rules as program_rules}
use Rattle.rule_model.specs.Src.{is_unicode, value_elements}
use Rattle.rule_model.specs.OwnLines.{have_own_lines}
use Rattle.compile_laws.specs.Numbers.{numbers_of, number_of_group, number_of_start, stated_version, is_version as is_version_store, compiled_stores}
use Rattle.compile_laws.specs.Compiles.{Compiles, file_group, is_ansi}
use Rattle.compile_laws.specs.Ordered.{ordered_group, compiled_tables}
use Rattle.compile_laws.specs.WellNamed.{is_known_rule, is_known_group}
use Rattle.compile_laws.proofs.Known.{has_values}
use Rattle.compile_laws.proofs.Values.{values_known}
use Rattle.compile_laws.proofs.Ordered.{tables_are_only_ones}
use Rattle.kmx_format.specs.File.{all_rules}
use Rattle.kmx_format.specs.Versions.{is_version, file_versions}
use Rattle.kmx_format.specs.declared.versions.TheConstants.{OWN_VERSION}
use Rattle.kmx_format.specs.Writable.{IsWritable, IsWritableGroup}
use Rattle.kmn_parser.specs.ProgramLaws.{IsReadRule, IsReadGroup}
use Rattle.store_table.specs.Names.{stated, is_named, is_begun, begins_no_group, begin_code, begin_refusal}
use Rattle.store_table.specs.Known.{known}
use Rattle.item_checker.specs.Items.{rule_code, rule_refusal, rules_refusal}
use Rattle.rule_checker.specs.Limits.{in_line_order, all_records}
use Rattle.rule_checker.specs.Refused.{IsRead, refused}
use Rattle.rule_checker.proofs.Unrefused.{none_at_line, none_broken, none_first, Stands}
use Rattle.rule_checker.proofs.Lists.{all_true}
use Rattle.rule_checker.proofs.Accepted.{IsUnrefused, unrefused}
use Rattle.rule_checker.proofs.Stated.{group_there}
use Rattle.rule_checker.proofs.Named.{well_named}
use Rattle.rule_checker.proofs.Within.{IsShortRule, rules_are_short, few_groups, few_records, few_stores, few_in_all}
use Rattle.rule_checker.proofs.Numbers.{has_keys, keys_appear, rule_items_pass, group_number}
use Rattle.rule_checker.proofs.Elements.{stores_written}
use Rattle.rule_checker.proofs.Records.{IsSoundRule, group_written}
use Rattle.rule_checker.proofs.RecordCounts.{records_counted}

-- each version that a source can state is one of the format
has_found : {X : Type 0} (P : ℕ → Type 0) (f : X → ℕ) (test : X → Bool) (xs : List X) (other : ℕ) → AllByRecursion (λ x. P (f x)) xs → P other → P (unwrap_or (option_map f (find test xs)) other)
has_found P f test [] other all h = h
has_found P f test (x ∷ xs) other all h = by (test x) (has_found P f test xs other all.1 h)
  where
    by : (b : Bool) → P (unwrap_or (option_map f (find test xs)) other) → P (unwrap_or (option_map f (if b then Some x else find test xs)) other)
    by true rest = all.0
    by false rest = rest

version_written : (store : Option Store) → is_version (stated_version store) ≡ true
version_written None = refl
version_written (Some store) =
    has_found (λ (version : ℕ). is_version version ≡ true) (λ (row : List ℕ × ℕ). row.1) (λ (row : List ℕ × ℕ). same_value (value_elements row.0) store.elements) file_versions OWN_VERSION
    (refl, (refl, (refl, (refl, (refl, (refl, (refl, (refl, (refl, tt))))))))) refl

module _ (program : Program) (read : IsRead program) (accepted : refused program ≡ None) where
  abbrev whole : IsUnrefused program
  whole = unrefused program accepted

  -- the start groups
  start_number : (start : BeginDef) → Stands (begin_refusal (stated program)) start → number_of_group (numbers_of program) start.group < length program.groups
  start_number start stands =
      let rows = none_broken C02 (is_begun stands.0 start) ((C06, begins_no_group (stated program) start) ∷ []) (none_at_line start.line (begin_code (stated program) (is_begun stands.0 start) start) stands.1) in
      let named = not-false (is_named (stated program).groups start.group) (none_broken C06 (begins_no_group (stated program) start) [] rows.1).0 in
      group_number program start.group (group_there program start.group named)

  ansi_start : (starts : List BeginDef) → AllByRecursion (Stands (begin_refusal (stated program))) starts
      → (number_of_start (numbers_of program) (find is_ansi starts) < length program.groups) ⊎ (number_of_start (numbers_of program) (find is_ansi starts) ≡ 0xFFFF_FFFF)
  ansi_start [] all = inr refl
  ansi_start (start ∷ starts) all = by (is_ansi start) (ansi_start starts all.1)
    where
      by : (b : Bool) → (number_of_start (numbers_of program) (find is_ansi starts) < length program.groups) ⊎ (number_of_start (numbers_of program) (find is_ansi starts) ≡ 0xFFFF_FFFF)
          → (number_of_start (numbers_of program) (if b then Some start else find is_ansi starts) < length program.groups) ⊎ (number_of_start (numbers_of program) (if b then Some start else find is_ansi starts) ≡ 0xFFFF_FFFF)
      by true rest = inl (start_number start all.0)
      by false rest = rest

  unicode_start : (starts : List BeginDef) → AllByRecursion (Stands (begin_refusal (stated program))) starts → list_any is_unicode starts ≡ true → number_of_start (numbers_of program) (find is_unicode starts) < length program.groups
  unicode_start [] all some = absurd (cc)
  unicode_start (start ∷ starts) all some = by (is_unicode start) some (λ g. unicode_start starts all.1 g)
    where
      by : (b : Bool) → (b || list_any is_unicode starts) ≡ true → (list_any is_unicode starts ≡ true → number_of_start (numbers_of program) (find is_unicode starts) < length program.groups)
          → number_of_start (numbers_of program) (if b then Some start else find is_unicode starts) < length program.groups
      by true g rest = start_number start all.0
      by false g rest = rest g

  -- the rules of a group
  abbrev Has : (SrcItem → Bool) → RuleDef → Type 0
  Has test rule = list_all test (rule_items rule) ≡ true

  rules_sound : (using_keys : Bool) (rules : List RuleDef) → All (IsReadRule using_keys) rules → All (λ rule. is_known_rule program using_keys rule ≡ true) rules → All (Has (has_values program)) rules
      → All (Has (has_keys program)) rules → AllByRecursion (Stands (rule_refusal (known program))) rules → All (IsShortRule (stores_of program)) rules → All (IsSoundRule program using_keys) rules
  rules_sound using_keys [] is named values keys codes short = All-nil (IsSoundRule program using_keys)
  rules_sound using_keys (rule ∷ rules) is named values keys codes short =
      All-cons (IsSoundRule program using_keys) rule rules
      (record {
        read = All-head (IsReadRule using_keys) rule rules is;
        named = All-head (λ r. is_known_rule program using_keys r ≡ true) rule rules named;
        values = All-head (Has (has_values program)) rule rules values;
        keys = All-head (Has (has_keys program)) rule rules keys;
        code = none_at_line rule.line (rule_code (known program) rule.kind rule) codes.0.1;
        short = All-head (IsShortRule (stores_of program)) rule rules short;
      })
      (rules_sound using_keys rules (All-tail (IsReadRule using_keys) rule rules is) (All-tail (λ r. is_known_rule program using_keys r ≡ true) rule rules named) (All-tail (Has (has_values program)) rule rules values)
      (All-tail (Has (has_keys program)) rule rules keys) codes.1 (All-tail (IsShortRule (stores_of program)) rule rules short))

  groups_written : (groups : List GroupDef) → All IsReadGroup groups → list_all (is_known_group program) groups ≡ true → list_all (λ (g : GroupDef). list_all (λ r. list_all (has_values program) (rule_items r)) g.rules) groups ≡ true
      → All (Has (has_keys program)) (flat_map (λ (g : GroupDef). g.rules) groups) → AllByRecursion (Stands (rules_refusal (known program))) groups → All (IsShortRule (stores_of program)) (flat_map (λ (g : GroupDef). g.rules) groups)
      → All (IsWritableGroup (length (compiled_stores program)) (length program.groups)) (map (λ group. ordered_group (file_group (numbers_of program) group)) groups)
  groups_written [] is named values keys codes short = All-nil (IsWritableGroup (length (compiled_stores program)) (length program.groups))
  groups_written (group ∷ groups) is named values keys codes short =
      let names = and_parts (is_known_group program group) (list_all (is_known_group program) groups) named in
      let rules = and_parts (have_own_lines group.rules) (list_all (is_known_rule program group.using_keys) group.rules) names.0 in
      let valued = and_parts (list_all (λ r. list_all (has_values program) (rule_items r)) group.rules) (list_all (λ (g : GroupDef). list_all (λ r. list_all (has_values program) (rule_items r)) g.rules) groups) values in
      let own = All-append_parts (Has (has_keys program)) group.rules (flat_map (λ (g : GroupDef). g.rules) groups) keys in
      let small = All-append_parts (IsShortRule (stores_of program)) group.rules (flat_map (λ (g : GroupDef). g.rules) groups) short in
      let here = All-head IsReadGroup group groups is in
      All-cons (IsWritableGroup (length (compiled_stores program)) (length program.groups)) (ordered_group (file_group (numbers_of program) group)) (map (λ g. ordered_group (file_group (numbers_of program) g)) groups)
      (group_written program read whole group here
      (rules_sound group.using_keys group.rules here.rules (all_true (is_known_rule program group.using_keys) group.rules rules.1) (all_true (λ r. list_all (has_values program) (rule_items r)) group.rules valued.0) own.0
      (none_first (rule_refusal (known program)) [] group.rules codes.0.1) small.0))
      (groups_written groups (All-tail IsReadGroup group groups is) names.1 valued.1 own.1 codes.1 small.1)

  all_written : All (IsWritableGroup (length (compiled_stores program)) (length program.groups)) (map (λ group. ordered_group (file_group (numbers_of program) group)) program.groups)
  all_written =
      groups_written program.groups read.statements.groups (well_named program read accepted).groups (values_known program)
      (all_true (λ r. list_all (has_keys program) (rule_items r)) (program_rules program) (rule_items_pass (has_keys program) program (keys_appear program)))
      (none_first (rules_refusal (known program)) [] program.groups whole.rule_items) (rules_are_short program whole)

-- the tables can be written
pub compiled_written : (program : Program) → IsRead program → refused program ≡ None → IsWritable (compiled_tables program)
unfolding compiled_tables
compiled_written program read accepted =
    let whole = unrefused program accepted in
    let group_of = λ (group : GroupDef). ordered_group (file_group (numbers_of program) group) in
    let count : length (map group_of program.groups) ≡ length program.groups = length-map program.groups group_of in
    let begins = none_first (begin_refusal (stated program)) [] program.begins whole.begins in
    record {
      version = version_written (find is_version_store (stores_of program));
      start_unicode = let lower = unicode_start program read accepted program.begins begins whole.start in omega (arith, lower, count);
      start_ansi = subst (λ (n : ℕ). (number_of_start (numbers_of program) (find is_ansi program.begins) < n) ⊎ (number_of_start (numbers_of program) (find is_ansi program.begins) ≡ 0xFFFF_FFFF))
          (sym count) (ansi_start program read accepted program.begins begins);
      stores = stores_written program read whole;
      groups = subst (λ (n : ℕ). All (IsWritableGroup (length (compiled_stores program)) n) (map group_of program.groups)) (sym count) (all_written program read accepted);
      store_count = few_stores program read whole;
      group_count = let few = few_groups program whole in omega (arith, few, count);
      rule_count = let few = few_records program whole in omega (arith, few, records_counted program read whole);
      element_count = few_in_all program read whole;
    }

pub tables_written : (program : Program) (tables : Tables) → IsRead program → refused program ≡ None → Compiles program tables → IsWritable tables
tables_written program tables read accepted compiles =
    subst IsWritable (sym (tables_are_only_ones program tables read.order.own compiles)) (compiled_written program read accepted)

pub table_records_counted : (program : Program) (tables : Tables) → IsRead program → refused program ≡ None → Compiles program tables
    → all_records (known program) (in_line_order program.stores (program_rules program)) ≡ length (all_rules tables)
table_records_counted program tables read accepted compiles =
    records_counted program read (unrefused program accepted) ∙ sym (ap (λ (t : Tables). length (all_rules t)) (tables_are_only_ones program tables read.order.own compiles))
