-- The values of the program that tables are written out as are the characters of the stores that items have as values.
use Rattle.std.proofs.Common.{◌≡◌, ℕ, ◌+◌, List, [], ◌∷◌, ◌++◌, length, drop, map, refl, sym, ap, ◌∙◌, append-nil}
use Rattle.std.specs.Prelude.{flat_map, option_to_list, slice_get, unwrap_or}
use Rattle.std.specs.Str.{bytes_eq}
use Rattle.std.proofs.lemmas.List.{map-append}
use Rattle.std.proofs.lemmas.List.Concat.{flat_map-append}
use Rattle.kmn_base.specs.declared.keys.RuleKey.{RuleKey}
use Rattle.kmn_base.specs.declared.keys.RuleKey.TheVariants as key
use Rattle.rule_model.specs.declared.program.SrcItem.{SrcItem}
use Rattle.rule_model.specs.declared.program.RuleDef.{RuleDef}
use Rattle.rule_model.specs.declared.program.RuleKind.{RuleKind}
use Rattle.rule_model.specs.declared.program.RuleKind.TheVariants.{OnMatch, OnNoMatch}
use Rattle.rule_model.specs.declared.program.GroupDef.{GroupDef}
use Rattle.rule_model.specs.declared.tables.Pat.{Pat}
use Rattle.rule_model.specs.declared.tables.Pat.TheVariants as pattern
use Rattle.rule_model.specs.declared.tables.Out.{Out}
use Rattle.rule_model.specs.declared.tables.Out.TheVariants as output
use Rattle.rule_model.specs.declared.tables.Rule.{Rule}
use Rattle.rule_model.specs.declared.tables.Group.{Group}
use Rattle.rule_model.specs.declared.tables.Tables.{Tables}
use Rattle.rule_model.specs.Tab.{distinct_onto}
use Rattle.rule_model.specs.Naming.{rule_items}
use Rattle.compile_laws.specs.Numbers.{item_values, values_of}
use Rattle.decompile_program.specs.Items.{Names, value_called, back_pattern, back_output, back_key, some_items}
use Rattle.decompile_program.specs.Back.{back_rule, back_rules, back_statement, match_line, nomatch_line, back_group, back_groups, names_for, written_stores, written_begins, back}
use Rattle.decompile_program.specs.WrittenOut.{pattern_values, output_values, rule_values, group_values, table_values}
use Rattle.kmx_decompiler.specs.Values.{with_values}
use Rattle.kmx_decompiler.proofs.ValueSets.{all_values}

abbrev stated : List SrcItem → List (List ℕ)
stated items = flat_map item_values items

stated-append : (xs ys : List SrcItem) → stated (xs ++ ys) ≡ stated xs ++ stated ys
stated-append xs ys = flat_map-append item_values xs ys

abbrev rule_stated : List RuleDef → List (List ℕ)
rule_stated rules = stated (flat_map rule_items rules)

rules-append : (xs ys : List RuleDef) → rule_stated (xs ++ ys) ≡ rule_stated xs ++ rule_stated ys
rules-append xs ys = ap stated (flat_map-append rule_items xs ys) ∙ stated-append (flat_map rule_items xs) (flat_map rule_items ys)

module _ (names : Names) where
  abbrev called : List ℕ → List (List ℕ)
  called ns = map (value_called names) ns

  called-append : (xs ys : List ℕ) → called (xs ++ ys) ≡ called xs ++ called ys
  called-append xs ys = map-append (value_called names) xs ys

  pattern-stated : (p : Pat) → item_values (back_pattern names p) ≡ called (pattern_values p)
  pattern-stated (pattern.Equal s value) = refl
  pattern-stated (pattern.Unequal s value) = refl
  pattern-stated (pattern.SystemEqual id value) = refl
  pattern-stated (pattern.SystemUnequal id value) = refl
  pattern-stated p = refl

  output-stated : (o : Out) → item_values (back_output names o) ≡ called (output_values o)
  output-stated (output.Set s value) = refl
  output-stated (output.SetSystem id value) = refl
  output-stated o = refl

  context-stated : (ps : List Pat) → stated (map (back_pattern names) ps) ≡ called (flat_map pattern_values ps)
  context-stated [] = refl
  context-stated (p ∷ ps) = (λ j. pattern-stated p j ++ context-stated ps j) ∙ sym (called-append (pattern_values p) (flat_map pattern_values ps))

  outputs-stated : (os : List Out) → stated (map (back_output names) os) ≡ called (flat_map output_values os)
  outputs-stated [] = refl
  outputs-stated (o ∷ os) = (λ j. output-stated o j ++ outputs-stated os j) ∙ sym (called-append (output_values o) (flat_map output_values os))

  some-stated : (os : List Out) → stated (some_items (map (back_output names) os)) ≡ called (flat_map output_values os)
  some-stated [] = refl
  some-stated (o ∷ os) = outputs-stated (o ∷ os)

  key-stated : (k : RuleKey) → stated (option_to_list (back_key names k)) ≡ []
  key-stated key.Any = refl
  key-stated (key.Char c) = refl
  key-stated (key.Virtual flags code) = refl

  rule-item-stated : (line : ℕ) (rule : Rule) → stated (rule_items (back_rule names line rule)) ≡ called (rule_values rule)
  rule-item-stated line rule =
      let context : List SrcItem = map (back_pattern names) rule.context in
      let last : List SrcItem = some_items (map (back_output names) rule.output) in
      stated-append context (option_to_list (back_key names rule.key) ++ last)
      ∙ ap (λ (values : List (List ℕ)). stated context ++ values) (stated-append (option_to_list (back_key names rule.key)) last)
      ∙ (λ j. context-stated rule.context j ++ (key-stated rule.key j ++ some-stated rule.output j))
      ∙ sym (called-append (flat_map pattern_values rule.context) (flat_map output_values rule.output))

  records-stated : (line : ℕ) (rules : List Rule) → rule_stated (back_rules names line rules) ≡ called (flat_map rule_values rules)
  records-stated line [] = refl
  records-stated line (rule ∷ rules) =
      stated-append (rule_items (back_rule names line rule)) (flat_map rule_items (back_rules names (line + 1) rules))
      ∙ (λ j. rule-item-stated line rule j ++ records-stated (line + 1) rules j)
      ∙ sym (called-append (rule_values rule) (flat_map rule_values rules))

  statement-stated : (kind : RuleKind) (line : ℕ) (os : List Out) → rule_stated (back_statement names kind line os) ≡ called (flat_map output_values os)
  statement-stated kind line [] = refl
  statement-stated kind line (o ∷ os) = ap stated (append-nil (map (back_output names) (o ∷ os))) ∙ outputs-stated (o ∷ os)

  group-stated : (line : ℕ) (name : List ℕ) (group : Group) → rule_stated (back_group names line name group).rules ≡ called (group_values group)
  group-stated line name group =
      let records : List RuleDef = back_rules names (line + 1) group.rules in
      let matched : List RuleDef = back_statement names OnMatch (match_line line group) group.on_match in
      let unmatched : List RuleDef = back_statement names OnNoMatch (nomatch_line names line group) group.on_nomatch in
      rules-append records (matched ++ unmatched)
      ∙ ap (λ (values : List (List ℕ)). rule_stated records ++ values) (rules-append matched unmatched)
      ∙ (λ j. records-stated (line + 1) group.rules j ++ (statement-stated OnMatch (match_line line group) group.on_match j ++ statement-stated OnNoMatch (nomatch_line names line group) group.on_nomatch j))
      ∙ ap (λ (values : List (List ℕ)). called (flat_map rule_values group.rules) ++ values) (sym (called-append (flat_map output_values group.on_match) (flat_map output_values group.on_nomatch)))
      ∙ sym (called-append (flat_map rule_values group.rules) (flat_map output_values group.on_match ++ flat_map output_values group.on_nomatch))

  groups-stated : (line : ℕ) (calls : List (List ℕ)) (groups : List Group)
      → rule_stated (flat_map (λ (group : GroupDef). group.rules) (back_groups names line calls groups)) ≡ called (flat_map group_values groups)
  groups-stated line calls [] = refl
  groups-stated line calls (group ∷ groups) =
      let written : GroupDef = back_group names line (unwrap_or (slice_get calls 0) []) group in
      rules-append written.rules (flat_map (λ (g : GroupDef). g.rules) (back_groups names (line + 1 + length written.rules) (drop 1 calls) groups))
      ∙ (λ j. group-stated line (unwrap_or (slice_get calls 0) []) group j ++ groups-stated (line + 1 + length written.rules) (drop 1 calls) groups j)
      ∙ sym (called-append (group_values group) (flat_map group_values groups))

pub text_values : (tables : Tables) → values_of (back tables) ≡ with_values (names_for tables) [] (table_values tables)
unfolding values_of back table_values
text_values tables =
    ap (distinct_onto bytes_eq [])
    (groups-stated (names_for tables) (1 + length (written_stores tables) + length (written_begins tables)) (names_for tables).groups tables.groups)
    ∙ sym (all_values (names_for tables) [] (flat_map group_values tables.groups))
