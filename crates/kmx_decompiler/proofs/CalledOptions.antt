-- The options of the program that tables are written out as have the names by which the options of the tables are called.
use Rattle.std.proofs.Common.{◌≡◌, ℕ, ◌+◌, true, false, List, [], ◌∷◌, ◌++◌, length, drop, map, refl, ◌∙◌}
use Rattle.std.specs.Prelude.{flat_map, nat_eq, slice_get, unwrap_or, option_to_list}
use Rattle.std.specs.List.{list_any, AllByRecursion}
use Rattle.std.proofs.lemmas.Bool.{or_left, or_right, eq-eqb, or_from}
use Rattle.kmn_base.specs.Names.{same_name}
use Rattle.kmn_base.specs.declared.keys.RuleKey.{RuleKey}
use Rattle.kmn_base.specs.declared.keys.RuleKey.TheVariants as key
use Rattle.rule_model.specs.declared.program.RuleDef.{RuleDef}
use Rattle.rule_model.specs.declared.program.RuleKind.{RuleKind}
use Rattle.rule_model.specs.declared.program.RuleKind.TheVariants.{OnMatch, OnNoMatch}
use Rattle.rule_model.specs.declared.program.GroupDef.{GroupDef}
use Rattle.rule_model.specs.declared.tables.Pat.{Pat}
use Rattle.rule_model.specs.declared.tables.Pat.TheVariants as pattern
use Rattle.rule_model.specs.declared.tables.Out.{Out}
use Rattle.rule_model.specs.declared.tables.Out.TheVariants as output
use Rattle.rule_model.specs.declared.tables.Rule.{Rule}
use Rattle.rule_model.specs.declared.tables.Group.{Group}
use Rattle.rule_model.specs.declared.tables.Tables.{Tables}
use Rattle.rule_model.specs.Tab.{tab_options, pattern_options, output_options, rule_options, group_options}
use Rattle.store_table.specs.Names.{is_named}
use Rattle.store_table.specs.Known.{known, option_named}
use Rattle.store_table.specs.Known.{rule_options as source_options}
use Rattle.item_checker.specs.Items.{is_option}
use Rattle.decompile_program.specs.Items.{Names, store_called, back_pattern, back_output, back_key, some_items}
use Rattle.decompile_program.specs.Back.{back_rule, back_rules, back_statement, match_line, nomatch_line, back_group, back_groups, names_for, written_stores, written_begins, back}
use Rattle.decompile_program.proofs.Choosing.{all_join, all_parts}
use Rattle.decompile_program.proofs.Good.{IsOption}
use Rattle.kmx_decompiler.proofs.StatedNames.{named-cons}
use Rattle.kmx_decompiler.proofs.ApartNames.{named-none}
use Rattle.kmx_decompiler.proofs.GroupRules.{rules_of}

-- if all names that `f` returns for the items of each of two lists have a property, so have those for both lists together
join-flat : {X : Type 0} (P : List ℕ → Type 0) (f : X → List (List ℕ)) (xs ys : List X) → AllByRecursion P (flat_map f xs) → AllByRecursion P (flat_map f ys)
    → AllByRecursion P (flat_map f (xs ++ ys))
join-flat P f [] ys h k = k
join-flat P f (x ∷ xs) ys h k =
    let parts = all_parts P (f x) (flat_map f xs) h in
    all_join P (f x) (flat_map f (xs ++ ys)) parts.0 (join-flat P f xs ys parts.1 k)

module _ (names : Names) (P : List ℕ → Type 0) where
  abbrev Called : ℕ → Type 0
  Called n = P (store_called names n)

  pattern-called : (x : Pat) → AllByRecursion Called (pattern_options x) → AllByRecursion P (option_named (back_pattern names x))
  pattern-called (pattern.Equal s v) h = h
  pattern-called (pattern.Unequal s v) h = h
  pattern-called x h = tt

  output-called : (x : Out) → AllByRecursion Called (output_options x) → AllByRecursion P (option_named (back_output names x))
  output-called (output.Set s v) h = h
  output-called (output.Save s) h = h
  output-called (output.Reset s) h = h
  output-called x h = tt

  patterns-called : (xs : List Pat) → AllByRecursion Called (flat_map pattern_options xs) → AllByRecursion P (flat_map option_named (map (back_pattern names) xs))
  patterns-called [] h = tt
  patterns-called (x ∷ xs) h =
      let parts = all_parts Called (pattern_options x) (flat_map pattern_options xs) h in
      all_join P (option_named (back_pattern names x)) (flat_map option_named (map (back_pattern names) xs)) (pattern-called x parts.0) (patterns-called xs parts.1)

  outputs-called : (xs : List Out) → AllByRecursion Called (flat_map output_options xs) → AllByRecursion P (flat_map option_named (map (back_output names) xs))
  outputs-called [] h = tt
  outputs-called (x ∷ xs) h =
      let parts = all_parts Called (output_options x) (flat_map output_options xs) h in
      all_join P (option_named (back_output names x)) (flat_map option_named (map (back_output names) xs)) (output-called x parts.0) (outputs-called xs parts.1)

  some-called : (xs : List Out) → AllByRecursion Called (flat_map output_options xs) → AllByRecursion P (flat_map option_named (some_items (map (back_output names) xs)))
  some-called [] h = tt
  some-called (x ∷ xs) h = outputs-called (x ∷ xs) h

  key-called : (k : RuleKey) → AllByRecursion P (flat_map option_named (option_to_list (back_key names k)))
  key-called key.Any = tt
  key-called (key.Char c) = tt
  key-called (key.Virtual flags code) = tt

  rule-called : (line : ℕ) (rule : Rule) → AllByRecursion Called (rule_options rule) → AllByRecursion P (source_options (back_rule names line rule))
  rule-called line rule h =
      let parts = all_parts Called (flat_map pattern_options rule.context) (flat_map output_options rule.output) h in
      join-flat P option_named (map (back_pattern names) rule.context) (option_to_list (back_key names rule.key) ++ some_items (map (back_output names) rule.output))
      (patterns-called rule.context parts.0)
      (join-flat P option_named (option_to_list (back_key names rule.key)) (some_items (map (back_output names) rule.output)) (key-called rule.key) (some-called rule.output parts.1))

  rules-called : (line : ℕ) (rules : List Rule) → AllByRecursion Called (flat_map rule_options rules) → AllByRecursion P (flat_map source_options (back_rules names line rules))
  rules-called line [] h = tt
  rules-called line (rule ∷ rules) h =
      let parts = all_parts Called (rule_options rule) (flat_map rule_options rules) h in
      all_join P (source_options (back_rule names line rule)) (flat_map source_options (back_rules names (line + 1) rules)) (rule-called line rule parts.0) (rules-called (line + 1) rules parts.1)

  statement-called : (kind : RuleKind) (line : ℕ) (os : List Out) → AllByRecursion Called (flat_map output_options os)
      → AllByRecursion P (flat_map source_options (back_statement names kind line os))
  statement-called kind line [] h = tt
  statement-called kind line (o ∷ os) h = all_join P (flat_map option_named (map (back_output names) (o ∷ os))) [] (outputs-called (o ∷ os) h) tt

  group-called : (line : ℕ) (name : List ℕ) (g : Group) → AllByRecursion Called (group_options g) → AllByRecursion P (flat_map source_options (back_group names line name g).rules)
  group-called line name g h =
      let matched : List RuleDef = back_statement names OnMatch (match_line line g) g.on_match in
      let unmatched : List RuleDef = back_statement names OnNoMatch (nomatch_line names line g) g.on_nomatch in
      let one = all_parts Called (flat_map rule_options g.rules) (flat_map output_options g.on_match ++ flat_map output_options g.on_nomatch) h in
      let two = all_parts Called (flat_map output_options g.on_match) (flat_map output_options g.on_nomatch) one.1 in
      join-flat P source_options (back_rules names (line + 1) g.rules) (matched ++ unmatched) (rules-called (line + 1) g.rules one.0)
      (join-flat P source_options matched unmatched (statement-called OnMatch (match_line line g) g.on_match two.0) (statement-called OnNoMatch (nomatch_line names line g) g.on_nomatch two.1))

  groups-called : (line : ℕ) (called : List (List ℕ)) (gs : List Group) → AllByRecursion Called (flat_map group_options gs)
      → AllByRecursion P (flat_map source_options (flat_map rules_of (back_groups names line called gs)))
  groups-called line called [] h = tt
  groups-called line called (g ∷ gs) h =
      let name : List ℕ = unwrap_or (slice_get called 0) [] in
      let written : GroupDef = back_group names line name g in
      let parts = all_parts Called (group_options g) (flat_map group_options gs) h in
      join-flat P source_options written.rules (flat_map rules_of (back_groups names (line + 1 + length written.rules) (drop 1 called) gs))
      (group-called line name g parts.0) (groups-called (line + 1 + length written.rules) (drop 1 called) gs parts.1)

pub options_called : (tables : Tables) (P : List ℕ → Type 0) → AllByRecursion (λ n. P (store_called (names_for tables) n)) (tab_options tables)
    → AllByRecursion P (known (back tables)).options
unfolding known back tab_options
options_called tables P h =
    groups-called (names_for tables) P (1 + length (written_stores tables) + length (written_begins tables)) (names_for tables).groups tables.groups h

-- if each number that is in a list has a property, all elements of the list have it
each-of : (P : ℕ → Type 0) (xs : List ℕ) → ((n : ℕ) → list_any (nat_eq n) xs ≡ true → P n) → AllByRecursion P xs
each-of P [] h = tt
each-of P (x ∷ xs) h = (h x (or_left (nat_eq x x) (list_any (nat_eq x) xs) (eq-eqb x x refl)), each-of P xs (λ n e. h n (or_right (nat_eq n x) (list_any (nat_eq n) xs) e)))

not-among : (x : List ℕ) (names : List (List ℕ)) → AllByRecursion (λ (y : List ℕ). same_name x y ≡ false) names → is_named names x ≡ false
not-among x [] h = named-none x
not-among x (y ∷ names) h = named-cons y names x ∙ or_from (same_name x y) (is_named names x) h.0 (not-among x names h.1)

-- if no option of the tables is called by a name, the name is not an option of the program
pub not_option : (tables : Tables) (x : List ℕ) → ((n : ℕ) → IsOption tables n → same_name x (store_called (names_for tables) n) ≡ false) → is_option (known (back tables)) x ≡ false
not_option tables x h =
    not-among x (known (back tables)).options (options_called tables (λ (y : List ℕ). same_name x y ≡ false)
    (each-of (λ n. same_name x (store_called (names_for tables) n) ≡ false) (tab_options tables) h))
