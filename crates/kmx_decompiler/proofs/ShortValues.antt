-- Each value of the program that playable tables are written out as fits in a store.
use Rattle.std.proofs.Common.{ℕ, zero, suc, ◌+◌, ◌≤◌, List, [], ◌∷◌, ◌++◌, length, drop, map, arith}
use Rattle.std.specs.Prelude.{All, flat_map, filter_map, slice_get, unwrap_or, option_to_list}
use Rattle.std.specs.List.{AllByRecursion}
use Rattle.std.specs.Str.{bytes_eq}
use Rattle.std.proofs.lemmas.List.Elements.{All-head, All-tail, All-nil, recursion_from_All}
use Rattle.kmn_base.specs.declared.items.Element.{Element}
use Rattle.kmn_base.specs.declared.keys.RuleKey.{RuleKey}
use Rattle.kmn_base.specs.declared.keys.RuleKey.TheVariants as key
use Rattle.kmn_base.specs.declared.limits.TheConstants.{STORE_ELEMENTS}
use Rattle.rule_model.specs.declared.program.SrcItem.{SrcItem}
use Rattle.rule_model.specs.declared.program.RuleDef.{RuleDef}
use Rattle.rule_model.specs.declared.program.RuleKind.{RuleKind}
use Rattle.rule_model.specs.declared.program.RuleKind.TheVariants.{OnMatch, OnNoMatch}
use Rattle.rule_model.specs.declared.program.GroupDef.{GroupDef}
use Rattle.rule_model.specs.declared.tables.Pat.{Pat}
use Rattle.rule_model.specs.declared.tables.Pat.TheVariants as pattern
use Rattle.rule_model.specs.declared.tables.Out.{Out}
use Rattle.rule_model.specs.declared.tables.Out.TheVariants as output
use Rattle.rule_model.specs.declared.tables.Rule.{Rule}
use Rattle.rule_model.specs.declared.tables.Store.{Store}
use Rattle.rule_model.specs.declared.tables.Group.{Group}
use Rattle.rule_model.specs.declared.tables.Tables.{Tables}
use Rattle.rule_model.specs.Tab.{elements_of, element_char}
use Rattle.rule_model.specs.Naming.{rule_items}
use Rattle.compile_laws.specs.Numbers.{item_values, values_of}
use Rattle.kmx_format.specs.Playable.{IsPlayable, IsPlayableStore}
use Rattle.rule_checker.proofs.Lists.{All-distinct, all_of}
use Rattle.decompile_program.specs.Items.{Names, value_called, back_pattern, back_output, back_key, some_items}
use Rattle.decompile_program.specs.Back.{back_rule, back_rules, back_statement, match_line, nomatch_line, back_group, back_groups, names_for, written_stores, written_begins, back}
use Rattle.decompile_program.proofs.WrittenCharacters.{characters-few}
use Rattle.decompile_program.proofs.Choosing.{all_join, all_parts}
use Rattle.kmx_decompiler.proofs.GroupRules.{rules_of}

abbrev pub IsShortValue : List ℕ → Type 0
IsShortValue value = length value ≤ STORE_ELEMENTS

none-over : 0 ≤ STORE_ELEMENTS
none-over = omega arith

elements-few : (stores : List Store) (n : ℕ) → All IsPlayableStore stores → length (elements_of stores n) ≤ STORE_ELEMENTS
elements-few [] n h = none-over
elements-few (s ∷ stores) zero h = (All-head IsPlayableStore s stores h).element_count
elements-few (s ∷ stores) (suc n) h = elements-few stores n (All-tail IsPlayableStore s stores h)

abbrev HasShortValues : SrcItem → Type 0
HasShortValues item = AllByRecursion IsShortValue (item_values item)

gathered : (items : List SrcItem) → AllByRecursion HasShortValues items → AllByRecursion IsShortValue (flat_map item_values items)
gathered [] h = tt
gathered (item ∷ items) h = all_join IsShortValue (item_values item) (flat_map item_values items) h.0 (gathered items h.1)

mapped : {X : Type 0} (f : X → SrcItem) → ((x : X) → HasShortValues (f x)) → (xs : List X) → AllByRecursion HasShortValues (map f xs)
mapped f each [] = tt
mapped f each (x ∷ xs) = (each x, mapped f each xs)

joined : (xs ys : List RuleDef) → AllByRecursion HasShortValues (flat_map rule_items xs) → AllByRecursion HasShortValues (flat_map rule_items ys)
    → AllByRecursion HasShortValues (flat_map rule_items (xs ++ ys))
joined [] ys h k = k
joined (x ∷ xs) ys h k =
    let parts = all_parts HasShortValues (rule_items x) (flat_map rule_items xs) h in
    all_join HasShortValues (rule_items x) (flat_map rule_items (xs ++ ys)) parts.0 (joined xs ys parts.1 k)

module _ (names : Names) (short : (n : ℕ) → IsShortValue (value_called names n)) where
  pattern-short : (p : Pat) → HasShortValues (back_pattern names p)
  pattern-short (pattern.Equal s value) = (short value, tt)
  pattern-short (pattern.Unequal s value) = (short value, tt)
  pattern-short (pattern.SystemEqual id value) = (short value, tt)
  pattern-short (pattern.SystemUnequal id value) = (short value, tt)
  pattern-short p = tt

  output-short : (o : Out) → HasShortValues (back_output names o)
  output-short (output.Set s value) = (short value, tt)
  output-short (output.SetSystem id value) = (short value, tt)
  output-short o = tt

  some-short : (os : List Out) → AllByRecursion HasShortValues (some_items (map (back_output names) os))
  some-short [] = (tt, tt)
  some-short (o ∷ os) = mapped (back_output names) output-short (o ∷ os)

  key-short : (k : RuleKey) → AllByRecursion HasShortValues (option_to_list (back_key names k))
  key-short key.Any = tt
  key-short (key.Char c) = (tt, tt)
  key-short (key.Virtual flags code) = (tt, tt)

  rules-short : (line : ℕ) (rules : List Rule) → AllByRecursion HasShortValues (flat_map rule_items (back_rules names line rules))
  rules-short line [] = tt
  rules-short line (rule ∷ rules) =
      all_join HasShortValues (rule_items (back_rule names line rule)) (flat_map rule_items (back_rules names (line + 1) rules))
      (all_join HasShortValues (map (back_pattern names) rule.context) (option_to_list (back_key names rule.key) ++ some_items (map (back_output names) rule.output))
      (mapped (back_pattern names) pattern-short rule.context)
      (all_join HasShortValues (option_to_list (back_key names rule.key)) (some_items (map (back_output names) rule.output)) (key-short rule.key) (some-short rule.output)))
      (rules-short (line + 1) rules)

  statement-short : (kind : RuleKind) (line : ℕ) (os : List Out) → AllByRecursion HasShortValues (flat_map rule_items (back_statement names kind line os))
  statement-short kind line [] = tt
  statement-short kind line (o ∷ os) = all_join HasShortValues (map (back_output names) (o ∷ os)) [] (mapped (back_output names) output-short (o ∷ os)) tt

  groups-short : (line : ℕ) (called : List (List ℕ)) (groups : List Group) → AllByRecursion HasShortValues (flat_map rule_items (flat_map rules_of (back_groups names line called groups)))
  groups-short line called [] = tt
  groups-short line called (g ∷ groups) =
      let written : GroupDef = back_group names line (unwrap_or (slice_get called 0) []) g in
      let matched : List RuleDef = back_statement names OnMatch (match_line line g) g.on_match in
      let unmatched : List RuleDef = back_statement names OnNoMatch (nomatch_line names line g) g.on_nomatch in
      joined written.rules (flat_map rules_of (back_groups names (line + 1 + length written.rules) (drop 1 called) groups))
      (joined (back_rules names (line + 1) g.rules) (matched ++ unmatched) (rules-short (line + 1) g.rules)
      (joined matched unmatched (statement-short OnMatch (match_line line g) g.on_match) (statement-short OnNoMatch (nomatch_line names line g) g.on_nomatch)))
      (groups-short (line + 1 + length written.rules) (drop 1 called) groups)

within : (a b limit : ℕ) → a ≤ b → b ≤ limit → a ≤ limit
within a b limit h k = omega arith

pub values_short : (tables : Tables) → IsPlayable tables → AllByRecursion IsShortValue (values_of (back tables))
unfolding values_of back
values_short tables can =
    let items = groups-short (names_for tables)
    (λ n. within (length (value_called (names_for tables) n)) (length (elements_of tables.stores n)) STORE_ELEMENTS (characters-few (elements_of tables.stores n)) (elements-few tables.stores n can.stores))
    (1 + length (written_stores tables) + length (written_begins tables)) (names_for tables).groups tables.groups in
    let values = gathered (flat_map rule_items (flat_map rules_of (back_groups (names_for tables) (1 + length (written_stores tables) + length (written_begins tables)) (names_for tables).groups tables.groups))) items in
    recursion_from_All IsShortValue _ (All-distinct IsShortValue bytes_eq [] _ (All-nil IsShortValue) (all_of IsShortValue _ values))
