-- If tables have no cause, their rules and groups can be written.
use Rattle.std.proofs.Common.{◌≡◌, ℕ, suc, ◌+◌, ◌<◌, ◌≤◌, Bool, true, false, ◌||◌, List, [], ◌∷◌, ◌++◌, length, drop, map, refl, sym, ap, subst, arith, length-drop}
use Rattle.std.specs.Prelude.{All, nat_eq, nat_lt, slice_get, unwrap_or, filter}
use Rattle.std.specs.List.{list_any, AllByRecursion}
use Rattle.std.proofs.lemmas.Bool.{or_parts, eqb-true, ltb-false}
use Rattle.std.proofs.lemmas.List.{length-map}
use Rattle.std.proofs.lemmas.List.Elements.{All-head, All-tail, All-drop, All-from_recursion, recursion_from_All}
use Rattle.kmn_items.specs.Item.{unseen}
use Rattle.rule_model.specs.declared.program.RuleDef.{RuleDef}
use Rattle.rule_model.specs.declared.program.RuleKind.{RuleKind}
use Rattle.rule_model.specs.declared.program.RuleKind.TheVariants.{OnMatch, OnNoMatch}
use Rattle.rule_model.specs.declared.tables.Pat.{Pat}
use Rattle.rule_model.specs.declared.tables.Pat.TheVariants as pattern
use Rattle.rule_model.specs.declared.tables.Out.{Out}
use Rattle.rule_model.specs.declared.tables.Out.TheVariants as output
use Rattle.rule_model.specs.declared.tables.Rule.{Rule}
use Rattle.rule_model.specs.declared.tables.Store.{Store}
use Rattle.rule_model.specs.declared.tables.Group.{Group}
use Rattle.rule_model.specs.declared.tables.Tables.{Tables}
use Rattle.rule_model.specs.Tab.{elements_of}
use Rattle.kmx_format.specs.FileUnits.{unit_item_of_pattern, unit_item_of_output}
use Rattle.kmx_format.specs.Playable.{IsPlayable, IsPlayableGroup}
use Rattle.kmx_format.specs.Writable.{has_system_id, sets_system_id, IsWritableRule}
use Rattle.kmn_base.specs.Spelling.{IsSpellable}
use Rattle.kmn_parser.specs.Spelled.{IsSpelledName, IsStoreName, IsSpelledRule, AreSpelledRules, AreSpelledGroups}
use Rattle.decompile_program.specs.Names.{named_stores, free_names}
use Rattle.decompile_program.specs.Items.{Names, store_called, group_called}
use Rattle.decompile_program.specs.Back.{back_rule, back_rules, back_statement, match_line, nomatch_line, back_group, back_groups, mark_stores, key_stores, free_stores, names_for}
use Rattle.decompile_program.specs.WrittenOut.{is_ordinary, CanBeWrittenOut}
use Rattle.decompile_program.proofs.Free.{free_names-count}
use Rattle.decompile_program.proofs.Good.{IsNamed, GoodPattern, GoodOutput, GoodRule, GoodGroup, groups_good}
use Rattle.decompile_program.proofs.Groups.{group_count}
use Rattle.decompile_program.proofs.FrontCounts.{behind-size}
use Rattle.kmx_decompiler.specs.Causes.{is_unspelled_pattern, is_unspelled_output, is_unspelled_value, stands_behind_match}
use Rattle.rule_model.specs.Patterns.{is_nul}
use Rattle.kmx_decompiler.specs.Laws.{HasTextNames}
use Rattle.kmx_decompiler.proofs.Sayable.{IsSayableRule, IsSayableGroup, IsSayable}
use Rattle.kmx_decompiler.proofs.WrittenOut.{pattern-parts, output-parts}
use Rattle.kmx_decompiler.proofs.TameNames.{store_numbered, group_numbered}
use Rattle.kmx_decompiler.proofs.CalledNames.{HasText, GroupHasText, AreNamed, free_spelled, are_named, name_called, groups_named, group_at}
use Rattle.kmx_decompiler.proofs.SpelledKeys.{keys_named}
use Rattle.kmx_decompiler.proofs.SpelledItems.{character, mark_name, key_as_spelled, value_spelled, IsSpelledPattern, context_spelled, IsSpelledOutput, output_spelled, some_spelled}

pub all-at : (P : ℕ → Type 0) (xs : List ℕ) (n : ℕ) → All P xs → list_any (nat_eq n) xs ≡ true → P n
all-at P [] n h a = absurd (cc)
all-at P (x ∷ xs) n h a = by (nat_eq n x) refl a (λ g. all-at P xs n (All-tail P x xs h) g)
  where
    by : (b : Bool) → nat_eq n x ≡ b → (b || list_any (nat_eq n) xs) ≡ true → (list_any (nat_eq n) xs ≡ true → P n) → P n
    by true e g rest = subst P (sym (eqb-true n x e)) (All-head P x xs h)
    by false e g rest = rest g

module _ (tables : Tables) (can : IsPlayable tables) (said : IsSayable tables) (written : CanBeWrittenOut tables) (texts : HasTextNames tables) where
  abbrev names : Names
  names = names_for tables

  pub free_all : AllByRecursion IsStoreName (free_stores tables)
  free_all =
      free_spelled (115 ∷ []) store_numbered (map (λ (store : Store). store.name) tables.stores) (length tables.stores + 2)
      (let l = length-map tables.stores (λ (store : Store). store.name) in let few = can.store_count in omega (arith, l, few))

  pub calls_named : AreNamed (named_stores tables) 0 names.stores tables.stores
  calls_named =
      let front : ℕ = length (mark_stores tables ++ key_stores tables) in
      are_named (named_stores tables) (drop front (free_stores tables)) [] 0 tables.stores
      (recursion_from_All IsStoreName (drop front (free_stores tables)) (All-drop IsStoreName front (free_stores tables) (All-from_recursion IsStoreName (free_stores tables) free_all)))
      (behind-size tables can)
      (recursion_from_All HasText tables.stores texts.stores)

  pub store_name : (n : ℕ) → IsNamed tables n → IsStoreName (store_called names n)
  store_name n a =
      name_called (named_stores tables) 0 names.stores tables.stores n n calls_named (omega arith)
      (all-at (λ m. is_ordinary (slice_get tables.stores m) ≡ true) (named_stores tables) n written.named a) a

  pub all_groups_named : AllByRecursion IsSpelledName names.groups
  all_groups_named =
      let l = length-map tables.groups (λ (group : Group). group.name) in
      let few = can.group_count in
      groups_named (free_names (103 ∷ []) (map (λ (group : Group). group.name) tables.groups) (length tables.groups)) [] tables.groups
      (free_spelled (103 ∷ []) group_numbered (map (λ (group : Group). group.name) tables.groups) (length tables.groups) (omega (arith, l, few)))
      (let c = free_names-count (103 ∷ []) (map (λ (group : Group). group.name) tables.groups) (length tables.groups) (omega (arith, l, few)) in omega (arith, c))
      (recursion_from_All GroupHasText tables.groups texts.groups)

  pub group_name : (g : ℕ) → g < length tables.groups → IsSpelledName (group_called names g)
  group_name g less =
      group_at names.groups g all_groups_named
      (let l = group_count (free_names (103 ∷ []) (map (λ (group : Group). group.name) tables.groups) (length tables.groups)) [] tables.groups in omega (arith, l))

  -- items
  pattern-spelled : (p : Pat) → GoodPattern tables p → is_unspelled_pattern names p ≡ false → IsSpellable (unit_item_of_pattern p) → has_system_id p ≡ true → IsSpelledPattern names p
  pattern-spelled (pattern.Char c) g h s i = character c s
  pattern-spelled (pattern.Mark m) g h s i = mark_name m (pattern-parts tables (pattern.Mark m) h).0
  pattern-spelled (pattern.Any n) g h s i = (store_name n g.named.0).named
  pattern-spelled (pattern.NotAny n) g h s i = (store_name n g.named.0).named
  pattern-spelled (pattern.Index n offset) g h s i = ((store_name n g.named.0).named, (let less = s.1.1 in omega arith))
  pattern-spelled (pattern.ContextAt offset) g h s i = (let less = s.1 in omega arith)
  pattern-spelled (pattern.Equal n value) g h s i =
      (store_name n g.named.0, value_spelled tables.stores value can.stores (or_parts (is_unspelled_value (elements_of tables.stores value)) false (pattern-parts tables (pattern.Equal n value) h).2).0)
  pattern-spelled (pattern.Unequal n value) g h s i =
      (store_name n g.named.0, value_spelled tables.stores value can.stores (or_parts (is_unspelled_value (elements_of tables.stores value)) false (pattern-parts tables (pattern.Unequal n value) h).2).0)
  pattern-spelled (pattern.SystemEqual id value) g h s i =
      (i, value_spelled tables.stores value can.stores (or_parts (is_unspelled_value (elements_of tables.stores value)) false (pattern-parts tables (pattern.SystemEqual id value) h).2).0)
  pattern-spelled (pattern.SystemUnequal id value) g h s i =
      (i, value_spelled tables.stores value can.stores (or_parts (is_unspelled_value (elements_of tables.stores value)) false (pattern-parts tables (pattern.SystemUnequal id value) h).2).0)
  pattern-spelled pattern.Nul g h s i = tt

  output-spelled : (o : Out) → GoodOutput tables o → is_unspelled_output names o ≡ false → IsSpellable (unit_item_of_output o) → sets_system_id o ≡ true → IsSpelledOutput names o
  output-spelled (output.Char c) g h s i = character c s
  output-spelled (output.Mark m) g h s i = mark_name m (output-parts tables (output.Mark m) h).0
  output-spelled (output.Index n offset) g h s i = ((store_name n g.named.0).named, (let less = s.1.1 in omega arith))
  output-spelled output.Context g h s i = tt
  output-spelled (output.ContextAt offset) g h s i = (let less = s.1 in omega arith)
  output-spelled (output.Enter n) g h s i = group_name n g.groups.0
  output-spelled (output.Set n value) g h s i =
      (store_name n g.named.0, value_spelled tables.stores value can.stores (or_parts (is_unspelled_value (elements_of tables.stores value)) false (output-parts tables (output.Set n value) h).2).0)
  output-spelled (output.SetSystem id value) g h s i =
      (i, value_spelled tables.stores value can.stores (or_parts (is_unspelled_value (elements_of tables.stores value)) false (output-parts tables (output.SetSystem id value) h).2).0)
  output-spelled (output.Save n) g h s i = (store_name n g.named.0).named
  output-spelled (output.Reset n) g h s i = (store_name n g.named.0).named
  output-spelled output.Nul g h s i = tt
  output-spelled output.Beep g h s i = tt
  output-spelled output.Stop g h s i = tt

  -- a system option of an item is one that a source can name
  abbrev HasSystemId : Pat → Type 0
  HasSystemId p = has_system_id p ≡ true

  abbrev SetsSystemId : Out → Type 0
  SetsSystemId o = sets_system_id o ≡ true

  patterns-spelled : (ps : List Pat) → AllByRecursion (GoodPattern tables) ps → list_any (is_unspelled_pattern names) ps ≡ false → All (λ p. IsSpellable (unit_item_of_pattern p)) ps → All HasSystemId ps
      → AllByRecursion (IsSpelledPattern names) ps
  patterns-spelled [] g h s i = tt
  patterns-spelled (p ∷ ps) g h s i =
      let parts = or_parts (is_unspelled_pattern names p) (list_any (is_unspelled_pattern names) ps) h in (
        pattern-spelled p g.0 parts.0 (All-head (λ p. IsSpellable (unit_item_of_pattern p)) p ps s) (All-head HasSystemId p ps i),
        patterns-spelled ps g.1 parts.1 (All-tail (λ p. IsSpellable (unit_item_of_pattern p)) p ps s) (All-tail HasSystemId p ps i),
      )

  outputs-spelled : (os : List Out) → AllByRecursion (GoodOutput tables) os → list_any (is_unspelled_output names) os ≡ false → All (λ o. IsSpellable (unit_item_of_output o)) os → All SetsSystemId os
      → AllByRecursion (IsSpelledOutput names) os
  outputs-spelled [] g h s i = tt
  outputs-spelled (o ∷ os) g h s i =
      let parts = or_parts (is_unspelled_output names o) (list_any (is_unspelled_output names) os) h in (
        output-spelled o g.0 parts.0 (All-head (λ o. IsSpellable (unit_item_of_output o)) o os s) (All-head SetsSystemId o os i),
        outputs-spelled os g.1 parts.1 (All-tail (λ o. IsSpellable (unit_item_of_output o)) o os s) (All-tail SetsSystemId o os i),
      )

  -- records
  abbrev IsOk : Bool → Rule → Type 0
  IsOk using_keys rule = IsWritableRule (length tables.stores) (length tables.groups) using_keys rule

  rule-spelled : (using_keys : Bool) (line : ℕ) (rule : Rule) → GoodRule tables using_keys rule → IsSayableRule names rule → IsOk using_keys rule
      → IsSpelledRule using_keys (back_rule names line rule)
  rule-spelled using_keys line rule good saying ok =
      let order : Bool = stands_behind_match false rule.context || nat_lt 1 (length (filter is_nul rule.context)) in
      let one = or_parts (list_any (is_unspelled_pattern names) rule.context) order saying.context in
      let two = or_parts (stands_behind_match false rule.context) (nat_lt 1 (length (filter is_nul rule.context))) one.1 in
      let few = ltb-false 1 (length (filter is_nul rule.context)) two.1 in
      let out = some_spelled names rule.output (outputs-spelled rule.output good.output saying.output ok.output.items ok.output.systems) in
      record {
        kind = (
          context_spelled names false false rule.context (patterns-spelled rule.context good.context one.0 ok.context.items ok.context.systems) two.0 (omega (arith, few)),
          key_as_spelled names (keys_named tables said) using_keys rule.key ok.key saying.key,
        );
        output = out.0;
        some = out.1;
      }

  rules-spelled : (using_keys : Bool) (line : ℕ) (rules : List Rule) → AllByRecursion (GoodRule tables using_keys) rules → AllByRecursion (IsSayableRule names) rules → All (IsOk using_keys) rules
      → AreSpelledRules using_keys line (back_rules names line rules)
  rules-spelled using_keys line [] good saying ok = tt
  rules-spelled using_keys line (rule ∷ rules) good saying ok = (
    refl,
    rule-spelled using_keys line rule good.0 saying.0 (All-head (IsOk using_keys) rule rules ok),
    rules-spelled using_keys (line + 1) rules good.1 saying.1 (All-tail (IsOk using_keys) rule rules ok),
  )

  match-spelled : (using_keys : Bool) (line : ℕ) (os : List Out) → AllByRecursion (GoodOutput tables) os → list_any (is_unspelled_output names) os ≡ false → All (λ o. IsSpellable (unit_item_of_output o)) os → All SetsSystemId os
      → AreSpelledRules using_keys line (back_statement names OnMatch line os)
  match-spelled using_keys line [] good h s i = tt
  match-spelled using_keys line (o ∷ os) good h s i =
      (refl, record { kind = (refl, refl); output = output_spelled names unseen (o ∷ os) (outputs-spelled (o ∷ os) good h s i); some = omega arith }, tt)

  nomatch-spelled : (using_keys : Bool) (line : ℕ) (os : List Out) → AllByRecursion (GoodOutput tables) os → list_any (is_unspelled_output names) os ≡ false → All (λ o. IsSpellable (unit_item_of_output o)) os → All SetsSystemId os
      → AreSpelledRules using_keys line (back_statement names OnNoMatch line os)
  nomatch-spelled using_keys line [] good h s i = tt
  nomatch-spelled using_keys line (o ∷ os) good h s i =
      (refl, record { kind = (refl, refl); output = output_spelled names unseen (o ∷ os) (outputs-spelled (o ∷ os) good h s i); some = omega arith }, tt)

  rules-append : (using_keys : Bool) (line n : ℕ) (xs ys : List RuleDef) → n ≡ line + length xs → AreSpelledRules using_keys line xs → AreSpelledRules using_keys n ys → AreSpelledRules using_keys line (xs ++ ys)
  rules-append using_keys line n [] ys e h k = let same : n ≡ line = omega (arith, e) in subst (λ m. AreSpelledRules using_keys m ys) same k
  rules-append using_keys line n (x ∷ xs) ys e h k = (h.0, h.1, rules-append using_keys (line + 1) n xs ys (omega (arith, e)) h.2 k)

  rules-along : (line : ℕ) (rules : List Rule) → length (back_rules names line rules) ≡ length rules
  rules-along line [] = refl
  rules-along line (rule ∷ rules) = ap suc (rules-along (line + 1) rules)

  statement-along : (a b : ℕ) (kind : RuleKind) (os : List Out) → length (back_statement names kind a os) ≡ length (back_statement names kind b os)
  statement-along a b kind [] = refl
  statement-along a b kind (o ∷ os) = refl

  group-spelled : (line : ℕ) (name : List ℕ) (group : Group) → GoodGroup tables group → IsSayableGroup names group → IsPlayableGroup (length tables.stores) (length tables.groups) group
      → AreSpelledRules group.using_keys (line + 1) (back_group names line name group).rules
  group-spelled line name group good saying ok =
      let rules : List RuleDef = back_rules names (line + 1) group.rules in
      let matched : List RuleDef = back_statement names OnMatch (match_line line group) group.on_match in
      let unmatched : List RuleDef = back_statement names OnNoMatch (nomatch_line names line group) group.on_nomatch in
      let along = rules-along (line + 1) group.rules in
      let same = statement-along 0 (match_line line group) OnMatch group.on_match in
      rules-append group.using_keys (line + 1) (match_line line group) rules (matched ++ unmatched) (omega (arith, along))
      (rules-spelled group.using_keys (line + 1) group.rules good.rules saying.rules ok.rules)
      (rules-append group.using_keys (match_line line group) (nomatch_line names line group) matched unmatched (omega (arith, same))
      (match-spelled group.using_keys (match_line line group) group.on_match good.on_match saying.on_match ok.on_match.itself.items ok.on_match.itself.systems)
      (nomatch-spelled group.using_keys (nomatch_line names line group) group.on_nomatch good.on_nomatch saying.on_nomatch ok.on_nomatch.itself.items ok.on_nomatch.itself.systems))

  first-spelled : (called : List (List ℕ)) → 0 < length called → AllByRecursion IsSpelledName called → IsSpelledName (unwrap_or (slice_get called 0) [])
  first-spelled [] some h = absurd (omega arith)
  first-spelled (name ∷ called) some h = h.0

  others-spelled : (called : List (List ℕ)) → AllByRecursion IsSpelledName called → AllByRecursion IsSpelledName (drop 1 called)
  others-spelled [] h = tt
  others-spelled (name ∷ called) h = h.1

  groups-spelled : (line : ℕ) (called : List (List ℕ)) (groups : List Group) → length groups ≤ length called → AllByRecursion IsSpelledName called
      → AllByRecursion (GoodGroup tables) groups → AllByRecursion (IsSayableGroup names) groups → All (IsPlayableGroup (length tables.stores) (length tables.groups)) groups
      → AreSpelledGroups line (back_groups names line called groups)
  groups-spelled line called [] enough h good saying ok = tt
  groups-spelled line called (group ∷ groups) enough h good saying ok =
      let name : List ℕ = unwrap_or (slice_get called 0) [] in (
        refl,
        first-spelled called (omega arith) h,
        group-spelled line name group good.0 saying.0 (All-head (IsPlayableGroup (length tables.stores) (length tables.groups)) group groups ok),
        groups-spelled (line + 1 + length (back_group names line name group).rules) (drop 1 called) groups (let l = length-drop 1 called in omega (arith, l)) (others-spelled called h)
            good.1 saying.1 (All-tail (IsPlayableGroup (length tables.stores) (length tables.groups)) group groups ok),
      )

  pub all_groups_spelled : (line : ℕ) → AreSpelledGroups line (back_groups names line names.groups tables.groups)
  all_groups_spelled line =
      let l = group_count (free_names (103 ∷ []) (map (λ (group : Group). group.name) tables.groups) (length tables.groups)) [] tables.groups in
      groups-spelled line names.groups tables.groups (omega (arith, l)) all_groups_named (groups_good tables can written) said.groups can.groups
