-- No rule that is written out of playable tables has too many items, and there are not too many rules and deadkeys.
use Rattle.std.proofs.Common.{◌≡◌, ℕ, ◌+◌, ◌≤◌, Bool, false, List, [], ◌∷◌, ◌++◌, length, drop, map, None, refl, sym, ◌∙◌, ap, subst, arith, length-append}
use Rattle.std.specs.Prelude.{All, flat_map, sum, slice_get, unwrap_or, nat_lt, filter, ◌&&◌}
use Rattle.std.specs.List.{AllByRecursion, range_with_len}
use Rattle.std.specs.Fmt.{decimal}
use Rattle.std.proofs.lemmas.Bool.{le-ltb}
use Rattle.std.proofs.lemmas.List.{length-map, map-append}
use Rattle.std.proofs.lemmas.List.Elements.{All-head, All-tail}
use Rattle.std.proofs.lemmas.List.FromFn.{length-range_with_len}
use Rattle.std.proofs.lemmas.List.Sums.{sum_by-cons}
use Rattle.kmn_base.specs.declared.keys.RuleKey.{RuleKey}
use Rattle.kmn_base.specs.declared.keys.RuleKey.TheVariants as key
use Rattle.kmn_base.specs.declared.limits.TheConstants.{CONTEXT_ITEMS, OUTPUT_ITEMS, RECORDS, DEADKEYS}
use Rattle.kmn_base.specs.Names.{same_name}
use Rattle.rule_model.specs.declared.program.SrcItem.{SrcItem}
use Rattle.rule_model.specs.declared.program.StoreDef.{StoreDef}
use Rattle.rule_model.specs.declared.program.RuleDef.{RuleDef}
use Rattle.rule_model.specs.declared.program.RuleKind.{RuleKind}
use Rattle.rule_model.specs.declared.program.RuleKind.TheVariants.{OnMatch, OnNoMatch}
use Rattle.rule_model.specs.declared.program.GroupDef.{GroupDef}
use Rattle.rule_model.specs.declared.tables.Out.{Out}
use Rattle.rule_model.specs.declared.tables.Out.TheVariants as output
use Rattle.rule_model.specs.declared.tables.Rule.{Rule}
use Rattle.rule_model.specs.declared.tables.Group.{Group}
use Rattle.rule_model.specs.declared.tables.Tables.{Tables}
use Rattle.rule_model.specs.Naming.{names_of, all_rules, source_items, mark_names, stores_before, stores_after}
use Rattle.rule_model.specs.Tab.{distinct_onto}
use Rattle.kmx_format.specs.Writable.{IsWritableRule}
use Rattle.kmx_format.specs.Playable.{IsPlayable, IsPlayableGroup}
use Rattle.store_table.specs.Known.{Known, known}
use Rattle.rule_checker.specs.Limits.{Statement, OfStore, OfRule, in_line_order, item_size, output_size, cased_codes, virtual_count, key_count, records_of_statement, record_count, mark_count, all_records, group_refusal}
use Rattle.rule_checker.proofs.FirstPassed.{sum_append}
use Rattle.rule_checker.proofs.Sizes.{items_in_order}
use Rattle.store_table.specs.First.{first_of}
use Rattle.decompile_program.specs.Marks.{greatest_mark}
use Rattle.decompile_program.specs.Items.{Names, back_pattern, back_output, back_key, some_items, key_called}
use Rattle.decompile_program.specs.Back.{back_rule, back_rules, back_statement, match_line, nomatch_line, back_group, back_groups, names_for, written_stores, written_begins, written_groups, back}
use Rattle.decompile_program.specs.WrittenOut.{CanBeWrittenOut}
use Rattle.decompile_program.proofs.Choosing.{all_join}
use Rattle.decompile_program.proofs.Numbering.{marks-are}
use Rattle.decompile_program.proofs.Uncased.{uncased}
use Rattle.kmx_decompiler.proofs.Sayable.{IsSayable}
use Rattle.kmx_decompiler.proofs.SpelledPrograms.{greatest_near}
use Rattle.kmx_decompiler.proofs.UnpassedLimits.{IsShort, few_groups_refused}
use Rattle.kmx_decompiler.proofs.GroupRules.{rules_of}

sum-cons : (x : ℕ) (xs : List ℕ) → sum (x ∷ xs) ≡ x + sum xs
sum-cons x xs = sum_by-cons (λ x. x) x xs

sum-mapped : {X : Type 0} (f : X → ℕ) (xs ys : List X) → sum (map f (xs ++ ys)) ≡ sum (map f xs) + sum (map f ys)
sum-mapped f xs ys = ap sum (map-append f xs ys) ∙ sum_append (map f xs) (map f ys)

-- if all rules and each store have a property, all statements in the order of their lines have it
module _ (P : Statement → Type 0) (stores-have : (store : StoreDef) → P (OfStore store)) where
  of-stores : (stores : List StoreDef) → AllByRecursion P (map OfStore stores)
  of-stores [] = tt
  of-stores (store ∷ stores) = (stores-have store, of-stores stores)

  of-statements : (stores : List StoreDef) (rules : List RuleDef) → AllByRecursion (λ (rule : RuleDef). P (OfRule rule)) rules → AllByRecursion P (in_line_order stores rules)
  of-statements stores [] h = of-stores stores
  of-statements stores (rule ∷ rules) h =
      all_join P (map OfStore (stores_before rule.line stores)) (OfRule rule ∷ in_line_order (stores_after rule.line stores) rules) (of-stores (stores_before rule.line stores))
      (h.0, of-statements (stores_after rule.line stores) rules h.1)

module _ (facts : Known) (names : Names) where
  abbrev ShortRule : RuleDef → Type 0
  ShortRule rule = IsShort facts (OfRule rule)

  one-item : (o : Out) → item_size facts.stores (back_output names o) ≡ 1
  one-item (output.Char c) = refl
  one-item (output.Mark m) = refl
  one-item (output.Index s offset) = refl
  one-item output.Context = refl
  one-item (output.ContextAt offset) = refl
  one-item (output.Enter g) = refl
  one-item (output.Set s value) = refl
  one-item (output.SetSystem id value) = refl
  one-item (output.Save s) = refl
  one-item (output.Reset s) = refl
  one-item output.Nul = refl
  one-item output.Beep = refl
  one-item output.Stop = refl

  output-count : (os : List Out) → output_size facts.stores (map (back_output names) os) ≡ length os
  output-count [] = refl
  output-count (o ∷ os) =
      let here = one-item o in
      let rest = output-count os in
      let all : output_size facts.stores (map (back_output names) (o ∷ os)) ≡ item_size facts.stores (back_output names o) + output_size facts.stores (map (back_output names) os) =
      sum-cons (item_size facts.stores (back_output names o)) (map (item_size facts.stores) (map (back_output names) os)) in
      omega (arith, here, rest, all)

  output-short : (os : List Out) → length os ≤ OUTPUT_ITEMS → nat_lt OUTPUT_ITEMS (output_size facts.stores (map (back_output names) os)) ≡ false
  output-short os few = le-ltb OUTPUT_ITEMS (output_size facts.stores (map (back_output names) os)) (let count = output-count os in omega (arith, few, count))

  some-short : (os : List Out) → length os ≤ OUTPUT_ITEMS → nat_lt OUTPUT_ITEMS (output_size facts.stores (some_items (map (back_output names) os))) ≡ false
  some-short [] few = refl
  some-short (o ∷ os) few = output-short (o ∷ os) few

  rule-short : (stores groups : ℕ) (using_keys : Bool) (line : ℕ) (rule : Rule) → IsWritableRule stores groups using_keys rule → ShortRule (back_rule names line rule)
  rule-short stores groups using_keys line rule can = (
    le-ltb CONTEXT_ITEMS (length (map (back_pattern names) rule.context)) (let l = length-map rule.context (back_pattern names) in let few = can.context.item_count in omega (arith, l, few)),
    some-short rule.output can.output.item_count,
  )

  rules-short : (stores groups : ℕ) (using_keys : Bool) (line : ℕ) (rules : List Rule) → All (IsWritableRule stores groups using_keys) rules → AllByRecursion ShortRule (back_rules names line rules)
  rules-short stores groups using_keys line [] h = tt
  rules-short stores groups using_keys line (rule ∷ rules) h = (
    rule-short stores groups using_keys line rule (All-head (IsWritableRule stores groups using_keys) rule rules h),
    rules-short stores groups using_keys (line + 1) rules (All-tail (IsWritableRule stores groups using_keys) rule rules h),
  )

  statement-short : (kind : RuleKind) (line : ℕ) (os : List Out) → length os ≤ OUTPUT_ITEMS → AllByRecursion ShortRule (back_statement names kind line os)
  statement-short kind line [] few = tt
  statement-short kind line (o ∷ os) few = ((refl, output-short (o ∷ os) few), tt)

  group-short : (stores groups line : ℕ) (name : List ℕ) (group : Group) → IsPlayableGroup stores groups group → AllByRecursion ShortRule (back_group names line name group).rules
  group-short stores groups line name group can =
      let matched : List RuleDef = back_statement names OnMatch (match_line line group) group.on_match in
      let unmatched : List RuleDef = back_statement names OnNoMatch (nomatch_line names line group) group.on_nomatch in
      all_join ShortRule (back_rules names (line + 1) group.rules) (matched ++ unmatched) (rules-short stores groups group.using_keys (line + 1) group.rules can.rules)
      (all_join ShortRule matched unmatched (statement-short OnMatch (match_line line group) group.on_match can.on_match.itself.item_count)
      (statement-short OnNoMatch (nomatch_line names line group) group.on_nomatch can.on_nomatch.itself.item_count))

  groups-short : (stores count line : ℕ) (called : List (List ℕ)) (groups : List Group) → All (IsPlayableGroup stores count) groups
      → AllByRecursion ShortRule (flat_map rules_of (back_groups names line called groups))
  groups-short stores count line called [] h = tt
  groups-short stores count line called (group ∷ groups) h =
      let written : GroupDef = back_group names line (unwrap_or (slice_get called 0) []) group in
      all_join ShortRule written.rules (flat_map rules_of (back_groups names (line + 1 + length written.rules) (drop 1 called) groups))
      (group-short stores count line (unwrap_or (slice_get called 0) []) group (All-head (IsPlayableGroup stores count) group groups h))
      (groups-short stores count (line + 1 + length written.rules) (drop 1 called) groups (All-tail (IsPlayableGroup stores count) group groups h))

  -- the number of records of a rule
  abbrev records : RuleDef → ℕ
  records rule = record_count facts rule.kind rule.key

  -- if there are no cased keys, each key has one record
  abbrev AreUncased : Type 0
  AreUncased = cased_codes facts ≡ []

  one-key : AreUncased → (k : RuleKey) → key_count facts (back_key names k) ≡ 1
  one-key uncased key.Any = refl
  one-key uncased (key.Char c) = refl
  one-key uncased (key.Virtual flags code) = let called = key_called names flags code in ap (λ (cased : List ℕ). virtual_count cased called.flags called.code) uncased

  rules-recorded : AreUncased → (line : ℕ) (rules : List Rule) → sum (map records (back_rules names line rules)) ≡ length rules
  rules-recorded uncased line [] = refl
  rules-recorded uncased line (rule ∷ rules) =
      let here = one-key uncased rule.key in
      let rest = rules-recorded uncased (line + 1) rules in
      let all : sum (map records (back_rules names line (rule ∷ rules))) ≡ key_count facts (back_key names rule.key) + sum (map records (back_rules names (line + 1) rules)) =
      sum-cons (key_count facts (back_key names rule.key)) (map records (back_rules names (line + 1) rules)) in
      omega (arith, here, rest, all)

  none-recorded : (a b : ℕ) (xs ys : List Out) → sum (map records (back_statement names OnMatch a xs ++ back_statement names OnNoMatch b ys)) ≡ 0
  none-recorded a b [] [] = refl
  none-recorded a b [] (y ∷ ys) = refl
  none-recorded a b (x ∷ xs) [] = refl
  none-recorded a b (x ∷ xs) (y ∷ ys) = refl

  abbrev group_records : Group → List Rule
  group_records group = group.rules

  groups-recorded : AreUncased → (line : ℕ) (called : List (List ℕ)) (groups : List Group)
      → sum (map records (flat_map rules_of (back_groups names line called groups))) ≡ length (flat_map group_records groups)
  groups-recorded uncased line called [] = refl
  groups-recorded uncased line called (group ∷ groups) =
      let written : GroupDef = back_group names line (unwrap_or (slice_get called 0) []) group in
      let statements : List RuleDef = back_statement names OnMatch (match_line line group) group.on_match ++ back_statement names OnNoMatch (nomatch_line names line group) group.on_nomatch in
      let next : ℕ = line + 1 + length written.rules in
      let both = sum-mapped records written.rules (flat_map rules_of (back_groups names next (drop 1 called) groups)) in
      let here = sum-mapped records (back_rules names (line + 1) group.rules) statements in
      let plain = rules-recorded uncased (line + 1) group.rules in
      let none = none-recorded (match_line line group) (nomatch_line names line group) group.on_match group.on_nomatch in
      let rest = groups-recorded uncased next (drop 1 called) groups in
      let l = length-append group.rules (flat_map group_records groups) in
      omega (arith, both, here, plain, none, rest, l)

stores-recorded : (facts : Known) (stores : List StoreDef) → sum (map (records_of_statement facts) (map OfStore stores)) ≡ 0
stores-recorded facts [] = refl
stores-recorded facts (store ∷ stores) = stores-recorded facts stores

abbrev recorded : Known → RuleDef → ℕ
recorded facts rule = record_count facts rule.kind rule.key

statements-recorded : (facts : Known) (stores : List StoreDef) (rules : List RuleDef)
    → sum (map (records_of_statement facts) (in_line_order stores rules)) ≡ sum (map (recorded facts) rules)
statements-recorded facts stores [] = stores-recorded facts stores
statements-recorded facts stores (rule ∷ rules) =
    let behind : List Statement = in_line_order (stores_after rule.line stores) rules in
    let none = stores-recorded facts (stores_before rule.line stores) in
    let rest = statements-recorded facts (stores_after rule.line stores) rules in
    let both = sum-mapped (records_of_statement facts) (map OfStore (stores_before rule.line stores)) (OfRule rule ∷ behind) in
    let one : sum (map (records_of_statement facts) (OfRule rule ∷ behind)) ≡ recorded facts rule + sum (map (records_of_statement facts) behind) =
    sum-cons (recorded facts rule) (map (records_of_statement facts) behind) in
    let other : sum (map (recorded facts) (rule ∷ rules)) ≡ recorded facts rule + sum (map (recorded facts) rules) = sum-cons (recorded facts rule) (map (recorded facts) rules) in
    omega (arith, none, rest, both, one, other)

module _ (tables : Tables) (can : IsPlayable tables) where
  abbrev pub statements : List Statement
  statements = in_line_order (back tables).stores (all_rules (back tables))

  -- no statement has too many items
  pub all_short : AllByRecursion (IsShort (known (back tables))) statements
  unfolding back
  all_short =
      of-statements (IsShort (known (back tables))) (λ (store : StoreDef). (refl, refl)) (written_stores tables) (all_rules (back tables))
      (groups-short (known (back tables)) (names_for tables) (length tables.stores) (length tables.groups) (1 + length (written_stores tables) + length (written_begins tables)) (names_for tables).groups
      tables.groups can.groups)

  -- if tables can be written out, the program has no cased keys, so it does not have too many records
  uncased-codes : CanBeWrittenOut tables → cased_codes (known (back tables)) ≡ []
  unfolding known
  uncased-codes written = ap (filter (λ code. nat_lt 0 code && nat_lt code 256)) (uncased tables can written)

  pub records_few : CanBeWrittenOut tables → all_records (known (back tables)) statements ≤ RECORDS
  unfolding back
  records_few written =
      let all = statements-recorded (known (back tables)) (written_stores tables) (all_rules (back tables)) in
      let of = groups-recorded (known (back tables)) (names_for tables) (uncased-codes written) (1 + length (written_stores tables) + length (written_begins tables)) (names_for tables).groups tables.groups in
      let few = can.rule_count in
      omega (arith, all, of, few)

  -- the program has as many groups as the tables, so it does not have too many groups
  groups-long : (names : Names) (line : ℕ) (called : List (List ℕ)) (groups : List Group) → length (back_groups names line called groups) ≡ length groups
  groups-long names line called [] = refl
  groups-long names line called (group ∷ groups) =
      let rest = groups-long names (line + 1 + length (back_group names line (unwrap_or (slice_get called 0) []) group).rules) (drop 1 called) groups in omega (arith, rest)

  pub groups_few : first_of group_refusal [] (back tables).groups ≡ None
  unfolding back
  groups_few =
      few_groups_refused [] (written_groups tables)
      (let few = can.group_count in let l = groups-long (names_for tables) (1 + length (written_stores tables) + length (written_begins tables)) (names_for tables).groups tables.groups in omega (arith, few, l))

  -- the program does not have too many deadkeys
  pub marks_few : IsSayable tables → CanBeWrittenOut tables → mark_count statements ≤ DEADKEYS
  unfolding names_of
  marks_few said written =
      let marks = ap length (marks-are tables can written) in
      let l = length-map (range_with_len 1 (greatest_mark tables)) decimal in
      let r = length-range_with_len 1 (greatest_mark tables) in
      let near = greatest_near tables said in
      let of : length (distinct_onto same_name [] (flat_map mark_names (source_items (back tables)))) ≤ DEADKEYS = omega (arith, marks, l, r, near) in
      subst (λ (xs : List SrcItem). length (distinct_onto same_name [] (flat_map mark_names xs)) ≤ DEADKEYS) (sym (items_in_order (back tables).stores (all_rules (back tables)))) of
