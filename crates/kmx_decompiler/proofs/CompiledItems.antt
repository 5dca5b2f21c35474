-- The rules of the tables that a text compiles to have no more items than the text.
use Rattle.std.proofs.Common.{◌≡◌, ℕ, ◌+◌, ◌≤◌, Bool, true, false, List, [], ◌∷◌, ◌++◌, length, drop, map, Option, None, Some, refl, ap, arith, length-append, if◌then◌else◌}
use Rattle.std.specs.Prelude.{nat_eq, flat_map, filter, find, slice_get, unwrap_or}
use Rattle.std.specs.List.{sum_by, AllByRecursion}
use Rattle.std.proofs.lemmas.List.{length-map}
use Rattle.std.proofs.lemmas.List.Sorted.{sum_by-IsPermutation}
use Rattle.std.proofs.lemmas.List.Sums.{sum_by-cons, sum_by-append}
use Rattle.kmn_base.specs.declared.keys.RuleKey.{RuleKey}
use Rattle.kmn_base.specs.declared.keys.RuleKey.TheVariants as key
use Rattle.rule_model.specs.declared.program.SrcItem.{SrcItem}
use Rattle.rule_model.specs.declared.program.SrcItem.TheVariants as source
use Rattle.rule_model.specs.declared.program.RuleKind.{RuleKind}
use Rattle.rule_model.specs.declared.program.RuleKind.TheVariants.{Plain, OnMatch, OnNoMatch}
use Rattle.rule_model.specs.declared.program.RuleDef.{RuleDef}
use Rattle.rule_model.specs.declared.program.GroupDef.{GroupDef}
use Rattle.rule_model.specs.declared.tables.Out.{Out}
use Rattle.rule_model.specs.declared.tables.Rule.{Rule}
use Rattle.rule_model.specs.declared.tables.Group.{Group}
use Rattle.rule_model.specs.declared.tables.Tables.{Tables}
use Rattle.rule_model.specs.Src.{is_plain_kind, is_match_kind, is_nomatch_kind, is_plain, is_on_match, is_on_nomatch, cased_keys}
use Rattle.compile_laws.specs.Numbers.{Numbers, numbers_of}
use Rattle.compile_laws.specs.Compiles.{file_pattern, file_output, or_nul, file_outputs, has_halves, half_key, file_record, own_key, keyed_records, rule_records, statement_outputs, file_group}
use Rattle.compile_laws.specs.Ordered.{in_order, ordered_group, compiled_tables}
use Rattle.compile_laws.proofs.Ordered.{in_order_permutes}
use Rattle.kmn_items.specs.declared.syntax.Where.TheVariants as section
use Rattle.kmn_items.specs.declared.syntax.Seen.{Seen}
use Rattle.kmn_items.specs.Item.{unseen}
use Rattle.kmn_parser.specs.Spelled.{IsSpelledItem, item_lead, seen_lead, AreSpelled, IsSpelledRule, AreSpelledRules, AreSpelledGroups}
use Rattle.decompile_program.specs.Items.{Names, back_key}
use Rattle.decompile_program.specs.Back.{back_rule, back_rules, back_statement, match_line, nomatch_line, back_group, back_groups, names_for, written_stores, written_begins, back}
use Rattle.decompile_program.proofs.Choosing.{all_join}
use Rattle.kmx_decompiler.proofs.FileBounds.{rule_size, group_size, table_size}
use Rattle.kmx_decompiler.proofs.TextItems.{stated_size, rules_size}

at-most-one : (b : Bool) (o : Out) → length (if b then [] else o ∷ []) ≤ 1
at-most-one true o = omega arith
at-most-one false o = omega arith

some-or-nul : (outs : List Out) (n : ℕ) → 1 ≤ n → length outs ≤ n → length (or_nul outs) ≤ n
some-or-nul [] n some few = omega (arith, some)
some-or-nul (o ∷ outs) n some few = few

module _ (numbers : Numbers) where
  one-output : (count : ℕ) (i : SrcItem) → IsSpelledItem section.Output i → length (file_output numbers count None i) ≤ 1
  one-output count (source.Index store offset) ok = at-most-one (nat_eq offset (count + 1)) _
  one-output count (source.Outs store) ok = absurd ok
  one-output count i ok = omega arith

  few-outputs : (count : ℕ) (seen : Seen) (items : List SrcItem) → AreSpelled section.Output seen items → length (flat_map (file_output numbers count None) items) ≤ length items
  few-outputs count seen [] ok = omega arith
  few-outputs count seen (i ∷ items) ok =
      let here = one-output count i ok.0 in
      let rest = few-outputs count (seen_lead seen (item_lead i)) items ok.2 in
      let all = length-append (file_output numbers count None i) (flat_map (file_output numbers count None) items) in
      omega (arith, here, rest, all)

  outputs-few : (using_keys : Bool) (count : ℕ) (rule : RuleDef) → IsSpelledRule using_keys rule → length (file_outputs numbers count None rule.output) ≤ length rule.output
  outputs-few using_keys count rule ok =
      some-or-nul (flat_map (file_output numbers count None) rule.output) (length rule.output) ok.some (few-outputs count unseen rule.output ok.output)

  -- a rule without a key store has one record
  abbrev pub HasOneRecord : RuleDef → Type 0
  HasOneRecord rule = rule_records numbers rule ≡ file_record numbers rule None 0 (own_key numbers rule.key) ∷ []

  record-few : (using_keys : Bool) (rule : RuleDef) → IsSpelledRule using_keys rule → HasOneRecord rule → sum_by rule_size (rule_records numbers rule) ≤ stated_size rule
  record-few using_keys rule ok one =
      let made : Rule = file_record numbers rule None 0 (own_key numbers rule.key) in
      let all = ap (sum_by rule_size) one in
      let sum = sum_by-cons rule_size made [] in
      let context = length-map rule.context (file_pattern numbers) in
      let output = outputs-few using_keys (length rule.context) rule ok in
      omega (arith, all, sum, context, output)

  -- the items of the records, and of the first match and the first nomatch statement
  abbrev sizes_of : List Rule → Option RuleDef → Option RuleDef → ℕ
  sizes_of records on_match on_nomatch = sum_by rule_size records + (length (statement_outputs numbers on_match) + length (statement_outputs numbers on_nomatch))

  abbrev plain_records : List RuleDef → List Rule
  plain_records rules = flat_map (rule_records numbers) (filter is_plain rules)

  -- a rule of a kind and the rules after it have no more items in the tables than in the text
  abbrev Few : RuleDef → List RuleDef → RuleKind → Type 0
  Few rule rules kind =
      sizes_of (flat_map (rule_records numbers) (if is_plain_kind kind then rule ∷ filter is_plain rules else filter is_plain rules))
      (if is_match_kind kind then Some rule else find is_on_match rules) (if is_nomatch_kind kind then Some rule else find is_on_nomatch rules)
      ≤ sum_by stated_size (rule ∷ rules)

  rules-few : (using_keys : Bool) (line : ℕ) (rules : List RuleDef) → AreSpelledRules using_keys line rules → AllByRecursion HasOneRecord rules
      → sizes_of (plain_records rules) (find is_on_match rules) (find is_on_nomatch rules) ≤ sum_by stated_size rules
  rules-few using_keys line [] ok one = omega arith
  rules-few using_keys line (rule ∷ rules) ok one = by rule.kind (rules-few using_keys (line + 1) rules ok.2 one.1) (sum_by-cons stated_size rule rules)
    where
      by : (kind : RuleKind) → sizes_of (plain_records rules) (find is_on_match rules) (find is_on_nomatch rules) ≤ sum_by stated_size rules
          → sum_by stated_size (rule ∷ rules) ≡ stated_size rule + sum_by stated_size rules → Few rule rules kind
      by Plain rest sum =
          let here = record-few using_keys rule ok.1 one.0 in
          let all = sum_by-append rule_size (rule_records numbers rule) (plain_records rules) in
          omega (arith, rest, sum, here, all)
      by OnMatch rest sum = let here = outputs-few using_keys 0 rule ok.1 in omega (arith, rest, sum, here)
      by OnNoMatch rest sum = let here = outputs-few using_keys 0 rule ok.1 in omega (arith, rest, sum, here)

  abbrev compiled_group : GroupDef → Group
  compiled_group group = ordered_group (file_group numbers group)

  abbrev HaveOneRecord : GroupDef → Type 0
  HaveOneRecord group = AllByRecursion HasOneRecord group.rules

  groups-few : (line : ℕ) (groups : List GroupDef) → AreSpelledGroups line groups → AllByRecursion HaveOneRecord groups → sum_by group_size (map compiled_group groups) ≤ sum_by rules_size groups
  groups-few line [] ok one = omega arith
  groups-few line (group ∷ groups) ok one =
      let here = rules-few group.using_keys (line + 1) group.rules ok.2 one.0 in
      let rest = groups-few (line + 1 + length group.rules) groups ok.3 one.1 in
      let made = sum_by-cons group_size (compiled_group group) (map compiled_group groups) in
      let stated = sum_by-cons rules_size group groups in
      let same = sum_by-IsPermutation rule_size (plain_records group.rules) (in_order (plain_records group.rules)) (in_order_permutes (plain_records group.rules)) in
      omega (arith, here, rest, made, stated, same)

  -- if there are no cased keys, no key has two halves
  module _ (names : Names) (uncased : numbers.cased ≡ []) where
    one-record : (k : RuleKey) (rule : RuleDef) → keyed_records numbers rule (back_key names k) ≡ file_record numbers rule None 0 (own_key numbers (back_key names k)) ∷ []
    one-record key.Any rule = refl
    one-record (key.Char c) rule = refl
    one-record (key.Virtual flags code) rule =
        let wanted : RuleKey = own_key numbers (back_key names (key.Virtual flags code)) in
        λ i. if has_halves (uncased i) wanted
        then file_record numbers rule None 0 (half_key 0 wanted) ∷ file_record numbers rule None 1 (half_key 1 wanted) ∷ []
        else file_record numbers rule None 0 wanted ∷ []

    back-one : (line : ℕ) (rules : List Rule) → AllByRecursion HasOneRecord (back_rules names line rules)
    back-one line [] = tt
    back-one line (rule ∷ rules) = (one-record rule.key (back_rule names line rule), back-one (line + 1) rules)

    statement-one : (kind : RuleKind) (line : ℕ) (os : List Out) → AllByRecursion HasOneRecord (back_statement names kind line os)
    statement-one kind line [] = tt
    statement-one kind line (o ∷ os) = (refl, tt)

    group-one : (line : ℕ) (name : List ℕ) (group : Group) → HaveOneRecord (back_group names line name group)
    group-one line name group =
        let matched : List RuleDef = back_statement names OnMatch (match_line line group) group.on_match in
        let unmatched : List RuleDef = back_statement names OnNoMatch (nomatch_line names line group) group.on_nomatch in
        all_join HasOneRecord (back_rules names (line + 1) group.rules) (matched ++ unmatched) (back-one (line + 1) group.rules)
        (all_join HasOneRecord matched unmatched (statement-one OnMatch (match_line line group) group.on_match) (statement-one OnNoMatch (nomatch_line names line group) group.on_nomatch))

    groups-one : (line : ℕ) (called : List (List ℕ)) (groups : List Group) → AllByRecursion HaveOneRecord (back_groups names line called groups)
    groups-one line called [] = tt
    groups-one line called (group ∷ groups) =
        let written : GroupDef = back_group names line (unwrap_or (slice_get called 0) []) group in
        (group-one line (unwrap_or (slice_get called 0) []) group, groups-one (line + 1 + length written.rules) (drop 1 called) groups)

pub few_items : (tables : Tables) (line : ℕ) → cased_keys (back tables) ≡ [] → AreSpelledGroups line (back tables).groups → table_size (compiled_tables (back tables)) ≤ sum_by rules_size (back tables).groups
unfolding compiled_tables back
few_items tables line uncased ok =
    groups-few (numbers_of (back tables)) line (back tables).groups ok
    (groups-one (numbers_of (back tables)) (names_for tables) uncased (1 + length (written_stores tables) + length (written_begins tables)) (names_for tables).groups tables.groups)
