-- If the stores and groups of tables are stated by the names that they are called by, no rule that is written out of the tables is
-- refused for a name.
use Rattle.std.proofs.Common.{◌≡◌, ℕ, ◌+◌, ◌<◌, Bool, true, false, not, ◌||◌, List, [], ◌∷◌, ◌++◌, length, drop, map, None, refl, sym, subst}
use Rattle.std.specs.Prelude.{slice_get, unwrap_or, option_to_list}
use Rattle.std.specs.List.{list_any, AllByRecursion}
use Rattle.std.proofs.lemmas.Bool.{not_from_true}
use Rattle.std.proofs.lemmas.List.Folds.{list_any-append}
use Rattle.kmn_base.specs.declared.codes.Code.TheVariants.{C05, C06, C15}
use Rattle.kmn_base.specs.declared.keys.RuleKey.{RuleKey}
use Rattle.kmn_base.specs.declared.keys.RuleKey.TheVariants as key
use Rattle.kmn_base.proofs.Options.{option_or-none}
use Rattle.rule_model.specs.declared.program.SrcItem.{SrcItem}
use Rattle.rule_model.specs.declared.program.RuleDef.{RuleDef}
use Rattle.rule_model.specs.declared.program.RuleKind.TheVariants.{OnMatch, OnNoMatch}
use Rattle.rule_model.specs.declared.program.GroupDef.{GroupDef}
use Rattle.rule_model.specs.declared.tables.Pat.{Pat}
use Rattle.rule_model.specs.declared.tables.Pat.TheVariants as pattern
use Rattle.rule_model.specs.declared.tables.Out.{Out}
use Rattle.rule_model.specs.declared.tables.Out.TheVariants as output
use Rattle.rule_model.specs.declared.tables.Rule.{Rule}
use Rattle.rule_model.specs.declared.tables.Group.{Group}
use Rattle.rule_model.specs.declared.tables.Tables.{Tables}
use Rattle.rule_model.specs.Naming.{rule_items}
use Rattle.rule_model.specs.Src.{is_on_match, is_on_nomatch}
use Rattle.store_table.specs.declared.stating.Stated.{Stated}
use Rattle.store_table.specs.First.{broken, first_code, first_of}
use Rattle.store_table.specs.Names.{is_named, names_no_store, names_no_group, is_second, is_again, rule_item_code, rule_code, rule_refusal, rules_refusal}
use Rattle.decompile_program.specs.Items.{Names, store_called, group_called, back_pattern, back_output, back_key, some_items}
use Rattle.decompile_program.specs.Back.{back_rule, back_rules, back_statement, match_line, nomatch_line, back_group, back_groups}
use Rattle.decompile_program.proofs.Good.{IsNamed, GoodPattern, GoodOutput, GoodRule, GoodGroup}
use Rattle.kmx_decompiler.proofs.UnrefusedRules.{no-else, no-earlier, no-line, no-broken}

-- at most one rule of a group is a match and at most one a nomatch; the flags state whether an earlier rule is one
abbrev AtMostOne : Bool → Bool → List RuleDef → Type 0
AtMostOne matched unmatched [] = Unit {0}
AtMostOne matched unmatched (rule ∷ rules) =
    (is_second matched unmatched rule.kind ≡ false) × AtMostOne (matched || (is_on_match rule || false)) (unmatched || (is_on_nomatch rule || false)) rules

module _ (stated : Stated) where
  abbrev AreKnown : RuleDef → Type 0
  AreKnown rule = first_code (rule_item_code stated) (rule_items rule) ≡ None

  rules-fine : (before rules : List RuleDef) → AtMostOne (list_any is_on_match before) (list_any is_on_nomatch before) rules → AllByRecursion AreKnown rules
      → first_of (rule_refusal stated) before rules ≡ None
  rules-fine before [] one known = refl
  rules-fine before (rule ∷ rules) one known =
      no-earlier (rule_refusal stated before rule) (first_of (rule_refusal stated) (before ++ rule ∷ []) rules)
      (no-line rule.line (rule_code stated (is_again before rule) rule)
      (no-else (broken ((C15, is_again before rule) ∷ [])) (first_code (rule_item_code stated) (rule_items rule)) (no-broken C15 (is_again before rule) [] one.0 refl) known.0))
      (rules-fine (before ++ rule ∷ []) rules
      (subst (λ (m : Bool). AtMostOne m (list_any is_on_nomatch (before ++ rule ∷ [])) rules) (sym (list_any-append is_on_match before (rule ∷ [])))
      (subst (λ (u : Bool). AtMostOne (list_any is_on_match before || (is_on_match rule || false)) u rules) (sym (list_any-append is_on_nomatch before (rule ∷ []))) one.1)) known.1)

  item-fine : (item : SrcItem) → names_no_store stated item ≡ false → names_no_group stated item ≡ false → rule_item_code stated item ≡ None
  item-fine item s g =
      no-broken C05 (names_no_store stated item) ((C06, names_no_group stated item) ∷ []) s (no-broken C06 (names_no_group stated item) [] g refl)

  codes-append : (xs ys : List SrcItem) → first_code (rule_item_code stated) xs ≡ None → first_code (rule_item_code stated) ys ≡ None → first_code (rule_item_code stated) (xs ++ ys) ≡ None
  codes-append [] ys h k = k
  codes-append (x ∷ xs) ys h k =
      let both = option_or-none (rule_item_code stated x) (first_code (rule_item_code stated) xs) h in
      no-else (rule_item_code stated x) (first_code (rule_item_code stated) (xs ++ ys)) both.0 (codes-append xs ys both.1 k)

  module _ (tables : Tables) (names : Names)
      (stores : (n : ℕ) → IsNamed tables n → is_named stated.stores (store_called names n) ≡ true)
      (groups : (g : ℕ) → g < length tables.groups → is_named stated.groups (group_called names g) ≡ true) where
    store-fine : (n : ℕ) → IsNamed tables n → not (is_named stated.stores (store_called names n)) ≡ false
    store-fine n a = not_from_true (is_named stated.stores (store_called names n)) (stores n a)

    pattern-fine : (p : Pat) → GoodPattern tables p → rule_item_code stated (back_pattern names p) ≡ None
    pattern-fine (pattern.Any n) g = item-fine (back_pattern names (pattern.Any n)) (store-fine n g.named.0) refl
    pattern-fine (pattern.NotAny n) g = item-fine (back_pattern names (pattern.NotAny n)) (store-fine n g.named.0) refl
    pattern-fine (pattern.Index n offset) g = item-fine (back_pattern names (pattern.Index n offset)) (store-fine n g.named.0) refl
    pattern-fine (pattern.Equal n value) g = item-fine (back_pattern names (pattern.Equal n value)) (store-fine n g.named.0) refl
    pattern-fine (pattern.Unequal n value) g = item-fine (back_pattern names (pattern.Unequal n value)) (store-fine n g.named.0) refl
    pattern-fine (pattern.Char c) g = refl
    pattern-fine (pattern.Mark m) g = refl
    pattern-fine (pattern.ContextAt offset) g = refl
    pattern-fine (pattern.SystemEqual id value) g = refl
    pattern-fine (pattern.SystemUnequal id value) g = refl
    pattern-fine pattern.Nul g = refl

    output-fine : (o : Out) → GoodOutput tables o → rule_item_code stated (back_output names o) ≡ None
    output-fine (output.Index n offset) g = item-fine (back_output names (output.Index n offset)) (store-fine n g.named.0) refl
    output-fine (output.Set n value) g = item-fine (back_output names (output.Set n value)) (store-fine n g.named.0) refl
    output-fine (output.Save n) g = item-fine (back_output names (output.Save n)) (store-fine n g.named.0) refl
    output-fine (output.Reset n) g = item-fine (back_output names (output.Reset n)) (store-fine n g.named.0) refl
    output-fine (output.Enter n) g =
        item-fine (back_output names (output.Enter n)) refl (not_from_true (is_named stated.groups (group_called names n)) (groups n g.groups.0))
    output-fine (output.SetSystem id value) g = refl
    output-fine (output.Char c) g = refl
    output-fine (output.Mark m) g = refl
    output-fine output.Context g = refl
    output-fine (output.ContextAt offset) g = refl
    output-fine output.Nul g = refl
    output-fine output.Beep g = refl
    output-fine output.Stop g = refl

    patterns-fine : (ps : List Pat) → AllByRecursion (GoodPattern tables) ps → first_code (rule_item_code stated) (map (back_pattern names) ps) ≡ None
    patterns-fine [] g = refl
    patterns-fine (p ∷ ps) g = no-else (rule_item_code stated (back_pattern names p)) (first_code (rule_item_code stated) (map (back_pattern names) ps)) (pattern-fine p g.0) (patterns-fine ps g.1)

    outputs-fine : (os : List Out) → AllByRecursion (GoodOutput tables) os → first_code (rule_item_code stated) (map (back_output names) os) ≡ None
    outputs-fine [] g = refl
    outputs-fine (o ∷ os) g = no-else (rule_item_code stated (back_output names o)) (first_code (rule_item_code stated) (map (back_output names) os)) (output-fine o g.0) (outputs-fine os g.1)

    some-fine : (os : List Out) → AllByRecursion (GoodOutput tables) os → first_code (rule_item_code stated) (some_items (map (back_output names) os)) ≡ None
    some-fine [] g = refl
    some-fine (o ∷ os) g = outputs-fine (o ∷ os) g

    key-fine : (k : RuleKey) → first_code (rule_item_code stated) (option_to_list (back_key names k)) ≡ None
    key-fine key.Any = refl
    key-fine (key.Char c) = refl
    key-fine (key.Virtual flags code) = refl

    rule-known : (using_keys : Bool) (line : ℕ) (rule : Rule) → GoodRule tables using_keys rule → AreKnown (back_rule names line rule)
    rule-known using_keys line rule g =
        codes-append (map (back_pattern names) rule.context) (option_to_list (back_key names rule.key) ++ some_items (map (back_output names) rule.output)) (patterns-fine rule.context g.context)
        (codes-append (option_to_list (back_key names rule.key)) (some_items (map (back_output names) rule.output)) (key-fine rule.key) (some-fine rule.output g.output))

    plain-known : (using_keys : Bool) (line : ℕ) (rules : List Rule) → AllByRecursion (GoodRule tables using_keys) rules → AllByRecursion AreKnown (back_rules names line rules)
    plain-known using_keys line [] g = tt
    plain-known using_keys line (rule ∷ rules) g = (rule-known using_keys line rule g.0, plain-known using_keys (line + 1) rules g.1)

    match-known : (line : ℕ) (os : List Out) → AllByRecursion (GoodOutput tables) os → AllByRecursion AreKnown (back_statement names OnMatch line os)
    match-known line [] g = tt
    match-known line (o ∷ os) g = (outputs-fine (o ∷ os) g, tt)

    nomatch-known : (line : ℕ) (os : List Out) → AllByRecursion (GoodOutput tables) os → AllByRecursion AreKnown (back_statement names OnNoMatch line os)
    nomatch-known line [] g = tt
    nomatch-known line (o ∷ os) g = (outputs-fine (o ∷ os) g, tt)

    known-append : (xs ys : List RuleDef) → AllByRecursion AreKnown xs → AllByRecursion AreKnown ys → AllByRecursion AreKnown (xs ++ ys)
    known-append [] ys h k = k
    known-append (x ∷ xs) ys h k = (h.0, known-append xs ys h.1 k)

    last-one : (matched unmatched : ℕ) (on_match on_nomatch : List Out)
        → AtMostOne false false (back_statement names OnMatch matched on_match ++ back_statement names OnNoMatch unmatched on_nomatch)
    last-one matched unmatched [] [] = tt
    last-one matched unmatched [] (o ∷ os) = (refl, tt)
    last-one matched unmatched (o ∷ os) [] = (refl, tt)
    last-one matched unmatched (o ∷ os) (u ∷ us) = (refl, (refl, tt))

    plain-one : (line : ℕ) (rules : List Rule) (more : List RuleDef) → AtMostOne false false more → AtMostOne false false (back_rules names line rules ++ more)
    plain-one line [] more h = h
    plain-one line (rule ∷ rules) more h = (refl, plain-one (line + 1) rules more h)

    group-fine : (line : ℕ) (name : List ℕ) (group : Group) → GoodGroup tables group → first_of (rule_refusal stated) [] (back_group names line name group).rules ≡ None
    group-fine line name group g =
        let matched : List RuleDef = back_statement names OnMatch (match_line line group) group.on_match in
        let unmatched : List RuleDef = back_statement names OnNoMatch (nomatch_line names line group) group.on_nomatch in
        rules-fine [] (back_rules names (line + 1) group.rules ++ (matched ++ unmatched))
        (plain-one (line + 1) group.rules (matched ++ unmatched) (last-one (match_line line group) (nomatch_line names line group) group.on_match group.on_nomatch))
        (known-append (back_rules names (line + 1) group.rules) (matched ++ unmatched) (plain-known group.using_keys (line + 1) group.rules g.rules)
        (known-append matched unmatched (match-known (match_line line group) group.on_match g.on_match) (nomatch-known (nomatch_line names line group) group.on_nomatch g.on_nomatch)))

    -- none of the rules is refused for a name
    pub no_rule_unknown : (before : List GroupDef) (line : ℕ) (called : List (List ℕ)) (groups : List Group) → AllByRecursion (GoodGroup tables) groups
        → first_of (rules_refusal stated) before (back_groups names line called groups) ≡ None
    no_rule_unknown before line called [] g = refl
    no_rule_unknown before line called (group ∷ groups) g =
        let name : List ℕ = unwrap_or (slice_get called 0) [] in
        let back : GroupDef = back_group names line name group in
        no-earlier (rules_refusal stated before back) (first_of (rules_refusal stated) (before ++ back ∷ []) (back_groups names (line + 1 + length back.rules) (drop 1 called) groups))
        (group-fine line name group g.0) (no_rule_unknown (before ++ back ∷ []) (line + 1 + length back.rules) (drop 1 called) groups g.1)
