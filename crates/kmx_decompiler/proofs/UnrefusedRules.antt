-- No item of a rule that is written out of playable tables is refused: offsets point at what they must, and no key is above U+FFFF.
use Rattle.std.proofs.Common.{◌≡◌, ℕ, zero, suc, ◌+◌, ◌^◌, ◌<◌, ◌≤◌, Bool, true, false, List, [], ◌∷◌, ◌++◌, length, take, drop, map, Option, None, Some, is_some, refl, sym, ◌∙◌, subst, arith, append-nil, append_assoc}
use Rattle.std.specs.Prelude.{All, nat_eq, nat_lt, slice_get, slice_index_or, unwrap_or, IsSomeAnd}
use Rattle.std.specs.List.{AllByRecursion}
use Rattle.std.specs.Option.{option_or}
use Rattle.std.proofs.lemmas.Bool.{ne_eqb, not_from_true, and_right, cond-false}
use Rattle.std.proofs.lemmas.Bool.Decides.{nat_tests}
use Rattle.std.proofs.lemmas.List.{length-map, map-append}
use Rattle.std.proofs.lemmas.List.Elements.{All-head, All-tail}
use Rattle.kmn_base.specs.declared.codes.Code.{Code}
use Rattle.kmn_base.specs.declared.codes.Code.TheVariants.{C08, C09, C10}
use Rattle.kmn_base.specs.declared.keys.RuleKey.{RuleKey}
use Rattle.kmn_base.specs.declared.keys.RuleKey.TheVariants as key
use Rattle.kmn_base.specs.declared.refusals.Refusal.{Refusal}
use Rattle.rule_model.specs.declared.program.SrcItem.{SrcItem}
use Rattle.rule_model.specs.declared.program.RuleDef.{RuleDef}
use Rattle.rule_model.specs.declared.program.RuleKind.TheVariants.{OnMatch, OnNoMatch}
use Rattle.rule_model.specs.declared.program.GroupDef.{GroupDef}
use Rattle.rule_model.specs.declared.tables.Pat.{Pat}
use Rattle.rule_model.specs.declared.tables.Pat.TheVariants as pattern
use Rattle.rule_model.specs.declared.tables.Out.{Out}
use Rattle.rule_model.specs.declared.tables.Out.TheVariants as output
use Rattle.rule_model.specs.declared.tables.Rule.{Rule}
use Rattle.rule_model.specs.declared.tables.Group.{Group}
use Rattle.rule_model.specs.declared.tables.Tables.{Tables}
use Rattle.kmx_format.specs.Writable.{is_any, PointsTo, PointsBack, PointsInto, needs_context, IsWritableKey, IsWritableRule}
use Rattle.rule_model.specs.Patterns.{is_matched}
use Rattle.kmx_format.specs.TablesOf.{tables_of}
use Rattle.kmx_format.specs.Playable.{IsPlayable, IsPlayableGroup}
use Rattle.store_table.specs.First.{broken, first_code, at_line, earlier, first_of}
use Rattle.store_table.specs.Known.{Known, known}
use Rattle.item_checker.specs.Items.{is_pattern_item, is_any_item, passes, points_to, is_key_place, misses_pattern, misses_any, is_far, index_code, context_at_code, context_item_code, context_code, key_code, key_index_code, rule_output_code, match_output_code, rule_code, rule_refusal, rules_refusal}
use Rattle.decompile_program.specs.Items.{Names, store_called, back_pattern, back_output, back_key, some_items}
use Rattle.decompile_program.specs.Back.{back_rule, back_rules, back_statement, match_line, nomatch_line, back_group, back_groups, names_for, written_stores, written_begins, back}

-- if two parts have no refusal, both together have none
pub no-else : {A : Type 0} (a b : Option A) → a ≡ None → b ≡ None → option_or a b ≡ None
no-else None b e f = f
no-else (Some x) b e f = absurd (cc)

pub no-earlier : (a b : Option Refusal) → a ≡ None → b ≡ None → earlier a b ≡ None
no-earlier None b e f = f
no-earlier (Some a) b e f = absurd (cc)

pub no-line : (line : ℕ) (code : Option Code) → code ≡ None → at_line line code ≡ None
no-line line None e = refl
no-line line (Some code) e = absurd (cc)

pub no-broken : (code : Code) (b : Bool) (rows : List (Code × Bool)) → b ≡ false → broken rows ≡ None → broken ((code, b) ∷ rows) ≡ None
no-broken code true rows e f = absurd (cc)
no-broken code false rows e f = f

-- if each statement of a list is not refused, whatever precedes it, no statement of the list is refused
pub none_of_all : {X : Type 0} (refusal : List X → X → Option Refusal) (P : X → Type 0) → ((before : List X) (x : X) → P x → refusal before x ≡ None)
    → (before xs : List X) → AllByRecursion P xs → first_of refusal before xs ≡ None
none_of_all refusal P each before [] h = refl
none_of_all refusal P each before (x ∷ xs) h =
    no-earlier (refusal before x) (first_of refusal (before ++ x ∷ []) xs) (each before x h.0) (none_of_all refusal P each (before ++ x ∷ []) xs h.1)

module _ (names : Names) where
  any-back : (p : Pat) → is_any p ≡ true → is_any_item (back_pattern names p) ≡ true
  any-back (pattern.Any s) h = refl
  any-back p h = absurd (cc)

  any-matched : (p : Pat) → is_any p ≡ true → is_matched p ≡ true
  any-matched (pattern.Any s) h = refl
  any-matched p h = absurd (cc)

  matched-back : (p : Pat) → is_matched p ≡ true → is_pattern_item (back_pattern names p) ≡ true
  matched-back (pattern.Char c) h = refl
  matched-back (pattern.Mark m) h = refl
  matched-back (pattern.Any s) h = refl
  matched-back (pattern.NotAny s) h = refl
  matched-back (pattern.Index s offset) h = refl
  matched-back (pattern.ContextAt offset) h = refl
  matched-back (pattern.Equal s value) h = absurd (cc)
  matched-back (pattern.Unequal s value) h = absurd (cc)
  matched-back (pattern.SystemEqual id value) h = absurd (cc)
  matched-back (pattern.SystemUnequal id value) h = absurd (cc)
  matched-back pattern.Nul h = absurd (cc)

  passes-at : (test : Pat → Bool) (wanted : SrcItem → Bool) → ((p : Pat) → test p ≡ true → wanted (back_pattern names p) ≡ true) → (context : List Pat) (place : ℕ)
      → IsSomeAnd (slice_get context place) (λ p. test p ≡ true) → passes wanted (slice_get (map (back_pattern names) context) place) ≡ true
  passes-at test wanted each [] place h = absurd h
  passes-at test wanted each (p ∷ context) zero h = each p h
  passes-at test wanted each (p ∷ context) (suc place) h = passes-at test wanted each context place h

  points-back : (test : Pat → Bool) (wanted : SrcItem → Bool) → ((p : Pat) → test p ≡ true → wanted (back_pattern names p) ≡ true) → (context : List Pat) (offset : ℕ)
      → PointsTo test context offset → points_to wanted (map (back_pattern names) context) offset ≡ true
  points-back test wanted each context zero h = absurd h
  points-back test wanted each context (suc place) h = passes-at test wanted each context place h

  index-fine : (context : List Pat) (offset : ℕ) → PointsTo is_any context offset → index_code (map (back_pattern names) context) offset ≡ None
  index-fine context offset h =
      no-broken C08 (misses_pattern (map (back_pattern names) context) offset) ((C09, misses_any (map (back_pattern names) context) offset) ∷ [])
      (not_from_true (points_to is_pattern_item (map (back_pattern names) context) offset) (points-back is_any is_pattern_item (λ p e. matched-back p (any-matched p e)) context offset h))
      (no-broken C09 (misses_any (map (back_pattern names) context) offset) []
      (not_from_true (points_to is_any_item (map (back_pattern names) context) offset) (points-back is_any is_any_item any-back context offset h)) refl)

  context-at-fine : (context : List Pat) (offset : ℕ) → PointsTo is_matched context offset → context_at_code (map (back_pattern names) context) offset ≡ None
  context-at-fine context offset h =
      no-broken C08 (misses_pattern (map (back_pattern names) context) offset) []
      (not_from_true (points_to is_pattern_item (map (back_pattern names) context) offset) (points-back is_matched is_pattern_item matched-back context offset h)) refl

  item-fine : (before : List Pat) (p : Pat) → PointsBack before p → context_item_code (map (back_pattern names) before) (back_pattern names p) ≡ None
  item-fine before (pattern.Index s offset) h = index-fine before offset h
  item-fine before (pattern.ContextAt offset) h = context-at-fine before offset h
  item-fine before (pattern.Char c) h = refl
  item-fine before (pattern.Mark m) h = refl
  item-fine before (pattern.Any s) h = refl
  item-fine before (pattern.NotAny s) h = refl
  item-fine before (pattern.Equal s value) h = refl
  item-fine before (pattern.Unequal s value) h = refl
  item-fine before (pattern.SystemEqual id value) h = refl
  item-fine before (pattern.SystemUnequal id value) h = refl
  item-fine before pattern.Nul h = refl

  context-fine : (before context : List Pat) → ((place : ℕ) (d : Pat) → place < length context → PointsBack (before ++ take place context) (slice_index_or context place d))
      → context_code (map (back_pattern names) before) (map (back_pattern names) context) ≡ None
  context-fine before [] h = refl
  context-fine before (p ∷ context) h =
      no-else (context_item_code (map (back_pattern names) before) (back_pattern names p)) (context_code (map (back_pattern names) before ++ back_pattern names p ∷ []) (map (back_pattern names) context))
      (item-fine before p (subst (λ (front : List Pat). PointsBack front p) (append-nil before) (h 0 p (omega arith))))
      (subst (λ (front : List SrcItem). context_code front (map (back_pattern names) context) ≡ None) (map-append (back_pattern names) before (p ∷ []))
      (context-fine (before ++ p ∷ []) context
      (λ place d less. subst (λ (front : List Pat). PointsBack front (slice_index_or context place d)) (sym (append_assoc before (p ∷ []) (take place context))) (h (suc place) d (omega arith)))))

  key-fine : (known : Known) (using_keys : Bool) (k : RuleKey) → IsWritableKey using_keys k → key_code known (back_key names k) ≡ None
  key-fine known using_keys key.Any h = refl
  key-fine known true (key.Char c) h = no-broken C10 (is_far c) [] (near c h) refl
    where
      near : (c : ℕ) → c < 2 ^ 16 → nat_lt 0xFFFF c ≡ false
      near c less = grind (arith, nat_tests)
  key-fine known false (key.Char c) h = absurd h
  key-fine known using_keys (key.Virtual flags code) h = refl

  within : (test : Pat → Bool) (context : List Pat) (offset : ℕ) → PointsTo test context offset → offset ≤ length context
  within test context zero h = absurd h
  within test context (suc place) h = by context place h
    where
      by : (context : List Pat) (place : ℕ) → IsSomeAnd (slice_get context place) (λ p. test p ≡ true) → suc place ≤ length context
      by [] place h = absurd h
      by (p ∷ context) zero h = omega arith
      by (p ∷ context) (suc place) h = let more = by context place h in omega (arith, more)

  output-fine : (known : Known) (line : ℕ) (rule : Rule) (o : Out) → PointsInto rule.context o → rule_output_code known (back_rule names line rule) (back_output names o) ≡ None
  output-fine known line rule (output.Index s offset) h =
      let back : RuleDef = back_rule names line rule in
      let size = length-map rule.context (back_pattern names) in
      let few = within is_any rule.context offset h in
      cond-false (is_key_place back offset) (key_index_code known back (store_called names s)) (index_code back.context offset)
      (and_right (is_some back.key) (nat_eq offset (length back.context + 1)) (ne_eqb offset (length back.context + 1) (omega (arith, size, few))))
      ∙ index-fine rule.context offset h
  output-fine known line rule (output.ContextAt offset) h = context-at-fine rule.context offset h
  output-fine known line rule (output.Char c) h = refl
  output-fine known line rule (output.Mark m) h = refl
  output-fine known line rule output.Context h = refl
  output-fine known line rule (output.Enter g) h = refl
  output-fine known line rule (output.Set s value) h = refl
  output-fine known line rule (output.SetSystem id value) h = refl
  output-fine known line rule (output.Save s) h = refl
  output-fine known line rule (output.Reset s) h = refl
  output-fine known line rule output.Nul h = refl
  output-fine known line rule output.Beep h = refl
  output-fine known line rule output.Stop h = refl

  outputs-fine : (known : Known) (line : ℕ) (rule : Rule) (os : List Out) → All (PointsInto rule.context) os
      → first_code (rule_output_code known (back_rule names line rule)) (map (back_output names) os) ≡ None
  outputs-fine known line rule [] h = refl
  outputs-fine known line rule (o ∷ os) h =
      no-else (rule_output_code known (back_rule names line rule) (back_output names o)) (first_code (rule_output_code known (back_rule names line rule)) (map (back_output names) os))
      (output-fine known line rule o (All-head (PointsInto rule.context) o os h)) (outputs-fine known line rule os (All-tail (PointsInto rule.context) o os h))

  some-fine : (known : Known) (line : ℕ) (rule : Rule) (os : List Out) → All (PointsInto rule.context) os
      → first_code (rule_output_code known (back_rule names line rule)) (some_items (map (back_output names) os)) ≡ None
  some-fine known line rule [] h = refl
  some-fine known line rule (o ∷ os) h = outputs-fine known line rule (o ∷ os) h

  match-fine : (known : Known) (os : List Out) → All (λ o. needs_context o ≡ false) os → first_code (match_output_code known) (map (back_output names) os) ≡ None
  match-fine known [] h = refl
  match-fine known (o ∷ os) h =
      no-else (match_output_code known (back_output names o)) (first_code (match_output_code known) (map (back_output names) os))
      (by o (All-head (λ o. needs_context o ≡ false) o os h)) (match-fine known os (All-tail (λ o. needs_context o ≡ false) o os h))
    where
      by : (o : Out) → needs_context o ≡ false → match_output_code known (back_output names o) ≡ None
      by (output.Index s offset) e = absurd (cc)
      by (output.ContextAt offset) e = absurd (cc)
      by output.Context e = absurd (cc)
      by (output.Char c) e = refl
      by (output.Mark m) e = refl
      by (output.Enter g) e = refl
      by (output.Set s value) e = refl
      by (output.SetSystem id value) e = refl
      by (output.Save s) e = refl
      by (output.Reset s) e = refl
      by output.Nul e = refl
      by output.Beep e = refl
      by output.Stop e = refl

  -- no item of a rule is refused
  abbrev IsFine : Known → RuleDef → Type 0
  IsFine known rule = rule_code known rule.kind rule ≡ None

  rule-fine : (known : Known) (stores groups : ℕ) (using_keys : Bool) (line : ℕ) (rule : Rule) → IsWritableRule stores groups using_keys rule → IsFine known (back_rule names line rule)
  rule-fine known stores groups using_keys line rule can =
      no-else (context_code [] (map (back_pattern names) rule.context)) _
      (context-fine [] rule.context can.context.offsets)
      (no-else (key_code known (back_key names rule.key)) _ (key-fine known using_keys rule.key can.key) (some-fine known line rule rule.output can.offsets))

  rules-fine : (known : Known) (stores groups : ℕ) (using_keys : Bool) (line : ℕ) (rules : List Rule) → All (IsWritableRule stores groups using_keys) rules
      → AllByRecursion (IsFine known) (back_rules names line rules)
  rules-fine known stores groups using_keys line [] h = tt
  rules-fine known stores groups using_keys line (rule ∷ rules) h =
      (rule-fine known stores groups using_keys line rule (All-head (IsWritableRule stores groups using_keys) rule rules h), rules-fine known stores groups using_keys (line + 1) rules (All-tail (IsWritableRule stores groups using_keys) rule rules h))

  on-match-fine : (known : Known) (line : ℕ) (os : List Out) → All (λ o. needs_context o ≡ false) os → AllByRecursion (IsFine known) (back_statement names OnMatch line os)
  on-match-fine known line [] h = tt
  on-match-fine known line (o ∷ os) h = (match-fine known (o ∷ os) h, tt)

  on-nomatch-fine : (known : Known) (line : ℕ) (os : List Out) → All (λ o. needs_context o ≡ false) os → AllByRecursion (IsFine known) (back_statement names OnNoMatch line os)
  on-nomatch-fine known line [] h = tt
  on-nomatch-fine known line (o ∷ os) h = (match-fine known (o ∷ os) h, tt)

  fine-append : (known : Known) (xs ys : List RuleDef) → AllByRecursion (IsFine known) xs → AllByRecursion (IsFine known) ys → AllByRecursion (IsFine known) (xs ++ ys)
  fine-append known [] ys h k = k
  fine-append known (x ∷ xs) ys h k = (h.0, fine-append known xs ys h.1 k)

  group-fine : (known : Known) (stores groups line : ℕ) (name : List ℕ) (group : Group) → IsPlayableGroup stores groups group → AllByRecursion (IsFine known) (back_group names line name group).rules
  group-fine known stores groups line name group can =
      fine-append known (back_rules names (line + 1) group.rules) (back_statement names OnMatch (match_line line group) group.on_match ++ back_statement names OnNoMatch (nomatch_line names line group) group.on_nomatch)
      (rules-fine known stores groups group.using_keys (line + 1) group.rules can.rules)
      (fine-append known (back_statement names OnMatch (match_line line group) group.on_match) (back_statement names OnNoMatch (nomatch_line names line group) group.on_nomatch)
      (on-match-fine known (match_line line group) group.on_match can.on_match.no_context) (on-nomatch-fine known (nomatch_line names line group) group.on_nomatch can.on_nomatch.no_context))

  abbrev HasFineRules : Known → GroupDef → Type 0
  HasFineRules known group = AllByRecursion (IsFine known) group.rules

  groups-fine : (known : Known) (stores count line : ℕ) (called : List (List ℕ)) (groups : List Group) → All (IsPlayableGroup stores count) groups
      → AllByRecursion (HasFineRules known) (back_groups names line called groups)
  groups-fine known stores count line called [] h = tt
  groups-fine known stores count line called (group ∷ groups) h =
      let name : List ℕ = unwrap_or (slice_get called 0) [] in (
        group-fine known stores count line name group (All-head (IsPlayableGroup stores count) group groups h),
        groups-fine known stores count (line + 1 + length (back_group names line name group).rules) (drop 1 called) groups (All-tail (IsPlayableGroup stores count) group groups h),
      )

  -- whatever is known about the program, none of its rules is refused for an item
  pub no_rule_refused : (known : Known) (stores count line : ℕ) (called : List (List ℕ)) (groups : List Group) → All (IsPlayableGroup stores count) groups
      → first_of (rules_refusal known) [] (back_groups names line called groups) ≡ None
  no_rule_refused known stores count line called groups can =
      none_of_all (rules_refusal known) (HasFineRules known)
      (λ (before : List GroupDef) (group : GroupDef) h. none_of_all (rule_refusal known) (IsFine known) (λ (before : List RuleDef) (rule : RuleDef) e. no-line rule.line (rule_code known rule.kind rule) e) [] group.rules h)
      [] (back_groups names line called groups) (groups-fine known stores count line called groups can)

pub spelled_rules_stand : (bytes : List ℕ) → IsPlayable (tables_of bytes) → first_of (rules_refusal (known (back (tables_of bytes)))) [] (back (tables_of bytes)).groups ≡ None
unfolding back
spelled_rules_stand bytes can =
    let tables : Tables = tables_of bytes in
    no_rule_refused (names_for tables) (known (back tables)) (length tables.stores) (length tables.groups) (1 + length (written_stores tables) + length (written_begins tables))
    (names_for tables).groups tables.groups can.groups
