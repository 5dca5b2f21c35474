-- The options of tables are those of the program that they decompile to.
use Rattle.std.proofs.Common.{◌≡◌, ℕ, ◌+◌, List, [], ◌∷◌, ◌++◌, length, map, refl, sym, ◌∙◌, ap}
use Rattle.std.specs.Prelude.{flat_map, filter, find, option_to_list, slice_get, unwrap_or, drop}
use Rattle.std.proofs.lemmas.List.{map-append}
use Rattle.rule_model.specs.declared.program.RuleDef.{RuleDef}
use Rattle.rule_model.specs.declared.program.RuleKind.TheVariants.{OnMatch, OnNoMatch}
use Rattle.rule_model.specs.declared.program.GroupDef.{GroupDef}
use Rattle.rule_model.specs.declared.tables.Group.{Group}
use Rattle.rule_model.specs.declared.tables.Rule.{Rule}
use Rattle.rule_model.specs.declared.tables.Pat.{Pat}
use Rattle.rule_model.specs.declared.tables.Pat.TheVariants as pattern
use Rattle.rule_model.specs.declared.tables.Out.{Out}
use Rattle.rule_model.specs.declared.tables.Out.TheVariants as output
use Rattle.rule_model.specs.Src.{pattern_uses, output_uses, rule_uses, group_uses, is_plain, is_on_match, is_on_nomatch}
use Rattle.rule_model.specs.Tab.{pattern_options, output_options, rule_options, group_options}
use Rattle.decompile_program.specs.Items.{Names, store_called, back_pattern, back_output, some_items}
use Rattle.decompile_program.specs.Back.{back_rule, back_rules, back_statement, match_line, nomatch_line, back_group, back_groups}

module _ (names : Names) where
  pattern-uses : (x : Pat) → pattern_uses (back_pattern names x) ≡ map (store_called names) (pattern_options x)
  pattern-uses (pattern.Equal s v) = refl
  pattern-uses (pattern.Unequal s v) = refl
  pattern-uses x = refl

  output-uses : (x : Out) → output_uses (back_output names x) ≡ map (store_called names) (output_options x)
  output-uses (output.Set s v) = refl
  output-uses (output.Save s) = refl
  output-uses (output.Reset s) = refl
  output-uses x = refl

  patterns-uses : (xs : List Pat) → flat_map pattern_uses (map (back_pattern names) xs) ≡ map (store_called names) (flat_map pattern_options xs)
  patterns-uses [] = refl
  patterns-uses (x ∷ xs) = (λ i. pattern-uses x i ++ patterns-uses xs i) ∙ sym (map-append (store_called names) (pattern_options x) (flat_map pattern_options xs))

  outputs-uses : (xs : List Out) → flat_map output_uses (map (back_output names) xs) ≡ map (store_called names) (flat_map output_options xs)
  outputs-uses [] = refl
  outputs-uses (x ∷ xs) = (λ i. output-uses x i ++ outputs-uses xs i) ∙ sym (map-append (store_called names) (output_options x) (flat_map output_options xs))

  some-uses : (xs : List Out) → flat_map output_uses (some_items (map (back_output names) xs)) ≡ map (store_called names) (flat_map output_options xs)
  some-uses [] = refl
  some-uses (x ∷ xs) = outputs-uses (x ∷ xs)

  rule-uses : (line : ℕ) (rule : Rule) → rule_uses (back_rule names line rule) ≡ map (store_called names) (rule_options rule)
  rule-uses line rule = (λ i. patterns-uses rule.context i ++ some-uses rule.output i) ∙ sym (map-append (store_called names) (flat_map pattern_options rule.context) (flat_map output_options rule.output))

  -- the plain rules, and the statements, of a group
  pub plain-rules : (line : ℕ) (rules : List Rule) (more : List RuleDef) → filter is_plain (back_rules names line rules ++ more) ≡ back_rules names line rules ++ filter is_plain more
  plain-rules line [] more = refl
  plain-rules line (rule ∷ rules) more = ap (λ (rs : List RuleDef). back_rule names line rule ∷ rs) (plain-rules (line + 1) rules more)

  pub none-plain : (a b : ℕ) (xs ys : List Out) → filter is_plain (back_statement names OnMatch a xs ++ back_statement names OnNoMatch b ys) ≡ []
  none-plain a b [] [] = refl
  none-plain a b [] (y ∷ ys) = refl
  none-plain a b (x ∷ xs) [] = refl
  none-plain a b (x ∷ xs) (y ∷ ys) = refl

  pub append-none : (rs : List RuleDef) → rs ++ [] ≡ rs
  append-none [] = refl
  append-none (r ∷ rs) = ap (λ (ss : List RuleDef). r ∷ ss) (append-none rs)

  rules-uses : (line : ℕ) (rules : List Rule) → flat_map rule_uses (back_rules names line rules) ≡ map (store_called names) (flat_map rule_options rules)
  rules-uses line [] = refl
  rules-uses line (rule ∷ rules) = (λ i. rule-uses line rule i ++ rules-uses (line + 1) rules i) ∙ sym (map-append (store_called names) (rule_options rule) (flat_map rule_options rules))

  pub found-match : (line a b : ℕ) (rules : List Rule) (xs ys : List Out) → find is_on_match (back_rules names line rules ++ (back_statement names OnMatch a xs ++ back_statement names OnNoMatch b ys)) ≡ find is_on_match (back_statement names OnMatch a xs)
  found-match line a b [] [] [] = refl
  found-match line a b [] [] (y ∷ ys) = refl
  found-match line a b [] (x ∷ xs) ys = refl
  found-match line a b (rule ∷ rules) xs ys = found-match (line + 1) a b rules xs ys

  pub found-nomatch : (line a b : ℕ) (rules : List Rule) (xs ys : List Out) → find is_on_nomatch (back_rules names line rules ++ (back_statement names OnMatch a xs ++ back_statement names OnNoMatch b ys)) ≡ find is_on_nomatch (back_statement names OnNoMatch b ys)
  found-nomatch line a b [] [] ys = refl
  found-nomatch line a b [] (x ∷ xs) ys = refl
  found-nomatch line a b (rule ∷ rules) xs ys = found-nomatch (line + 1) a b rules xs ys

  append-nothing : (ns : List (List ℕ)) → ns ++ [] ≡ ns
  append-nothing [] = refl
  append-nothing (n ∷ ns) = ap (λ (ms : List (List ℕ)). n ∷ ms) (append-nothing ns)

  match-uses : (a : ℕ) (xs : List Out) → flat_map rule_uses (option_to_list (find is_on_match (back_statement names OnMatch a xs))) ≡ map (store_called names) (flat_map output_options xs)
  match-uses a [] = refl
  match-uses a (x ∷ xs) = append-nothing (flat_map output_uses (map (back_output names) (x ∷ xs))) ∙ outputs-uses (x ∷ xs)

  nomatch-uses : (a : ℕ) (xs : List Out) → flat_map rule_uses (option_to_list (find is_on_nomatch (back_statement names OnNoMatch a xs))) ≡ map (store_called names) (flat_map output_options xs)
  nomatch-uses a [] = refl
  nomatch-uses a (x ∷ xs) = append-nothing (flat_map output_uses (map (back_output names) (x ∷ xs))) ∙ outputs-uses (x ∷ xs)

  group-uses : (line : ℕ) (name : List ℕ) (g : Group) → group_uses (back_group names line name g) ≡ map (store_called names) (group_options g)
  group-uses line name g =
      let statements = back_statement names OnMatch (match_line line g) g.on_match ++ back_statement names OnNoMatch (nomatch_line names line g) g.on_nomatch in
      let plain : filter is_plain (back_rules names (line + 1) g.rules ++ statements) ≡ back_rules names (line + 1) g.rules =
      plain-rules (line + 1) g.rules statements ∙ ap (λ (rs : List RuleDef). back_rules names (line + 1) g.rules ++ rs) (none-plain (match_line line g) (nomatch_line names line g) g.on_match g.on_nomatch)
      ∙ append-none (back_rules names (line + 1) g.rules) in
      (λ i. flat_map rule_uses (plain i)
      ++ (flat_map rule_uses (option_to_list (found-match (line + 1) (match_line line g) (nomatch_line names line g) g.rules g.on_match g.on_nomatch i))
      ++ flat_map rule_uses (option_to_list (found-nomatch (line + 1) (match_line line g) (nomatch_line names line g) g.rules g.on_match g.on_nomatch i))))
      ∙ (λ i. rules-uses (line + 1) g.rules i ++ (match-uses (match_line line g) g.on_match i ++ nomatch-uses (nomatch_line names line g) g.on_nomatch i))
      ∙ (λ i. map (store_called names) (flat_map rule_options g.rules) ++ sym (map-append (store_called names) (flat_map output_options g.on_match) (flat_map output_options g.on_nomatch)) i)
      ∙ sym (map-append (store_called names) (flat_map rule_options g.rules) (flat_map output_options g.on_match ++ flat_map output_options g.on_nomatch))

  pub groups_uses : (line : ℕ) (called : List (List ℕ)) (gs : List Group) → flat_map group_uses (back_groups names line called gs) ≡ map (store_called names) (flat_map group_options gs)
  groups_uses line called [] = refl
  groups_uses line called (g ∷ gs) =
      let back : GroupDef = back_group names line (unwrap_or (slice_get called 0) []) g in
      (λ i. group-uses line (unwrap_or (slice_get called 0) []) g i ++ groups_uses (line + 1 + length back.rules) (drop 1 called) gs i)
      ∙ sym (map-append (store_called names) (group_options g) (flat_map group_options gs))
