-- The deadkeys and the dictionary keys of a text are numbered as in the file.
use Rattle.std.proofs.Common.{◌≡◌, ℕ, ◌+◌, ◌-◌, Bool, true, false, List, [], ◌∷◌, ◌++◌, length, drop, map, Option, None, Some, is_some, refl, sym, ◌∙◌, ap, subst, arith, if◌then◌else◌}
use Rattle.std.specs.Prelude.{slice_get, option_to_list, unwrap_or, nat_eq, nat_lt, flat_map}
use Rattle.std.specs.List.{AllByRecursion, range_with_len}
use Rattle.std.specs.Fmt.{decimal}
use Rattle.std.proofs.lemmas.Bool.{eqb-true, false_from_ne_true, cond-true, cond-false}
use Rattle.kmn_base.specs.declared.items.Element.{Element}
use Rattle.kmn_base.specs.declared.items.Element.TheVariants as element
use Rattle.kmn_base.specs.declared.keys.RuleKey.{RuleKey}
use Rattle.kmn_base.specs.declared.keys.RuleKey.TheVariants as key
use Rattle.virtual_keys.specs.Keys.{key_codes, key_name}
use Rattle.virtual_keys.specs.Dictionary.{name_in}
use Rattle.rule_model.specs.declared.program.SrcItem.{SrcItem}
use Rattle.rule_model.specs.declared.program.SrcItem.TheVariants as source
use Rattle.rule_model.specs.declared.program.KeyName.{KeyName}
use Rattle.rule_model.specs.declared.program.RuleKind.{RuleKind}
use Rattle.rule_model.specs.declared.program.RuleKind.TheVariants.{OnMatch, OnNoMatch}
use Rattle.rule_model.specs.declared.program.RuleDef.{RuleDef}
use Rattle.rule_model.specs.declared.program.GroupDef.{GroupDef}
use Rattle.rule_model.specs.declared.tables.Pat.{Pat}
use Rattle.rule_model.specs.declared.tables.Pat.TheVariants as pattern
use Rattle.rule_model.specs.declared.tables.Out.{Out}
use Rattle.rule_model.specs.declared.tables.Out.TheVariants as output
use Rattle.rule_model.specs.declared.tables.Rule.{Rule}
use Rattle.rule_model.specs.declared.tables.Store.{Store}
use Rattle.rule_model.specs.declared.tables.Group.{Group}
use Rattle.rule_model.specs.declared.tables.Tables.{Tables}
use Rattle.rule_model.specs.Tab.{tab_dictionary}
use Rattle.rule_model.specs.Naming.{rule_items, store_items, mark_names, key_names}
use Rattle.decompile_program.specs.Marks.{greatest_mark}
use Rattle.decompile_program.specs.Items.{Names, back_element, back_pattern, back_output, back_key, some_items, key_by_code, key_by_name, key_called}
use Rattle.decompile_program.specs.Back.{back_rule, back_rules, back_statement, match_line, nomatch_line, back_group, back_groups, back_stores}
use Rattle.decompile_program.specs.WrittenOut.{key_codes_of}
use Rattle.decompile_program.proofs.Good.{IsMark, IsKey, GoodPattern, GoodOutput, GoodElement, GoodRule, GoodGroup}
use Rattle.decompile_program.proofs.Distinct.{Among, at-among, range-at}
use Rattle.decompile_program.proofs.Choosing.{all_join}
use Rattle.kmn_lines.proofs.TextSizes.{clash}

abbrev pub mark_list : Tables → List (List ℕ)
mark_list t = map decimal (range_with_len 1 (greatest_mark t))

abbrev pub key_list : Tables → List (List ℕ)
key_list t = tab_dictionary t.stores

pub mark-at : (t : Tables) (m : ℕ) → IsMark t m → slice_get (mark_list t) (m - 1) ≡ Some (decimal m)
mark-at t m ok =
    let some = ok.0 in let most = ok.1 in
    let e : 1 + (m - 1) ≡ m = omega (arith, some) in
    range-at 1 (greatest_mark t) (m - 1) (omega (arith, some, most)) ∙ ap (λ (n : ℕ). Some (decimal n)) e

-- a code is that of a key of every keyboard, or that of a name in the dictionary
pub record IsOwnCode (code : ℕ) : Type 0 where
  pub small : nat_lt code 256 ≡ true
  pub some : nat_eq code 0 ≡ false

pub record IsNamedCode (t : Tables) (code : ℕ) : Type 0 where
  pub large : nat_lt code 256 ≡ false
  pub name : List ℕ
  pub at : slice_get (key_list t) (code - 256) ≡ Some name

pub no-zero : is_some (key_name 0) ≡ false
unfolding key_codes
no-zero = refl

own-code : (code : ℕ) → is_some (key_name code) ≡ true → nat_eq code 0 ≡ false
own-code code e =
    false_from_ne_true (nat_eq code 0) (λ z. let same : code ≡ 0 = eqb-true code 0 z in clash (is_some (key_name 0)) (ap (λ (k : ℕ). is_some (key_name k)) (sym same) ∙ e) no-zero)

some-name : (o : Option (List ℕ)) → is_some o ≡ true → (name : List ℕ) × (o ≡ Some name)
some-name None e = absurd cc
some-name (Some name) e = (name, refl)

pub known-key : {X : Type 0} (t : Tables) (code : ℕ) → IsKey t code → (IsOwnCode code → X) → (IsNamedCode t code → X) → X
known-key {X} t code ok own named =
    elim (nat_lt code 256) as (λ b. nat_lt code 256 ≡ b → is_some (if b then key_name code else (if b then None else slice_get (key_list t) (code - 256))) ≡ true → X) [
      | true ↦ λ e h. own (record { small = e; some = own-code code h })
      | false ↦ λ e h. let found = some-name (slice_get (key_list t) (code - 256)) h in named (record { large = e; name = found.0; at = found.1 })
    ] refl ok

-- the deadkey and the key of an item are known
abbrev pub Fine : Tables → SrcItem → Type 0
Fine t i = AllByRecursion (Among (mark_list t)) (mark_names i) × AllByRecursion (Among (key_list t)) (key_names i)

pub called-name : (t : Tables) (names : Names) (code : ℕ) → names.keys ≡ key_list t → (named : IsNamedCode t code) → unwrap_or (name_in names.keys code) [] ≡ named.name
called-name t names code is named =
    ap (λ (keys : List (List ℕ)). unwrap_or (name_in keys code) []) is
    ∙ (ap (λ (o : Option (List ℕ)). unwrap_or o []) (cond-false (nat_lt code 256) None (slice_get (key_list t) (code - 256)) named.large) ∙ ap (λ (o : Option (List ℕ)). unwrap_or o []) named.at)

key-fine : (t : Tables) (names : Names) (flags code : ℕ) → names.keys ≡ key_list t → IsKey t code → AllByRecursion (Among (key_list t)) (key_names (source.Key (key_called names flags code)))
key-fine t names flags code is ok =
    known-key t code ok
    (λ own. subst (λ (k : KeyName). AllByRecursion (Among (key_list t)) (key_names (source.Key k))) (sym (cond-true (nat_lt code 256) (key_by_code flags code) (key_by_name names flags code) own.small))
    (subst (λ b. AllByRecursion (Among (key_list t)) (if b then [] ∷ [] else [])) (sym own.some) tt))
    (λ named. subst (λ (k : KeyName). AllByRecursion (Among (key_list t)) (key_names (source.Key k))) (sym (cond-false (nat_lt code 256) (key_by_code flags code) (key_by_name names flags code) named.large))
    (subst (λ (name : List ℕ). Among (key_list t) name) (sym (called-name t names code is named)) (at-among (key_list t) (code - 256) named.name named.at), tt))

module _ (t : Tables) (names : Names) (is : names.keys ≡ key_list t) where
  mark-fine : (m : ℕ) → IsMark t m → AllByRecursion (Among (mark_list t)) (decimal m ∷ [])
  mark-fine m ok = (at-among (mark_list t) (m - 1) (decimal m) (mark-at t m ok), tt)

  pattern-fine : (x : Pat) → GoodPattern t x → Fine t (back_pattern names x)
  pattern-fine (pattern.Mark m) ok = (mark-fine m ok.marks.0, tt)
  pattern-fine x ok = (tt, tt)

  output-fine : (x : Out) → GoodOutput t x → Fine t (back_output names x)
  output-fine (output.Mark m) ok = (mark-fine m ok.marks.0, tt)
  output-fine x ok = (tt, tt)

  element-fine : (e : Element) → GoodElement t e → Fine t (back_element names e)
  element-fine (element.Char c) ok = (tt, tt)
  element-fine (element.Mark m) ok = (mark-fine m ok.marks.0, tt)
  element-fine (element.Key flags code) ok = (tt, key-fine t names flags code is ok.keys.0)

  rule-key-fine : (k : RuleKey) → AllByRecursion (IsKey t) (key_codes_of k) → AllByRecursion (Fine t) (option_to_list (back_key names k))
  rule-key-fine key.Any ok = tt
  rule-key-fine (key.Char c) ok = ((tt, tt), tt)
  rule-key-fine (key.Virtual flags code) ok = ((tt, key-fine t names flags code is ok.0), tt)

  patterns-fine : (xs : List Pat) → AllByRecursion (GoodPattern t) xs → AllByRecursion (Fine t) (map (back_pattern names) xs)
  patterns-fine [] ok = tt
  patterns-fine (x ∷ xs) ok = (pattern-fine x ok.0, patterns-fine xs ok.1)

  outputs-fine : (xs : List Out) → AllByRecursion (GoodOutput t) xs → AllByRecursion (Fine t) (map (back_output names) xs)
  outputs-fine [] ok = tt
  outputs-fine (x ∷ xs) ok = (output-fine x ok.0, outputs-fine xs ok.1)

  some-fine : (xs : List Out) → AllByRecursion (GoodOutput t) xs → AllByRecursion (Fine t) (some_items (map (back_output names) xs))
  some-fine [] ok = ((tt, tt), tt)
  some-fine (x ∷ xs) ok = outputs-fine (x ∷ xs) ok

  elements-fine : (es : List Element) → AllByRecursion (GoodElement t) es → AllByRecursion (Fine t) (map (back_element names) es)
  elements-fine [] ok = tt
  elements-fine (e ∷ es) ok = (element-fine e ok.0, elements-fine es ok.1)

  pub stores-fine : (line : ℕ) (calls : List (Option (List ℕ))) (stores : List Store) → AllByRecursion (λ (s : Store). AllByRecursion (GoodElement t) s.elements) stores
      → AllByRecursion (Fine t) (store_items (back_stores names line calls stores))
  stores-fine line [] stores ok = tt
  stores-fine line (call ∷ calls) [] ok = tt
  stores-fine line (None ∷ calls) (s ∷ stores) ok = stores-fine line calls stores ok.1
  stores-fine line (Some name ∷ calls) (s ∷ stores) ok =
      all_join (Fine t) (map (back_element names) s.elements) (store_items (back_stores names (line + 1) calls stores)) (elements-fine s.elements ok.0) (stores-fine (line + 1) calls stores ok.1)

  rule-fine : (using : Bool) (line : ℕ) (r : Rule) → GoodRule t using r → AllByRecursion (Fine t) (rule_items (back_rule names line r))
  rule-fine using line r ok =
      all_join (Fine t) (map (back_pattern names) r.context) (option_to_list (back_key names r.key) ++ some_items (map (back_output names) r.output)) (patterns-fine r.context ok.context)
      (all_join (Fine t) (option_to_list (back_key names r.key)) (some_items (map (back_output names) r.output)) (rule-key-fine r.key ok.keys) (some-fine r.output ok.output))

  rules-fine : (using : Bool) (line : ℕ) (rules : List Rule) → AllByRecursion (GoodRule t using) rules → AllByRecursion (λ (r : RuleDef). AllByRecursion (Fine t) (rule_items r)) (back_rules names line rules)
  rules-fine using line [] ok = tt
  rules-fine using line (r ∷ rules) ok = (rule-fine using line r ok.0, rules-fine using (line + 1) rules ok.1)

  statement-fine : (kind : RuleKind) (line : ℕ) (xs : List Out) → AllByRecursion (GoodOutput t) xs → AllByRecursion (λ (r : RuleDef). AllByRecursion (Fine t) (rule_items r)) (back_statement names kind line xs)
  statement-fine kind line [] ok = tt
  statement-fine kind line (x ∷ xs) ok = (outputs-fine (x ∷ xs) ok, tt)

  group-fine : (line : ℕ) (name : List ℕ) (g : Group) → GoodGroup t g → AllByRecursion (λ (r : RuleDef). AllByRecursion (Fine t) (rule_items r)) (back_group names line name g).rules
  group-fine line name g ok =
      all_join (λ (r : RuleDef). AllByRecursion (Fine t) (rule_items r)) (back_rules names (line + 1) g.rules) _ (rules-fine g.using_keys (line + 1) g.rules ok.rules)
      (all_join (λ (r : RuleDef). AllByRecursion (Fine t) (rule_items r)) (back_statement names OnMatch (match_line line g) g.on_match) (back_statement names OnNoMatch (nomatch_line names line g) g.on_nomatch)
      (statement-fine OnMatch (match_line line g) g.on_match ok.on_match) (statement-fine OnNoMatch (nomatch_line names line g) g.on_nomatch ok.on_nomatch))

  pub groups-fine : (line : ℕ) (called : List (List ℕ)) (groups : List Group) → AllByRecursion (GoodGroup t) groups
      → AllByRecursion (λ (r : RuleDef). AllByRecursion (Fine t) (rule_items r)) (flat_map (λ (g : GroupDef). g.rules) (back_groups names line called groups))
  groups-fine line called [] ok = tt
  groups-fine line called (g ∷ groups) ok =
      let back : GroupDef = back_group names line (unwrap_or (slice_get called 0) []) g in
      all_join (λ (r : RuleDef). AllByRecursion (Fine t) (rule_items r)) back.rules (flat_map (λ (g : GroupDef). g.rules) (back_groups names (line + 1 + length back.rules) (drop 1 called) groups))
      (group-fine line (unwrap_or (slice_get called 0) []) g ok.0) (groups-fine (line + 1 + length back.rules) (drop 1 called) groups ok.1)
