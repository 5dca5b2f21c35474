-- The groups of a text correspond to those of the file.
use Rattle.std.proofs.Common.{◌≡◌, ℕ, zero, suc, ◌+◌, ◌<◌, ◌≤◌, ◌⊎◌, inl, inr, Bool, true, false, ◌&&◌, ◌||◌, List, [], ◌∷◌, ◌++◌, length, drop, map, Option, Some, refl, sym, ◌∙◌, ap, subst, arith, length-drop}
use Rattle.std.specs.Prelude.{slice_get, position, option_map, unwrap_or, nat_eq, nat_lt, nat_le, filter, find}
use Rattle.std.specs.List.{AllByRecursion, AllZip}
use Rattle.std.proofs.lemmas.Bool.{ltb-true, leb-true, false_from_ne_true, not-true, and_parts, cond_both, and_right}
use Rattle.std.proofs.lemmas.List.{length-map}
use Rattle.kmn_base.specs.Names.{same_name}
use Rattle.rule_model.specs.declared.program.RuleKind.TheVariants.{OnMatch, OnNoMatch}
use Rattle.rule_model.specs.declared.program.RuleDef.{RuleDef}
use Rattle.rule_model.specs.declared.program.GroupDef.{GroupDef}
use Rattle.rule_model.specs.declared.program.Program.{Program}
use Rattle.rule_model.specs.declared.tables.Out.{Out}
use Rattle.rule_model.specs.declared.tables.Rule.{Rule}
use Rattle.rule_model.specs.declared.tables.Group.{Group}
use Rattle.rule_model.specs.declared.tables.Tables.{Tables}
use Rattle.rule_model.specs.Keyboard.{RuleMeaning, GroupMeaning}
use Rattle.rule_model.specs.Choose.{choose}
use Rattle.rule_model.specs.Naming.{SourceNames, names_of}
use Rattle.rule_model.specs.Src.{src, src_group, src_rule, src_pattern, src_outputs, is_plain, is_on_match, is_on_nomatch}
use Rattle.rule_model.specs.Tab.{tab, tab_group, tab_rule, tab_output, output_if_any}
use Rattle.virtual_keys.proofs.PositionLemmas.{position-map}
use Rattle.compile_laws.proofs.Keyboards.{src_choice}
use Rattle.decompile_program.specs.Names.{is_free, keeps_name, group_names}
use Rattle.kmn_parser.specs.Names.{is_source_name}
use Rattle.decompile_program.specs.Items.{Names, back_pattern}
use Rattle.decompile_program.specs.Back.{back_rule, back_rules, back_statement, match_line, nomatch_line, back_group, back_groups}
use Rattle.decompile_program.specs.WrittenOut.{fall_from, has_falling_contexts}
use Rattle.decompile_program.proofs.Alike.{SameRule, SameGroup, SameOptional}
use Rattle.decompile_program.proofs.SameTraces.{NoneBefore, AreInOrder, best_is_first}
use Rattle.decompile_program.proofs.Apart.{Has, Differs, AreFree, has-append, has-last, free-not, free-drop, first-free, differs-first, differs-drop, taken-differs, source-some, same-turned}
use Rattle.virtual_keys.proofs.NamePlaces.{same_name-self}
use Rattle.decompile_program.proofs.Free.{AreDistinct}
use Rattle.decompile_program.proofs.Distinct.{found-at}
use Rattle.decompile_program.proofs.Good.{GoodOutput, GoodRule, GoodGroup}
use Rattle.decompile_program.proofs.Renamed.{Renamed, Called, rule_same, outputs-same}
use Rattle.decompile_program.proofs.Uses.{plain-rules, none-plain, append-none, found-match, found-nomatch}
use Rattle.decompile_program.proofs.Choosing.{all_weaker}

-- the names of groups are distinct
abbrev pub group_name : Group → List ℕ
group_name group = group.name

later-group : (x : List ℕ) (free earlier : List (List ℕ)) (groups : List Group) → same_name x [] ≡ false → Differs x free → (Has x earlier ⊎ Differs x (map group_name groups))
    → Differs x (group_names free earlier groups)
later-group x free earlier [] some d known = tt
later-group x free earlier (g ∷ groups) some d known =
    let behind : Has x (earlier ++ g.name ∷ []) ⊎ Differs x (map group_name groups) = elim known [ inl h ↦ inl (has-append x earlier (g.name ∷ []) h) | inr k ↦ inr k.1 ] in
    cond_both (keeps_name earlier g.name) _ _ (Differs x)
    (λ e. (
      elim known [
        | inl h ↦ same-turned g.name x (free-not x g.name earlier (not-true _ (and_parts (is_source_name g.name) (is_free earlier g.name) e).1) h)
        | inr k ↦ k.0
      ],
      later-group x free (earlier ++ g.name ∷ []) groups some d behind,
    ))
    (λ e. (differs-first x free some d, later-group x (drop 1 free) (earlier ++ g.name ∷ []) groups some (differs-drop x free d) behind))

free-groups : (taken : List (List ℕ)) (name : List ℕ) (groups : List Group) → is_free taken name ≡ true → AllByRecursion (λ (g : Group). Has g.name taken) groups → Differs name (map group_name groups)
free-groups taken name [] f all = tt
free-groups taken name (g ∷ groups) f all = (free-not g.name name taken (not-true _ f) all.0, free-groups taken name groups f all.1)

pub groups_apart : (taken free earlier : List (List ℕ)) (groups : List Group) → AreFree taken free → length groups ≤ length free → AllByRecursion (λ (g : Group). Has g.name taken) groups
    → AreDistinct (group_names free earlier groups)
groups_apart taken free earlier [] f enough all = tt
groups_apart taken free earlier (g ∷ groups) f enough all =
    let some_free : 0 < length free = omega arith in
    cond_both (keeps_name earlier g.name) _ _ AreDistinct
    (λ e. (
      later-group g.name free (earlier ++ g.name ∷ []) groups (source-some g.name (and_parts (is_source_name g.name) (is_free earlier g.name) e).0)
          (taken-differs g.name taken free all.0 f) (inl (has-last g.name earlier)),
      groups_apart taken free (earlier ++ g.name ∷ []) groups f (omega arith) all.1,
    ))
    (λ e. let head = first-free taken free some_free f in (
      later-group (unwrap_or (slice_get free 0) []) (drop 1 free) (earlier ++ g.name ∷ []) groups head.0.some head.1 (inr (free-groups taken _ groups head.0.free all.1)),
      groups_apart taken (drop 1 free) (earlier ++ g.name ∷ []) groups (free-drop taken free f) (let l = length-drop 1 free in omega (arith, l)) all.1,
    ))

pub group_count : (free earlier : List (List ℕ)) (groups : List Group) → length (group_names free earlier groups) ≡ length groups
group_count free earlier [] = refl
group_count free earlier (g ∷ groups) =
    cond_both (keeps_name earlier g.name) _ _ (λ names. length names ≡ suc (length groups))
    (λ e. ap suc (group_count free (earlier ++ g.name ∷ []) groups)) (λ e. ap suc (group_count (drop 1 free) (earlier ++ g.name ∷ []) groups))

pub names_taken : (groups : List Group) → AllByRecursion (λ (g : Group). Has g.name (map group_name groups)) groups
names_taken [] = tt
names_taken (g ∷ groups) =
    (inl refl, all_weaker (λ (x : Group). Has x.name (map group_name groups)) (λ (x : Group). Has x.name (g.name ∷ map group_name groups)) (λ x h. inr h) groups (names_taken groups))

-- the groups of a text have the given names

back-names : (n : SourceNames) (names : Names) (line : ℕ) (called : List (List ℕ)) (groups : List Group) → length called ≡ length groups
    → map (λ (g : GroupMeaning). g.name) (map (src_group n) (back_groups names line called groups)) ≡ called
back-names n names line [] [] same = refl
back-names n names line [] (g ∷ groups) same = absurd (omega (arith, same))
back-names n names line (c ∷ called) [] same = absurd (omega (arith, same))
back-names n names line (c ∷ called) (g ∷ groups) same =
    let back : GroupDef = back_group names line c g in
    ap (λ (rest : List (List ℕ)). c ∷ rest) (back-names n names (line + 1 + length back.rules) called groups (omega (arith, same)))

-- if the names of groups are distinct, a group is found by its name at its number
pub found-group : (n : SourceNames) (names : Names) (line : ℕ) (called : List (List ℕ)) (groups : List Group) (k : ℕ) (name : List ℕ) → length called ≡ length groups
    → AreDistinct called → slice_get called k ≡ Some name
    → position (λ (g : GroupMeaning). same_name g.name name) (map (src_group n) (back_groups names line called groups)) ≡ Some k
found-group n names line called groups k name same d at =
    sym (position-map (λ (g : GroupMeaning). g.name) (λ known. same_name known name) (map (src_group n) (back_groups names line called groups)))
    ∙ (ap (position (λ known. same_name known name)) (back-names n names line called groups same)
    ∙ found-at (λ known. same_name known name) name k called (same_name-self name) (λ x e. e) d at)

-- the group at a number of the text is that of the group at this number of the file
pub record BackAt (n : SourceNames) (names : Names) (groups : List Group) (list : List GroupMeaning) (k : ℕ) : Type 0 where
  pub group : Group
  pub old : slice_get groups k ≡ Some group
  pub line : ℕ
  pub name : List ℕ
  pub new : slice_get list k ≡ Some (src_group n (back_group names line name group))

pub back-at : (n : SourceNames) (names : Names) (line : ℕ) (called : List (List ℕ)) (groups : List Group) (k : ℕ) → k < length groups
    → BackAt n names groups (map (src_group n) (back_groups names line called groups)) k
back-at n names line called [] k less = absurd (omega arith)
back-at n names line called (g ∷ groups) zero less = record { group = g; old = refl; line = line; name = unwrap_or (slice_get called 0) []; new = refl }
back-at n names line called (g ∷ groups) (suc k) less =
    let back : GroupDef = back_group names line (unwrap_or (slice_get called 0) []) g in
    let more = back-at n names (line + 1 + length back.rules) (drop 1 called) groups k (omega arith) in
    record { group = more.group; old = more.old; line = more.line; name = more.name; new = more.new }

-- if the contexts of rules fall in length and their lines rise, the rules are in the order of precedence
before-false : (a b l m : ℕ) → a ≤ b → m < l → (nat_lt b a || (nat_eq a b && nat_lt l m)) ≡ false
before-false a b l m less rising =
    (λ i. false_from_ne_true (nat_lt b a) (λ e. let h = ltb-true b a e in absurd (omega (arith, h))) i || (nat_eq a b && false_from_ne_true (nat_lt l m) (λ e. let h = ltb-true l m e in absurd (omega (arith, h))) i))
    ∙ and_right (nat_eq a b) false refl

module _ (n : SourceNames) (names : Names) where
  context-length : (line : ℕ) (r : Rule) → length (src_rule n (back_rule names line r)).context ≡ length r.context
  context-length line r = length-map (map (back_pattern names) r.context) (src_pattern n) ∙ length-map r.context (back_pattern names)

  none-before : (x : RuleMeaning) (line : ℕ) (rules : List Rule) (longest : ℕ) → fall_from longest rules ≡ true → longest ≤ length x.context → x.line < line
      → NoneBefore x (map (src_rule n) (back_rules names line rules))
  none-before x line [] longest falls less rising = tt
  none-before x line (r ∷ rules) longest falls less rising =
      let two = and_parts (nat_le (length r.context) longest) (fall_from (length r.context) rules) falls in
      let here = leb-true (length r.context) longest two.0 in
      let same = context-length line r in (
        before-false (length (src_rule n (back_rule names line r)).context) (length x.context) line x.line (omega (arith, here, same, less)) rising,
        none-before x (line + 1) rules (length r.context) two.1 (omega (arith, here, less)) (omega (arith, rising)),
      )

  in-order : (line : ℕ) (rules : List Rule) (longest : ℕ) → fall_from longest rules ≡ true → AreInOrder (map (src_rule n) (back_rules names line rules))
  in-order line [] longest falls = tt
  in-order line (r ∷ rules) longest falls =
      let two = and_parts (nat_le (length r.context) longest) (fall_from (length r.context) rules) falls in
      let same = context-length line r in (
        none-before (src_rule n (back_rule names line r)) (line + 1) rules (length r.context) two.1 (omega (arith, same)) (omega arith),
        in-order (line + 1) rules (length r.context) two.1,
      )

  pub group-order : (line : ℕ) (rules : List Rule) → has_falling_contexts rules ≡ true → AreInOrder (map (src_rule n) (back_rules names line rules))
  group-order line [] falls = tt
  group-order line (r ∷ rules) falls =
      let same = context-length line r in (
        none-before (src_rule n (back_rule names line r)) (line + 1) rules (length r.context) falls (omega (arith, same)) (omega arith),
        in-order (line + 1) rules (length r.context) falls,
      )

  pub only-rules : (line : ℕ) (name : List ℕ) (g : Group) → filter is_plain (back_group names line name g).rules ≡ back_rules names (line + 1) g.rules
  only-rules line name g =
      plain-rules names (line + 1) g.rules (back_statement names OnMatch (match_line line g) g.on_match ++ back_statement names OnNoMatch (nomatch_line names line g) g.on_nomatch)
      ∙ (ap (λ (rs : List RuleDef). back_rules names (line + 1) g.rules ++ rs) (none-plain names (match_line line g) (nomatch_line names line g) g.on_match g.on_nomatch)
      ∙ append-none names (back_rules names (line + 1) g.rules))

module _ (p : Program) (t : Tables) (names : Names) (r : Renamed p t names) where
  rules-same : (using : Bool) (line : ℕ) (rules : List Rule) → AllByRecursion (GoodRule t using) rules
      → AllZip (SameRule (src p) (tab t) (Called t names)) (map (src_rule (names_of p)) (back_rules names line rules)) (map (tab_rule t.stores using) rules)
  rules-same using line [] ok = tt
  rules-same using line (x ∷ rules) ok = (rule_same p t names r using line x ok.0, rules-same using (line + 1) rules ok.1)

  match-same : (line : ℕ) (xs : List Out) → AllByRecursion (GoodOutput t) xs
      → SameOptional (src p) (tab t) (Called t names) (option_map (src_outputs (names_of p)) (find is_on_match (back_statement names OnMatch line xs))) (output_if_any (map (tab_output t.stores) xs))
  match-same line [] ok = tt
  match-same line (x ∷ xs) ok = outputs-same p t names r (x ∷ xs) ok

  nomatch-same : (line : ℕ) (xs : List Out) → AllByRecursion (GoodOutput t) xs
      → SameOptional (src p) (tab t) (Called t names) (option_map (src_outputs (names_of p)) (find is_on_nomatch (back_statement names OnNoMatch line xs))) (output_if_any (map (tab_output t.stores) xs))
  nomatch-same line [] ok = tt
  nomatch-same line (x ∷ xs) ok = outputs-same p t names r (x ∷ xs) ok

  -- a group and its group in the text have the same effect
  pub group_same : (line : ℕ) (name : List ℕ) (g : Group) → GoodGroup t g → SameGroup (src p) (tab t) (Called t names) (src_group (names_of p) (back_group names line name g)) (tab_group t.stores g)
  group_same line name g ok =
      let plain = only-rules (names_of p) names line name g in
      record {
        chosen = λ caught.
            ap (λ c. choose c caught (src_group (names_of p) (back_group names line name g)).rules) (src_choice p)
            ∙ best_is_first caught (src_group (names_of p) (back_group names line name g)).rules
            (subst (λ (rs : List RuleDef). AreInOrder (map (src_rule (names_of p)) rs)) (sym plain) (group-order (names_of p) names (line + 1) g.rules ok.order));
        keys = refl;
        rules = subst (λ (rs : List RuleDef). AllZip (SameRule (src p) (tab t) (Called t names)) (map (src_rule (names_of p)) rs) (map (tab_rule t.stores g.using_keys) g.rules)) (sym plain)
            (rules-same g.using_keys (line + 1) g.rules ok.rules);
        matched = subst (λ (o : Option RuleDef). SameOptional (src p) (tab t) (Called t names) (option_map (src_outputs (names_of p)) o) (output_if_any (map (tab_output t.stores) g.on_match)))
            (sym (found-match names (line + 1) (match_line line g) (nomatch_line names line g) g.rules g.on_match g.on_nomatch)) (match-same (match_line line g) g.on_match ok.on_match);
        unmatched = subst (λ (o : Option RuleDef). SameOptional (src p) (tab t) (Called t names) (option_map (src_outputs (names_of p)) o) (output_if_any (map (tab_output t.stores) g.on_nomatch)))
            (sym (found-nomatch names (line + 1) (match_line line g) (nomatch_line names line g) g.rules g.on_match g.on_nomatch)) (nomatch-same (nomatch_line names line g) g.on_nomatch ok.on_nomatch);
      }
