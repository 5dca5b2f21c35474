-- If something is found for each record of a rule, the rule is dead.
use Rattle.std.proofs.Common.{◌≡◌, ◌≢◌, ℕ, zero, suc, ◌+◌, ◌<◌, Bool, true, false, if◌then◌else◌, List, [], ◌∷◌, ◌++◌, length, inl, inr, refl, sym, ap, ◌∙◌, subst, arith, Option, Some, None}
use Rattle.std.specs.Prelude.{is_some, nat_eq, slice_get}
use Rattle.std.specs.List.{list_all}
use Rattle.std.proofs.lemmas.Bool.{and_parts, eq-eqb}
use Rattle.std.proofs.lemmas.List.{length-map}
use Rattle.std.proofs.lemmas.List.Elements.{All-weaker, filter_passes, filter-append}
use Rattle.std.proofs.lemmas.List.Folds.{list_all-append}
use Rattle.std.proofs.lemmas.Option.{none-some, same_Some, slice_get_cases}
use Rattle.rule_model.specs.declared.program.Program.{Program}
use Rattle.rule_model.specs.declared.program.GroupDef.{GroupDef}
use Rattle.rule_model.specs.declared.tables.Rule.{Rule}
use Rattle.rule_model.specs.declared.tables.Group.{Group}
use Rattle.rule_model.specs.declared.tables.Tables.{Tables}
use Rattle.kmx_format.specs.Writable.{IsWritable}
use Rattle.compile_laws.specs.WellNamed.{IsWellNamed}
use Rattle.compile_laws.specs.Numbers.{numbers_of}
use Rattle.compile_laws.specs.Compiles.{Compiles, file_group}
use Rattle.rule_shadow.specs.declared.finding.Found.{Found}
use Rattle.rule_shadow.specs.declared.finding.Found.TheVariants as finding
use Rattle.rule_shadow.specs.Finding.{found, found_for, found_in, found_if_any}
use Rattle.rule_shadow.specs.Laws.{AreCovered}
use Rattle.rule_shadow.proofs.DeadRules.{covered_rules_are_dead}
use Rattle.rule_shadow.proofs.FoundCovers.{found_covers}
use Rattle.shadow_text.specs.declared.verdicts.Verdict.{Verdict}
use Rattle.shadow_text.specs.Verdicts.{found_lines, verdict_of, verdicts_from, group_verdicts, groups_verdicts, verdicts}
use Rattle.shadow_text.specs.DeadLines.{is_found, of_line, is_dead, dead_among, dead_lines, rule_lines, IsDeadLine, DeadLinesAreDead}

-- if `found_lines` returns lines, something is found
is_there : (rules : List Rule) (what : Found) → is_some (found_lines rules what) ≡ true → what ≢ finding.NotFound
is_there rules finding.NotFound told e = cc
is_there rules (finding.ByRule q) told e = cc
is_there rules (finding.SplitAt place qs) told e = cc

-- if all records of a line have something found, the first of them has
first_found : (line : ℕ) (verdict : Verdict) (all : List Verdict) → verdict.line ≡ line → is_dead (verdict ∷ all) line ≡ true → is_found verdict ≡ true
first_found line verdict all same dead = by (nat_eq verdict.line line) (eq-eqb verdict.line line same) dead
  where
    by : (b : Bool) → b ≡ true → list_all is_found (if b then verdict ∷ of_line all line else of_line all line) ≡ true → is_found verdict ≡ true
    by true is all_found = (and_parts (is_found verdict) (list_all is_found (of_line all line)) all_found).0
    by false is all_found = cc

rest_found : (line : ℕ) (verdict : Verdict) (all : List Verdict) → is_dead (verdict ∷ all) line ≡ true → is_dead all line ≡ true
rest_found line verdict all dead = by (nat_eq verdict.line line) dead
  where
    by : (b : Bool) → list_all is_found (if b then verdict ∷ of_line all line else of_line all line) ≡ true → is_dead all line ≡ true
    by true all_found = (and_parts (is_found verdict) (list_all is_found (of_line all line)) all_found).1
    by false all_found = all_found

parts_found : (line : ℕ) (some more : List Verdict) → is_dead (some ++ more) line ≡ true → (is_dead some line ≡ true) × (is_dead more line ≡ true)
parts_found line some more dead =
    and_parts (is_dead some line) (is_dead more line)
    (sym (ap (list_all is_found) (filter-append (λ (verdict : Verdict). nat_eq verdict.line line) some more) ∙ list_all-append is_found (of_line some line) (of_line more line)) ∙ dead)

module _ (tables : Tables) (line : ℕ) where
  -- if a line is dead in a list of groups, it is dead in each group
  in_group : (groups : List Group) (from n : ℕ) (group : Group) → slice_get groups n ≡ Some group → is_dead (groups_verdicts tables from groups) line ≡ true
      → is_dead (group_verdicts tables (from + n) group.rules) line ≡ true
  in_group [] from n group at dead = absurd (none-some group at)
  in_group (g ∷ gs) from zero group at dead =
      let here : from ≡ from + 0 = omega arith in
      subst (λ k. is_dead (group_verdicts tables k group.rules) line ≡ true) here
      (subst (λ (h : Group). is_dead (group_verdicts tables from h.rules) line ≡ true) (same_Some g group at)
      (parts_found line (group_verdicts tables from g.rules) (groups_verdicts tables (from + 1) gs) dead).0)
  in_group (g ∷ gs) from (suc n) group at dead =
      let next : (from + 1) + n ≡ from + suc n = omega arith in
      subst (λ k. is_dead (group_verdicts tables k group.rules) line ≡ true) next
      (in_group gs (from + 1) n group at (parts_found line (group_verdicts tables from g.rules) (groups_verdicts tables (from + 1) gs) dead).1)

  -- if a line is dead in a group, something is found for each record of the line
  found_at : (n : ℕ) (all : List Rule) (from : ℕ) (rules : List Rule) (k : ℕ) (r : Rule) → slice_get rules k ≡ Some r → r.line ≡ line
      → is_dead (verdicts_from tables n all from rules) line ≡ true → is_found (verdict_of tables n all (from + k) r) ≡ true
  found_at n all from [] k r at same dead = absurd (none-some r at)
  found_at n all from (q ∷ rules) zero r at same dead =
      let is = same_Some q r at in
      let here : from ≡ from + 0 = omega arith in
      subst (λ m. is_found (verdict_of tables n all m r) ≡ true) here
      (subst (λ x. is_found (verdict_of tables n all from x) ≡ true) is
      (first_found line (verdict_of tables n all from q) (verdicts_from tables n all (from + 1) rules) (ap (λ (x : Rule). x.line) is ∙ same) dead))
  found_at n all from (q ∷ rules) (suc k) r at same dead =
      let next : (from + 1) + k ≡ from + suc k = omega arith in
      subst (λ m. is_found (verdict_of tables n all m r) ≡ true) next
      (found_at n all (from + 1) rules k r at same (rest_found line (verdict_of tables n all from q) (verdicts_from tables n all (from + 1) rules) dead))

all_dead : (tables : Tables) (line : ℕ) → is_dead (verdicts tables) line ≡ true → is_dead (groups_verdicts tables 0 tables.groups) line ≡ true
unfolding verdicts
all_dead tables line dead = dead

-- if a line is dead, something is found for each of its records
found_for_each : (tables : Tables) (line n : ℕ) (group : Group) → slice_get tables.groups n ≡ Some group → is_dead (verdicts tables) line ≡ true
    → (number : ℕ) (r : Rule) → slice_get group.rules number ≡ Some r → r.line ≡ line → found tables n number ≢ finding.NotFound
found_for_each tables line n group at dead number r at_number same =
    let group_number : 0 + n ≡ n = omega arith in
    let rule_number : 0 + number ≡ number = omega arith in
    let here : is_dead (group_verdicts tables n group.rules) line ≡ true
    = subst (λ k. is_dead (group_verdicts tables k group.rules) line ≡ true) group_number (in_group tables line tables.groups 0 n group at (all_dead tables line dead)) in
    is_there group.rules (found tables n number)
    (subst (λ k. is_found (verdict_of tables n group.rules k r) ≡ true) rule_number (found_at tables line n group.rules 0 group.rules number r at_number same here))

are_covered : (tables : Tables) → IsWritable tables → (line n : ℕ) (group : Group) → slice_get tables.groups n ≡ Some group → is_dead (verdicts tables) line ≡ true → AreCovered tables n group line
are_covered tables writable line n group at dead number r at_number same =
    let is : found tables n number ≡ found_for tables group number r = ap (λ o. found_in tables o number) at ∙ ap (found_if_any tables group number) at_number in
    let some = found_for_each tables line n group at dead number r at_number same in
    found_covers tables writable n number group r at at_number (λ e. some (is ∙ e))

-- if a program has a group of a number, its tables have one of this number
compiled_group : (p : Program) (tables : Tables) → Compiles p tables → (n : ℕ) (group : GroupDef) → slice_get p.groups n ≡ Some group → (h : Group) × (slice_get tables.groups n ≡ Some h)
compiled_group p tables c n group stated = by (slice_get tables.groups n) refl
  where
    within : n < length tables.groups
    within = elim (slice_get_cases p.groups n).1 [
      | inl is ↦ omega (arith, is.1, c.groups.count, length-map p.groups (file_group (numbers_of p)))
      | inr past ↦ absurd (none-some group (sym past.1 ∙ stated))
    ]

    by : (o : Option Group) → slice_get tables.groups n ≡ o → (h : Group) × (slice_get tables.groups n ≡ Some h)
    by (Some h) is = (h, is)
    by None is = elim (slice_get_cases tables.groups n).1 [
      | inl some ↦ absurd (none-some some.0 (sym is ∙ some.2))
      | inr past ↦ absurd (omega (arith, within, past.0))
    ]

dead_line : (p : Program) (tables : Tables) → IsWellNamed p → Compiles p tables → IsWritable tables → (line : ℕ) → is_dead (verdicts tables) line ≡ true → IsDeadLine p line
dead_line p tables ok c writable line dead n group stated =
    let h = compiled_group p tables c n group stated in
    covered_rules_are_dead p tables ok c writable n group h.0 stated h.1 line (are_covered tables writable line n h.0 h.1 dead)

pub dead_lines_dead : DeadLinesAreDead
unfolding dead_lines
dead_lines_dead p tables ok c writable =
    All-weaker (λ line. is_dead (verdicts tables) line ≡ true) (IsDeadLine p) (dead_line p tables ok c writable) (dead_among (verdicts tables))
    (filter_passes (is_dead (verdicts tables)) (rule_lines (verdicts tables)))
