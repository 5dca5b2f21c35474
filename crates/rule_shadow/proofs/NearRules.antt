-- If a record covers another once one place is narrowed, it misses at most that place before.
use Rattle.std.proofs.Common.{◌≡◌, ℕ, zero, suc, ◌+◌, ◌-◌, ◌≤◌, Bool, true, false, not, ◌&&◌, ◌||◌, List, [], ◌∷◌, ◌++◌, length, drop, Option, Some, None, refl, sym, ap, ◌∙◌, subst, arith, ◌⊎◌, inl, inr, cond, if◌then◌else◌}
use Rattle.std.specs.Prelude.{nat_eq, nat_le, take, slice_get, slice_set, option_and_then}
use Rattle.std.specs.List.{list_all, list_any, position_from}
use Rattle.std.specs.Option.{option_flatten}
use Rattle.std.proofs.lemmas.Bool.{and_parts, cases_Bool, cond-true, cond-false, eqb-true, or_parts, or_right}
use Rattle.std.proofs.lemmas.Bool.Decides.{nat_tests}
use Rattle.std.proofs.Math.Bool.{and-false}
use Rattle.kmn_base.specs.declared.items.Item.{Item}
use Rattle.rule_model.specs.declared.tables.Pat.{Pat}
use Rattle.rule_model.specs.declared.tables.Pat.TheVariants as pattern
use Rattle.rule_model.specs.declared.tables.Rule.{Rule}
use Rattle.rule_model.specs.declared.tables.Group.{Group}
use Rattle.rule_model.specs.declared.tables.Tables.{Tables}
use Rattle.rule_model.specs.Patterns.{is_matched}
use Rattle.kmx_format.specs.Writable.{is_any}
use Rattle.rule_shadow.specs.declared.cert.Range.{Range}
use Rattle.rule_shadow.specs.declared.cert.Range.TheVariants as range
use Rattle.rule_shadow.specs.declared.cert.Place.{Place}
use Rattle.rule_shadow.specs.declared.near.Miss.{Miss}
use Rattle.rule_shadow.specs.declared.near.Miss.TheVariants as miss
use Rattle.rule_shadow.specs.declared.near.Near.{Near}
use Rattle.rule_shadow.specs.declared.finding.Found.TheVariants as finding
use Rattle.rule_shadow.specs.Keys.{covers_key}
use Rattle.rule_shadow.specs.Places.{Narrowing, first_given, stated_range, range_of, patterns_of, places_from}
use Rattle.rule_shadow.specs.Covers.{covers_place, cover_each, cover_last, is_condition_of, keeps_nul, covers_rule, covers_if_any, split_items, narrowed, nothing_narrowed}
use Rattle.rule_shadow.specs.Finding.{least_by, least_onto, split_rules, split_or, first_split}
use Rattle.rule_shadow.specs.Near.{hands_on, missed_from, miss_of, missed_last, miss_by, is_several, is_at_most, near_rules, near_before, first_near}

no_case : (P : Type 0) → true ≡ false → P
no_case P e = cc

few_missed : (place : ℕ) (m : Miss) → is_at_most place m ≡ true → is_several m ≡ false
few_missed place miss.Nowhere e = refl
few_missed place (miss.At other) e = refl
few_missed place miss.Several e = no_case _ (sym e)

-- if all records that cover miss at most one place, the first that covers is among the near records
module _ (missed : Rule → Miss) (place : ℕ) (covers : Option Rule → Bool) (only : (q : Rule) → covers (Some q) ≡ true → is_at_most place (missed q) ≡ true) (get : ℕ → Option Rule) where
  abbrev passes : Near → Bool
  passes n = is_at_most place n.miss && covers (get n.rule)

  abbrev own : ℕ → Rule → Near
  own from q = record { rule = from; miss = missed q }

  abbrev behind : ℕ → List Rule → List Near
  behind from rules = near_rules missed (from + 1) rules

  one_among : (from : ℕ) (q : Rule) (rules : List Rule) → get from ≡ Some q → first_near passes (behind from rules) ≡ position_from (λ q. covers (Some q)) (from + 1) rules
      → first_near passes (near_rules missed from (q ∷ rules)) ≡ position_from (λ q. covers (Some q)) from (q ∷ rules)
  one_among from q rules here rest = elim (cases_Bool (covers (Some q))) [
    | inl covered ↦
        let few = few_missed place (missed q) (only q covered) in
        let hit : passes (own from q) ≡ true = λ i. only q covered i && (ap covers here ∙ covered) i in
        ap (first_near passes) (cond-false (is_several (missed q)) (behind from rules) (own from q ∷ behind from rules) few)
        ∙ (cond-true (passes (own from q)) (Some from) (first_near passes (behind from rules)) hit
        ∙ sym (cond-true (covers (Some q)) (Some from) (position_from (λ q. covers (Some q)) (from + 1) rules) covered))
    | inr left_out ↦ unmet left_out (is_several (missed q)) ∙ (rest ∙ sym (cond-false (covers (Some q)) (Some from) (position_from (λ q. covers (Some q)) (from + 1) rules) left_out))
  ]
    where
      unmet : covers (Some q) ≡ false → (b : Bool) → first_near passes (if b then behind from rules else own from q ∷ behind from rules) ≡ first_near passes (behind from rules)
      unmet left_out true = refl
      unmet left_out false =
          let not_met : passes (own from q) ≡ false = (λ i. is_at_most place (missed q) && (ap covers here ∙ left_out) i) ∙ and-false (is_at_most place (missed q)) in
          cond-false (passes (own from q)) (Some from) (first_near passes (behind from rules)) not_met

  first_among : (from : ℕ) (rules : List Rule) → ((i : ℕ) → get (from + i) ≡ slice_get rules i) → first_near passes (near_rules missed from rules) ≡ position_from (λ q. covers (Some q)) from rules
  first_among from [] at = refl
  first_among from (q ∷ rules) at =
      let here : get from ≡ Some q = (let e : from ≡ from + 0 = omega arith in ap get e ∙ at 0) in
      one_among from q rules here (first_among (from + 1) rules (λ i. let e : (from + 1) + i ≡ from + suc i = omega arith in ap get e ∙ at (suc i)))

-- the range of a pattern that is not a `context` item does not depend on the ranges of other places
stated_same : (tables : Tables) (ra rb : List Range) (p : Pat) → hands_on p ≡ false → stated_range tables ra p ≡ stated_range tables rb p
stated_same tables ra rb (pattern.Char c) e = refl
stated_same tables ra rb (pattern.Mark m) e = refl
stated_same tables ra rb (pattern.Any store) e = refl
stated_same tables ra rb (pattern.NotAny store) e = refl
stated_same tables ra rb (pattern.Index store offset) e = refl
stated_same tables ra rb (pattern.ContextAt offset) e = no_case _ e
stated_same tables ra rb (pattern.Equal s v) e = refl
stated_same tables ra rb (pattern.Unequal s v) e = refl
stated_same tables ra rb (pattern.SystemEqual s v) e = refl
stated_same tables ra rb (pattern.SystemUnequal s v) e = refl
stated_same tables ra rb pattern.Nul e = refl

range_same : (tables : Tables) (ra rb : List Range) (given : Option Item) (p : Pat) → hands_on p ≡ false → range_of tables ra given p ≡ range_of tables rb given p
range_same tables ra rb (Some x) p e = refl
range_same tables ra rb None p e = stated_same tables ra rb p e

-- places, counted from a number on, are equal apart from one place and the places of `context` items
abbrev AreAlike : ℕ → ℕ → List Place → List Place → Type 0
AreAlike place from [] [] = Unit {0}
AreAlike place from [] (v ∷ vs) = ⊥
AreAlike place from (u ∷ us) [] = ⊥
AreAlike place from (u ∷ us) (v ∷ vs) = ((u ≡ v) ⊎ ((hands_on u.pattern ≡ true) ⊎ (nat_eq from place ≡ true))) × AreAlike place (from + 1) us vs

one_more : (xs : Narrowing) (i : ℕ) → drop i (drop 1 xs) ≡ drop (suc i) xs
one_more [] zero = refl
one_more [] (suc i) = refl
one_more (x ∷ xs) i = refl

abbrev placed : Pat → Range → Place
placed p found = record { pattern = p; range = found }

module _ (tables : Tables) (place : ℕ) where
  one_alike : (from : ℕ) (ra rb : List Range) (ga gb : Option Item) (p : Pat) → (nat_eq from place ≡ false → ga ≡ gb)
      → (placed p (range_of tables ra ga p) ≡ placed p (range_of tables rb gb p)) ⊎ ((hands_on p ≡ true) ⊎ (nat_eq from place ≡ true))
  one_alike from ra rb ga gb p same = elim (cases_Bool (nat_eq from place)) [
    | inl at ↦ inr (inr at)
    | inr other ↦ elim (cases_Bool (hands_on p)) [
      | inl handed ↦ inr (inl handed)
      | inr stated ↦ inl (ap (placed p) (range_same tables ra rb ga p stated ∙ ap (λ g. range_of tables rb g p) (same other)))
    ]
  ]

  abbrev more_seen : List Range → Option Item → Pat → List Range
  more_seen rs given p = rs ++ range_of tables rs given p ∷ []

  places_alike : (from : ℕ) (a b : Narrowing) → ((i : ℕ) → nat_eq (from + i) place ≡ false → first_given (drop i a) ≡ first_given (drop i b))
      → (ra rb : List Range) (context : List Pat) → AreAlike place from (places_from tables a ra context) (places_from tables b rb context)
  places_alike from a b same ra rb [] = tt
  places_alike from a b same ra rb (p ∷ context) =
      step (is_matched p) (places_alike (from + 1) (drop 1 a) (drop 1 b) further (more_seen ra (first_given a) p) (more_seen rb (first_given b) p) context)
      (places_alike from a b same (ra ++ range.Unknown ∷ []) (rb ++ range.Unknown ∷ []) context)
    where
      first : nat_eq from place ≡ false → first_given a ≡ first_given b
      first other = same 0 (let e : from + 0 ≡ from = omega arith in ap (λ n. nat_eq n place) e ∙ other)

      further : (i : ℕ) → nat_eq ((from + 1) + i) place ≡ false → first_given (drop i (drop 1 a)) ≡ first_given (drop i (drop 1 b))
      further i other =
          let e : from + suc i ≡ (from + 1) + i = omega arith in
          ap first_given (one_more a i) ∙ (same (suc i) (ap (λ n. nat_eq n place) e ∙ other) ∙ sym (ap first_given (one_more b i)))

      step : (matched : Bool) → AreAlike place (from + 1) (places_from tables (drop 1 a) (more_seen ra (first_given a) p) context) (places_from tables (drop 1 b) (more_seen rb (first_given b) p) context)
          → AreAlike place from (places_from tables a (ra ++ range.Unknown ∷ []) context) (places_from tables b (rb ++ range.Unknown ∷ []) context)
          → AreAlike place from
          (if matched then placed p (range_of tables ra (first_given a) p) ∷ places_from tables (drop 1 a) (more_seen ra (first_given a) p) context else places_from tables a (ra ++ range.Unknown ∷ []) context)
          (if matched then placed p (range_of tables rb (first_given b) p) ∷ places_from tables (drop 1 b) (more_seen rb (first_given b) p) context else places_from tables b (rb ++ range.Unknown ∷ []) context)
      step true rest same_rest = (one_alike from ra rb (first_given a) (first_given b) p first, rest)
      step false rest same_rest = same_rest

  length_alike : (from : ℕ) (us vs : List Place) → AreAlike place from us vs → length vs ≡ length us
  length_alike from [] [] h = refl
  length_alike from [] (v ∷ vs) h = absurd h
  length_alike from (u ∷ us) [] h = absurd h
  length_alike from (u ∷ us) (v ∷ vs) h = ap suc (length_alike (from + 1) us vs h.1)

  drop_alike : (d from n : ℕ) → n ≡ from + d → (us vs : List Place) → AreAlike place from us vs → AreAlike place n (drop d us) (drop d vs)
  drop_alike zero from n e us vs h = subst (λ n. AreAlike place n us vs) (let same : from ≡ n = omega (arith, e) in same) h
  drop_alike (suc d) from n e [] [] h = tt
  drop_alike (suc d) from n e [] (v ∷ vs) h = absurd h
  drop_alike (suc d) from n e (u ∷ us) [] h = absurd h
  drop_alike (suc d) from n e (u ∷ us) (v ∷ vs) h = drop_alike d (from + 1) n (omega (arith, e)) us vs h.1

  abbrev more : ℕ → List Pat → List Place → List ℕ
  more from ps us = missed_from tables (from + 1) ps us

  one_place : (from : ℕ) (p : Pat) (ps : List Pat) (u v : Place) (us : List Place) → (u ≡ v) ⊎ ((hands_on u.pattern ≡ true) ⊎ (nat_eq from place ≡ true)) → covers_place tables p v ≡ true
      → (more from ps us ≡ []) ⊎ ((more from ps us ≡ place ∷ []) × (from + 1 ≤ place))
      → (missed_from tables from (p ∷ ps) (u ∷ us) ≡ []) ⊎ ((missed_from tables from (p ∷ ps) (u ∷ us) ≡ place ∷ []) × (from ≤ place))
  one_place from p ps u v us alike covered rest = elim (cases_Bool (hands_on u.pattern || covers_place tables p u)) [
    | inl met ↦
        let same = cond-true (hands_on u.pattern || covers_place tables p u) (more from ps us) (from ∷ more from ps us) met in
        elim rest [
          | inl none ↦ inl (same ∙ none)
          | inr one ↦ inr (same ∙ one.0, let le = one.1 in omega (arith, le))
        ]
    | inr unmet ↦
        let same = cond-false (hands_on u.pattern || covers_place tables p u) (more from ps us) (from ∷ more from ps us) unmet in
        elim alike [
          | inl equal ↦ no_case _ (sym (or_right (hands_on u.pattern) (covers_place tables p u) (ap (covers_place tables p) equal ∙ covered)) ∙ unmet)
          | inr other ↦ elim other [
            | inl handed ↦ no_case _ (sym (ap (λ b. b || covers_place tables p u) handed) ∙ unmet)
            | inr at ↦
                let here : from ≡ place = eqb-true from place at in
                elim rest [
                  | inl none ↦ inr (same ∙ (λ i. here i ∷ none i), omega (arith, here))
                  | inr one ↦ let le = one.1 in absurd (omega (arith, le, here))
                ]
          ]
        ]
  ]

  -- if patterns cover all places once one is narrowed, they missed only that place before
  only_place : (from : ℕ) (ps : List Pat) (us vs : List Place) → AreAlike place from us vs → cover_each tables ps vs ≡ true
      → (missed_from tables from ps us ≡ []) ⊎ ((missed_from tables from ps us ≡ place ∷ []) × (from ≤ place))
  only_place from [] us vs h c = inl refl
  only_place from (p ∷ ps) [] [] h c = inl refl
  only_place from (p ∷ ps) [] (v ∷ vs) h c = absurd h
  only_place from (p ∷ ps) (u ∷ us) [] h c = absurd h
  only_place from (p ∷ ps) (u ∷ us) (v ∷ vs) h c =
      let parts = and_parts (covers_place tables p v) (cover_each tables ps vs) c in
      one_place from p ps u v us h.0 parts.0 (only_place (from + 1) ps us vs h.1 parts.1)

  place_alone : (ms : List ℕ) (from : ℕ) → (ms ≡ []) ⊎ ((ms ≡ place ∷ []) × (from ≤ place)) → is_at_most place (miss_of ms) ≡ true
  place_alone ms from (inl none) = ap (λ ms. is_at_most place (miss_of ms)) none
  place_alone ms from (inr one) = ap (λ ms. is_at_most place (miss_of ms)) one.0 ∙ (let n : nat_eq place place ≡ true = grind (arith, nat_tests) in n)

  near_covered : (using_keys : Bool) (us vs : List Place) (q r : Rule) → AreAlike place 0 us vs → covers_rule tables using_keys vs q r ≡ true → is_at_most place (miss_by tables using_keys us r q) ≡ true
  near_covered using_keys us vs q r h c =
      let ps = patterns_of q.context in
      let first = and_parts (cover_last tables ps vs) _ c in
      let second = and_parts (list_all (is_condition_of tables r.context) q.context) _ first.1 in
      let third = and_parts (keeps_nul q.context r.context) _ second.1 in
      let last = and_parts (nat_le (length ps) (length vs)) _ first.0 in
      let same = length_alike 0 us vs h in
      let fits : nat_le (length ps) (length us) ≡ true = ap (nat_le (length ps)) (sym same) ∙ last.0 in
      let d = length us - length ps in
      let covered : cover_each tables ps (drop d vs) ≡ true = ap (λ n. cover_each tables ps (drop (n - length ps) vs)) (sym same) ∙ last.1 in
      let alone = place_alone (missed_from tables d ps (drop d us)) d (only_place d ps (drop d us) (drop d vs) (drop_alike d 0 d (omega arith) us vs h) covered) in
      ap (is_at_most place) (cond-true (not using_keys || covers_key q.key r.key) (missed_last tables ps us) miss.Several third.1)
      ∙ (ap (is_at_most place) (cond-true (nat_le (length ps) (length us)) (miss_of (missed_from tables d ps (drop d us))) miss.Several fits) ∙ alone)

-- narrowing a place does not change the items of other places
given_same : (xs : Narrowing) (place i : ℕ) (given : Option Item) → nat_eq i place ≡ false → first_given (drop i xs) ≡ first_given (drop i (slice_set xs place given))
given_same [] zero i given e = refl
given_same [] (suc place) i given e = refl
given_same (x ∷ xs) zero zero given e = no_case _ e
given_same (x ∷ xs) zero (suc i) given e = refl
given_same (x ∷ xs) (suc place) zero given e = refl
given_same (x ∷ xs) (suc place) (suc i) given e = given_same xs place i given (grind (arith, nat_tests))

-- the first of the near records that covers under a narrowing is the least record that covers
pub near_tell : (tables : Tables) (group : Group) (number : ℕ) (r : Rule) (place : ℕ) (x : Item) →
    first_near (λ n. is_at_most place n.miss && covers_if_any tables group.using_keys (places_from tables (narrowed nothing_narrowed place x) [] r.context) r (slice_get (take number group.rules) n.rule)) (near_before tables group number r)
    ≡ least_by tables group number r (narrowed nothing_narrowed place x)
near_tell tables group number r place x =
    let alike = places_alike tables place 0 nothing_narrowed (narrowed nothing_narrowed place x) (λ i other. given_same nothing_narrowed place i (Some x) (let e : i ≡ 0 + i = omega arith in ap (λ n. nat_eq n place) e ∙ other)) [] [] r.context in
    first_among (miss_by tables group.using_keys (places_from tables nothing_narrowed [] r.context) r) place
    (covers_if_any tables group.using_keys (places_from tables (narrowed nothing_narrowed place x) [] r.context) r)
    (λ q c. near_covered tables place group.using_keys (places_from tables nothing_narrowed [] r.context) (places_from tables (narrowed nothing_narrowed place x) [] r.context) q r alike c)
    (slice_get (take number group.rules)) 0 (take number group.rules) (λ i. let e : 0 + i ≡ i = omega arith in ap (slice_get (take number group.rules)) e)

-- if a context has no `any`, its record does not split at any place
not_split : (tables : Tables) (given : Option Item) (p : Pat) → is_any p ≡ false → split_items tables given (Some p) ≡ None
not_split tables (Some x) p e = refl
not_split tables None (pattern.Any store) e = no_case _ e
not_split tables None (pattern.Char c) e = refl
not_split tables None (pattern.Mark m) e = refl
not_split tables None (pattern.NotAny store) e = refl
not_split tables None (pattern.Index store offset) e = refl
not_split tables None (pattern.ContextAt offset) e = refl
not_split tables None (pattern.Equal s v) e = refl
not_split tables None (pattern.Unequal s v) e = refl
not_split tables None (pattern.SystemEqual s v) e = refl
not_split tables None (pattern.SystemUnequal s v) e = refl
not_split tables None pattern.Nul e = refl

none_at : (tables : Tables) (given : Option Item) (place : ℕ) (context : List Pat) → list_any is_any context ≡ false → split_items tables given (slice_get (patterns_of context) place) ≡ None
none_at tables None place [] e = refl
none_at tables (Some x) place [] e = refl
none_at tables given place (p ∷ context) e = at (λ k h. none_at tables given k context h) place (is_matched p) (or_parts (is_any p) (list_any is_any context) e)
  where
    at : ((k : ℕ) → list_any is_any context ≡ false → split_items tables given (slice_get (patterns_of context) k) ≡ None)
        → (place : ℕ) (b : Bool) → (is_any p ≡ false) × (list_any is_any context ≡ false) → split_items tables given (slice_get (cond b (p ∷ patterns_of context) (patterns_of context)) place) ≡ None
    at rest place false h = rest place h.1
    at rest zero true h = not_split tables given p h.0
    at rest (suc place) true h = rest place h.1

pub never_split : (tables : Tables) (group : Group) (number : ℕ) (r : Rule) → list_any is_any r.context ≡ false → (place : ℕ) (context : List Pat) → first_split tables group number r place context ≡ finding.NotFound
never_split tables group number r none place [] = refl
never_split tables group number r none place (p ∷ ps) = at (is_matched p) (never_split tables group number r none (place + 1) ps) (never_split tables group number r none place ps)
  where
    no_rules : split_rules tables group number r place ≡ None
    no_rules = ap (option_and_then (λ items. least_onto tables group number r place items [])) (none_at tables (option_flatten (slice_get nothing_narrowed place)) place r.context none)

    at : (b : Bool) → first_split tables group number r (place + 1) ps ≡ finding.NotFound → first_split tables group number r place ps ≡ finding.NotFound
        → (if b then split_or (split_rules tables group number r place) place (first_split tables group number r (place + 1) ps) else first_split tables group number r place ps) ≡ finding.NotFound
    at true further here = ap (λ o. split_or o place (first_split tables group number r (place + 1) ps)) no_rules ∙ further
    at false further here = here
