-- The choice of a group: which of the rules that hold is selected.
use Rattle.std.proofs.Common.{◌≡◌, ℕ, ◌<◌, zero, suc, Bool, true, false, cond, ◌||◌, ◌&&◌, ◌⊎◌, List, [], ◌∷◌, length, take, Option, Some, None, get_or, refl, sym, ◌∙◌, ap, subst, inl, inr, eqb, ltb, arith}
use Rattle.std.specs.Prelude.{◌≢◌, slice_get, IsSome, is_some, IsTrue}
use Rattle.std.specs.List.{All}
use Rattle.std.specs.Cmp.{IsStrictWeakOrder}
use Rattle.std.proofs.lemmas.Bool.{cases_Bool, cases_order, cond-true, cond-false, false≢true}
use Rattle.std.proofs.lemmas.Bool.Decides.{nat_tests}
use Rattle.std.proofs.lemmas.List.Elements.{All-nil, All-cons, All-head, All-tail, All-weaker, All-contains}
use Rattle.std.proofs.lemmas.List.{get_or_default}
use Rattle.std.proofs.lemmas.Option.{none-some, same_Some}
use Rattle.rule_model.specs.declared.event_state.Caught.{Caught}
use Rattle.rule_model.specs.Keyboard.{RuleMeaning}
use Rattle.rule_model.specs.Choose.{Chosen, goes_before, better, best_with, best, first_with, first}
use Rattle.rule_model.specs.StepLaws.{Holding, NoneHolds, IsFirst, IsBest, LinesDiffer, GoesBeforeOthers, FirstIsNone, FirstIsFirst, BestIsNone, BestIsBest, OneIsBest, BestGoesBeforeOthers, NoneBeforeItself, BeforeIsTransitive, OneGoesBefore}

-- the order by the lengths of two contexts, then by their lines
abbrev pub before : ℕ → ℕ → ℕ → ℕ → Bool
before m i n j = ltb n m || (eqb m n && ltb i j)

before_itself : (m i : ℕ) → before m i m i ≡ false
before_itself m i = grind (arith, nat_tests)

before_transitive : (m i n j o k : ℕ) → before m i n j ≡ true → before n j o k ≡ true → before m i o k ≡ true
before_transitive m i n j o k e f = grind (arith, nat_tests)

before_one_way : (m i n j : ℕ) → before m i n j ≡ true → before n j m i ≡ false
before_one_way m i n j e = grind (arith, nat_tests)

before_chain : (m i n j o k : ℕ) → before m i n j ≡ false → before n j o k ≡ false → before m i o k ≡ false
before_chain m i n j o k e f = grind (arith, nat_tests)

before_one : (m i n j : ℕ) → i ≢ j → (before m i n j ≡ true) ⊎ (before n j m i ≡ true)
before_one m i n j h = grind (arith, nat_tests)

pub none_before_itself : NoneBeforeItself
none_before_itself a = before_itself (length a.context) a.line

pub before_is_transitive : BeforeIsTransitive
before_is_transitive a b c = before_transitive (length a.context) a.line (length b.context) b.line (length c.context) c.line

pub one_goes_before : OneGoesBefore
one_goes_before a b = before_one (length a.context) a.line (length b.context) b.line

pub goes_before_is_weak_order : IsStrictWeakOrder goes_before
goes_before_is_weak_order = record {
  one_way = λ a b. before_one_way (length a.context) a.line (length b.context) b.line;
  chain = λ a b c. before_chain (length a.context) a.line (length b.context) b.line (length c.context) c.line;
}

-- ---- the first

cases_option : {X : Type 0} (o : Option X) → (o ≡ None) ⊎ ((x : X) × (o ≡ Some x))
cases_option None = inl refl
cases_option (Some x) = inr (x, refl)

module _ (holds : Holding) where
  first_past : (rule : RuleMeaning) (rules : List RuleMeaning) → holds rule ≡ None → first holds (rule ∷ rules) ≡ first holds rules
  first_past rule rules e = ap (λ o. first_with rule o (first holds rules)) e

  first_here : (rule : RuleMeaning) (rules : List RuleMeaning) (caught : Caught) → holds rule ≡ Some caught → first holds (rule ∷ rules) ≡ Some (rule, caught)
  first_here rule rules caught e = ap (λ o. first_with rule o (first holds rules)) e

  none_holds_from_first : (rules : List RuleMeaning) → first holds rules ≡ None → NoneHolds holds rules
  none_holds_from_first [] e = All-nil (λ rule. holds rule ≡ None)
  none_holds_from_first (rule ∷ rules) e = elim (cases_option (holds rule)) [
    | inl none ↦ All-cons (λ rule. holds rule ≡ None) rule rules none (none_holds_from_first rules (sym (first_past rule rules none) ∙ e))
    | inr held ↦ let here : first holds (rule ∷ rules) ≡ Some (rule, held.0) = first_here rule rules held.0 held.1 in absurd (cc)
  ]

  first_from_none_holds : (rules : List RuleMeaning) → NoneHolds holds rules → first holds rules ≡ None
  first_from_none_holds [] h = refl
  first_from_none_holds (rule ∷ rules) h =
      first_past rule rules (All-head (λ rule. holds rule ≡ None) rule rules h)
      ∙ first_from_none_holds rules (All-tail (λ rule. holds rule ≡ None) rule rules h)

  is_first_from_first : (rules : List RuleMeaning) (chosen : Chosen) → first holds rules ≡ Some chosen → IsFirst holds rules chosen
  is_first_from_first [] chosen e = absurd (cc)
  is_first_from_first (rule ∷ rules) chosen e = elim (cases_option (holds rule)) [
    | inl none ↦
        let rest : IsFirst holds rules chosen = is_first_from_first rules chosen (sym (first_past rule rules none) ∙ e) in
        record {
          place = suc rest.place;
          listed = rest.listed;
          held = rest.held;
          none_before = All-cons (λ rule. holds rule ≡ None) rule (take rest.place rules) none rest.none_before;
        }
    | inr held ↦
        let here : first holds (rule ∷ rules) ≡ Some (rule, held.0) = first_here rule rules held.0 held.1 in
        let same : ◌≡◌ {A = Chosen} (rule, held.0) chosen = cc in
        subst (λ (c : Chosen). IsFirst holds (rule ∷ rules) c) same
        (record { place = 0; listed = refl; held = held.1; none_before = All-nil (λ rule. holds rule ≡ None) })
  ]

  first_from_place : (rules : List RuleMeaning) (chosen : Chosen) (place : ℕ) → slice_get rules place ≡ Some chosen.0 → holds chosen.0 ≡ Some chosen.1
      → NoneHolds holds (take place rules) → first holds rules ≡ Some chosen
  first_from_place [] chosen place listed held none = absurd (cc)
  first_from_place (rule ∷ rules) chosen zero listed held none =
      let same : rule ≡ chosen.0 = cc in
      first_here rule rules chosen.1 (ap holds same ∙ held) ∙ ap (λ (r : RuleMeaning). Some (r, chosen.1)) same
  first_from_place (rule ∷ rules) chosen (suc place) listed held none =
      first_past rule rules (All-head (λ rule. holds rule ≡ None) rule (take place rules) none)
      ∙ first_from_place rules chosen place listed held (All-tail (λ rule. holds rule ≡ None) rule (take place rules) none)

pub first_is_none : FirstIsNone
first_is_none holds rules = (none_holds_from_first holds rules, first_from_none_holds holds rules)

pub first_is_first : FirstIsFirst
first_is_first holds rules chosen =
    (is_first_from_first holds rules chosen, λ h. first_from_place holds rules chosen h.place h.listed h.held h.none_before)

-- ---- the best

-- a rule that holds does not precede another
abbrev NotBefore : Holding → RuleMeaning → RuleMeaning → Type 0
NotBefore holds chosen rule = IsSome (holds rule) → goes_before rule chosen ≡ false

module _ (holds : Holding) where
  best_past : (rule : RuleMeaning) (rules : List RuleMeaning) → holds rule ≡ None → best holds (rule ∷ rules) ≡ best holds rules
  best_past rule rules e = ap (λ o. best_with rule o (best holds rules)) e

  best_alone : (rule : RuleMeaning) (rules : List RuleMeaning) (caught : Caught) → holds rule ≡ Some caught → best holds rules ≡ None
      → best holds (rule ∷ rules) ≡ Some (rule, caught)
  best_alone rule rules caught e none = ap (λ o. best_with rule o (best holds rules)) e ∙ ap (better (rule, caught)) none

  best_of_two : (rule : RuleMeaning) (rules : List RuleMeaning) (caught : Caught) (other : Chosen) → holds rule ≡ Some caught → best holds rules ≡ Some other
      → best holds (rule ∷ rules) ≡ cond (goes_before other.0 rule) (Some other) (Some (rule, caught))
  best_of_two rule rules caught other e some = ap (λ o. best_with rule o (best holds rules)) e ∙ ap (better (rule, caught)) some

  none_holds_from_best : (rules : List RuleMeaning) → best holds rules ≡ None → NoneHolds holds rules
  none_holds_from_best [] e = All-nil (λ rule. holds rule ≡ None)
  none_holds_from_best (rule ∷ rules) e = elim (cases_option (holds rule)) [
    | inl none ↦ All-cons (λ rule. holds rule ≡ None) rule rules none (none_holds_from_best rules (sym (best_past rule rules none) ∙ e))
    | inr held ↦ elim (cases_option (best holds rules)) [
      | inl alone ↦ let here = best_alone rule rules held.0 held.1 alone in absurd (cc)
      | inr other ↦ elim (cases_Bool (goes_before other.0.0 rule)) [
        | inl before ↦ let here = best_of_two rule rules held.0 other.0 held.1 other.1 ∙ cond-true (goes_before other.0.0 rule) _ _ before in absurd (cc)
        | inr behind ↦ let here = best_of_two rule rules held.0 other.0 held.1 other.1 ∙ cond-false (goes_before other.0.0 rule) _ _ behind in absurd (cc)
      ]
    ]
  ]

  best_from_none_holds : (rules : List RuleMeaning) → NoneHolds holds rules → best holds rules ≡ None
  best_from_none_holds [] h = refl
  best_from_none_holds (rule ∷ rules) h =
      best_past rule rules (All-head (λ rule. holds rule ≡ None) rule rules h)
      ∙ best_from_none_holds rules (All-tail (λ rule. holds rule ≡ None) rule rules h)

  -- a rule that does not hold precedes no rule
  none_not_before : (chosen rule : RuleMeaning) → holds rule ≡ None → NotBefore holds chosen rule
  none_not_before chosen rule none some = absurd (cc (ap is_some none))

  is_best_past : (rule : RuleMeaning) (rules : List RuleMeaning) (chosen : Chosen) → NotBefore holds chosen.0 rule → IsBest holds rules chosen → IsBest holds (rule ∷ rules) chosen
  is_best_past rule rules chosen h best_of_rest = record {
    listed = (suc best_of_rest.listed.0, (let within : best_of_rest.listed.0 < length rules = best_of_rest.listed.1 in omega arith), best_of_rest.listed.2);
    held = best_of_rest.held;
    none_better = All-cons (NotBefore holds chosen.0) rule rules h best_of_rest.none_better;
  }

  is_best_here : (rule : RuleMeaning) (rules : List RuleMeaning) (caught : Caught) → holds rule ≡ Some caught → All (NotBefore holds rule) rules → IsBest holds (rule ∷ rules) (rule, caught)
  is_best_here rule rules caught held h = record {
    listed = (0, omega arith, refl);
    held = held;
    none_better = All-cons (NotBefore holds rule) rule rules (λ _. none_before_itself rule) h;
  }

  is_best_from_best : (rules : List RuleMeaning) (chosen : Chosen) → best holds rules ≡ Some chosen → IsBest holds rules chosen
  is_best_from_best [] chosen e = absurd (cc)
  is_best_from_best (rule ∷ rules) chosen e = elim (cases_option (holds rule)) [
    | inl none ↦ is_best_past rule rules chosen (none_not_before chosen.0 rule none) (is_best_from_best rules chosen (sym (best_past rule rules none) ∙ e))
    | inr held ↦ elim (cases_option (best holds rules)) [
      | inl alone ↦
          let here = best_alone rule rules held.0 held.1 alone in
          let same : ◌≡◌ {A = Chosen} (rule, held.0) chosen = cc in
          subst (λ (c : Chosen). IsBest holds (rule ∷ rules) c) same
          (is_best_here rule rules held.0 held.1 (All-weaker (λ rule. holds rule ≡ None) (NotBefore holds rule) (none_not_before rule) rules (none_holds_from_best rules alone)))
      | inr other ↦
          let rest : IsBest holds rules other.0 = is_best_from_best rules other.0 other.1 in
          elim (cases_Bool (goes_before other.0.0 rule)) [
            | inl before ↦
                let here = best_of_two rule rules held.0 other.0 held.1 other.1 ∙ cond-true (goes_before other.0.0 rule) _ _ before in
                let same : other.0 ≡ chosen = cc in
                subst (λ (c : Chosen). IsBest holds (rule ∷ rules) c) same
                (is_best_past rule rules other.0 (λ _. goes_before_is_weak_order.one_way other.0.0 rule before) rest)
            | inr behind ↦
                let here = best_of_two rule rules held.0 other.0 held.1 other.1 ∙ cond-false (goes_before other.0.0 rule) _ _ behind in
                let same : ◌≡◌ {A = Chosen} (rule, held.0) chosen = cc in
                subst (λ (c : Chosen). IsBest holds (rule ∷ rules) c) same
                (is_best_here rule rules held.0 held.1
                (All-weaker (NotBefore holds other.0.0) (NotBefore holds rule)
                (λ r not_before some. goes_before_is_weak_order.chain r other.0.0 rule (not_before some) behind) rules rest.none_better))
          ]
    ]
  ]

  -- if lines differ, the best rule precedes each other rule that holds
  before_others : (rules : List RuleMeaning) (chosen : Chosen) → LinesDiffer rules → IsBest holds rules chosen → GoesBeforeOthers holds rules chosen
  before_others rules chosen differ h k d within some =
      let place : ℕ = h.listed.0 in
      let there : get_or rules place d ≡ chosen.0 = get_or_default rules place d chosen.0 h.listed.1 ∙ h.listed.2 in
      elim (cases_order k place) [
        | inl here ↦ inl (ap (λ (n : ℕ). get_or rules n d) here ∙ there)
        | inr apart ↦
            let lines : chosen.0.line ≢ (get_or rules k d).line = elim apart [
              | inl sooner ↦ λ e. differ k place d sooner h.listed.1 (sym e ∙ sym (ap (λ (r : RuleMeaning). r.line) there))
              | inr later ↦ λ e. differ place k d later within (ap (λ (r : RuleMeaning). r.line) there ∙ e)
            ] in
            elim (one_goes_before chosen.0 (get_or rules k d) lines) [
              | inl before ↦ inr before
              | inr behind ↦ absurd (false≢true (sym (h.none_better k d within some) ∙ behind))
            ]
      ]

  same_chosen : (a b : Chosen) → a.0 ≡ b.0 → a.1 ≡ b.1 → a ≡ b
  same_chosen a b rule caught = λ i. (rule i, caught i)

  best_from_is_best : (rules : List RuleMeaning) (chosen : Chosen) → LinesDiffer rules → IsBest holds rules chosen → best holds rules ≡ Some chosen
  best_from_is_best rules chosen differ h = elim (cases_option (best holds rules)) [
    | inl none ↦
        let not_held : holds chosen.0 ≡ None = All-contains (λ rule. holds rule ≡ None) rules chosen.0 (none_holds_from_best rules none) h.listed in
        absurd (none-some chosen.1 (sym not_held ∙ h.held))
    | inr found ↦
        let other : Chosen = found.0 in
        let is_best : IsBest holds rules other = is_best_from_best rules other found.1 in
        let others : GoesBeforeOthers holds rules other = before_others rules other differ is_best in
        elim (All-contains (λ rule. IsSome (holds rule) → (rule ≡ other.0) ⊎ IsTrue (goes_before other.0 rule)) rules chosen.0 others h.listed (ap is_some h.held)) [
          | inl same ↦ found.1 ∙ ap Some (same_chosen other chosen (sym same) (same_Some _ _ (sym is_best.held ∙ ap holds (sym same) ∙ h.held)))
          | inr before ↦
              let not_before : goes_before other.0 chosen.0 ≡ false = All-contains (NotBefore holds chosen.0) rules other.0 h.none_better is_best.listed (ap is_some is_best.held) in
              absurd (false≢true (sym not_before ∙ before))
        ]
  ]

pub best_is_none : BestIsNone
best_is_none holds rules = (none_holds_from_best holds rules, best_from_none_holds holds rules)

pub best_is_best : BestIsBest
best_is_best = is_best_from_best

pub one_is_best : OneIsBest
one_is_best = best_from_is_best

pub best_goes_before_others : BestGoesBeforeOthers
best_goes_before_others holds rules chosen differ e = before_others holds rules chosen differ (is_best_from_best holds rules chosen e)
