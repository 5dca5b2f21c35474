-- The record that is taken in a group is the first one that holds and is taken.
use Rattle.std.specs.Prelude.{◌≡◌, ℕ, suc, Bool, true, false, ◌||◌, if◌then◌else◌, List, [], ◌∷◌, unwrap_or, Option, Some, None}
use Rattle.std.specs.List.{list_any}
use Rattle.std.proofs.Common.{refl, ap, sym}
use Rattle.std.proofs.Math.Path.{subst}
use Rattle.std.proofs.lemmas.Option.{none-some}
use Rattle.rule_model.specs.declared.tables.Rule.{Rule}
use Rattle.core_meaning.specs.Contexts.{Tried, take_with, core_choose}
use Rattle.core_meaning.specs.ContextLaws.{is_possible, IsFirstTaken, FirstIsTaken}

same_of_some : (a b : Rule) → Some a ≡ Some b → a ≡ b
same_of_some a b e = ap (λ (o : Option Rule). unwrap_or o a) e

-- of the first record and the others, by whether the first is taken
first_of : (holds : Rule → Tried) (takes : Rule → Bool) (first rule : Rule) (rules : List Rule) (places : List ℕ) (test : Bool) → is_possible holds takes first ≡ test
    → ((elsewhere : (core_choose holds takes rules places).0 ≡ Some rule) → IsFirstTaken holds takes rules rule)
    → ((if test then take_with first else core_choose holds takes rules) places).0 ≡ Some rule → IsFirstTaken holds takes (first ∷ rules) rule
first_of holds takes first rule rules places true told others e =
    record {
      place = 0;
      listed = e;
      possible = subst (λ (r : Rule). is_possible holds takes r ≡ true) (same_of_some first rule e) told;
      none_before = refl;
    }
first_of holds takes first rule rules places false told others e =
    let found = others e in
    record {
      place = suc found.place;
      listed = found.listed;
      possible = found.possible;
      none_before = λ i. told i || found.none_before i;
    }

none_of : (holds : Rule → Tried) (takes : Rule → Bool) (first : Rule) (rules : List Rule) (places : List ℕ) (test : Bool) → is_possible holds takes first ≡ test
    → ((core_choose holds takes rules places).0 ≡ None → list_any (is_possible holds takes) rules ≡ false)
    → ((if test then take_with first else core_choose holds takes rules) places).0 ≡ None → list_any (is_possible holds takes) (first ∷ rules) ≡ false
none_of holds takes first rules places true told others e = absurd (none-some first (sym e))
none_of holds takes first rules places false told others e = λ i. told i || others e i

pub first_is_taken : FirstIsTaken
first_is_taken holds takes [] places = record { first = λ rule e. absurd (none-some rule e); none = λ e. refl }
first_is_taken holds takes (rule ∷ rules) places =
    record {
      first = λ taken. first_of holds takes rule taken rules (holds rule).1 (is_possible holds takes rule) refl ((first_is_taken holds takes rules (holds rule).1).first taken);
      none = none_of holds takes rule rules (holds rule).1 (is_possible holds takes rule) refl ((first_is_taken holds takes rules (holds rule).1).none);
    }
