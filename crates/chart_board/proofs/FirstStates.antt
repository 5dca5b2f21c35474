-- The first state in which a key fits, and the number of states.
use Rattle.std.proofs.Common.{◌≡◌, ℕ, Bool, false, nat_eq, List, [], ◌∷◌, ◌++◌, find, length, length-append, filter, not, ◌≤◌, Some, None, refl, arith}
use Rattle.std.specs.Option.{option_map_or}
use Rattle.std.proofs.lemmas.List.Filters.{length-filter_both}
use Rattle.kmn_base.specs.declared.keys.RuleKey.{RuleKey}
use Rattle.rule_model.specs.declared.tables.Tables.{Tables}
use Rattle.chart_board.specs.States.{fixed_states, other_states, fits_in, is_asked_for, chart_states}

-- the first item of two lists that passes a test is the first of the first list, or if there is none the first of the second list
pub first_of_first : {X : Type 0} (test : X → Bool) (xs ys : List X) (x : X) → find test xs ≡ Some x → find test (xs ++ ys) ≡ Some x
first_of_first test [] ys x found = grind arith
first_of_first test (y ∷ xs) ys x found = grind (arith, first_of_first test xs ys x)

pub first_of_second : {X : Type 0} (test : X → Bool) (xs ys : List X) → find test xs ≡ None → find test (xs ++ ys) ≡ find test ys
first_of_second test [] ys none = grind arith
first_of_second test (y ∷ xs) ys none = grind (arith, first_of_second test xs ys)

-- the first state in which a key fits is one in which it fits
pub first_fits : (key : RuleKey) (states : List ℕ) (mods : ℕ) → fits_in key mods ≡ false → option_map_or (nat_eq mods) (find (fits_in key) states) false ≡ false
first_fits key [] mods unfit = grind arith
first_fits key (state ∷ states) mods unfit = grind (arith, first_fits key states mods)

-- a chart has at most 64 states
pub few_states : (tables : Tables) → length (chart_states tables) ≤ 64
unfolding chart_states fixed_states other_states
few_states tables =
    let both = length-append fixed_states (filter (is_asked_for tables) other_states) in
    let others = length-filter_both (is_asked_for tables) (λ mods. not (is_asked_for tables mods)) (λ mods. refl) other_states in
    omega (arith, both, others)
