-- The steps of reading a text in UTF-16.
use Rattle.std.proofs.Common.{◌≡◌, ℕ, ◌^◌, ◌<◌, ◌≤◌, Bool, true, false, List, [], ◌∷◌, ◌++◌, length, get_or, drop, Option, None, Some, refl, sym, ◌∙◌, ap, arith, append_assoc, append-nil, if◌then◌else◌}
use Rattle.std.specs.Prelude.{option_map, nat_le, nat_lt}
use Rattle.std.specs.Char.{IsScalar}
use Rattle.std.proofs.lemmas.Bool.{and_parts}
use Rattle.std.proofs.lemmas.Bool.Decides.{nat_tests}
use Rattle.kmn_import.specs.Utf16.{unit, units, is_high, is_low, paired, unit_characters}
use Rattle.kmn_import.specs.Units.{first_character, unit_count}

-- numbers before others, if there are others
abbrev pub after : List ℕ → Option (List ℕ) → Option (List ℕ)
after before more = option_map (λ (xs : List ℕ). before ++ xs) more

after_one : (before : List ℕ) (x : ℕ) (more : Option (List ℕ)) → after (before ++ x ∷ []) more ≡ after before (option_map (λ (xs : List ℕ). x ∷ xs) more)
after_one before x None = refl
after_one before x (Some more) = ap Some (append_assoc before (x ∷ []) more)

pub after_nothing : (more : Option (List ℕ)) → after [] more ≡ more
after_nothing None = refl
after_nothing (Some more) = refl

-- a unit
pub unit_step : (big : Bool) (old new rest next : List ℕ) (u : ℕ) (all : Option (List ℕ)) → 2 ≤ length rest → u ≡ unit big (get_or rest 0 0) (get_or rest 1 0)
    → new ≡ old ++ u ∷ [] → next ≡ drop 2 rest → after old (units big rest) ≡ all → after new (units big next) ≡ all
unit_step big old new [] next u all two is e behind so_far = absurd (omega arith)
unit_step big old new (a ∷ []) next u all two is e behind so_far = absurd (omega arith)
unit_step big old new (a ∷ b ∷ bytes) next u all two is e behind so_far =
    ap (λ (xs : List ℕ). after xs (units big next)) e
    ∙ ap (λ (xs : List ℕ). after (old ++ u ∷ []) (units big xs)) behind
    ∙ after_one old u (units big bytes)
    ∙ ap (λ (x : ℕ). after old (option_map (λ (xs : List ℕ). x ∷ xs) (units big bytes))) is
    ∙ so_far

-- no byte is left
pub units_done : (big : Bool) (old rest : List ℕ) (all : Option (List ℕ)) → length rest ≡ 0 → after old (units big rest) ≡ all → Some old ≡ all
units_done big old [] all none so_far = sym (ap Some (append-nil old)) ∙ so_far
units_done big old (a ∷ rest) all none so_far = absurd (omega arith)

-- one byte is left
pub units_broken : (big : Bool) (old rest : List ℕ) (all : Option (List ℕ)) → 0 < length rest → length rest < 2 → after old (units big rest) ≡ all → None ≡ all
units_broken big old [] all some few so_far = absurd (omega arith)
units_broken big old (a ∷ []) all some few so_far = so_far
units_broken big old (a ∷ b ∷ rest) all some few so_far = absurd (omega arith)

-- the units of a character
units_of : (rest : List ℕ) → 0 < length rest
    → unit_characters None rest ≡ (elim (first_character rest) [ None ↦ None | Some c ↦ option_map (λ (xs : List ℕ). c ∷ xs) (unit_characters None (drop (unit_count (get_or rest 0 0)) rest)) ])
units_of [] some = absurd (omega arith)
units_of (u ∷ []) some = by (is_high u) (is_low u)
  where
    by : (high low : Bool)
        → (if high then None else if low then None else Some (u ∷ []))
        ≡ (elim (if high then None else if low then None else Some u) as (λ o. Option (List ℕ)) [ None ↦ None | Some c ↦ option_map (λ (xs : List ℕ). c ∷ xs) (unit_characters None (drop (if high then 2 else 1) (u ∷ []))) ])
    by true low = refl
    by false true = refl
    by false false = refl
units_of (u ∷ v ∷ us) some = by (is_high u) (is_low u) (is_low v)
  where
    by : (high low pair : Bool)
        → (if high then (if pair then option_map (λ (xs : List ℕ). paired u v ∷ xs) (unit_characters None us) else None) else if low then None else option_map (λ (xs : List ℕ). u ∷ xs) (unit_characters None (v ∷ us)))
        ≡ (elim (if high then (if pair then Some (paired u v) else None) else if low then None else Some u) as (λ o. Option (List ℕ)) [ None ↦ None | Some c ↦ option_map (λ (xs : List ℕ). c ∷ xs) (unit_characters None (drop (if high then 2 else 1) (u ∷ v ∷ us))) ])
    by true low true = refl
    by true low false = refl
    by false true pair = refl
    by false false pair = refl

-- a character
pub character_step : (old new rest next : List ℕ) (c : ℕ) (all : Option (List ℕ)) → 0 < length rest → Some c ≡ first_character rest → new ≡ old ++ c ∷ []
    → next ≡ drop (unit_count (get_or rest 0 0)) rest → after old (unit_characters None rest) ≡ all → after new (unit_characters None next) ≡ all
character_step old new rest next c all some first e behind so_far =
    let more : Option (List ℕ) = unit_characters None (drop (unit_count (get_or rest 0 0)) rest) in
    ap (λ (xs : List ℕ). after xs (unit_characters None next)) e
    ∙ ap (λ (xs : List ℕ). after (old ++ c ∷ []) (unit_characters None xs)) behind
    ∙ after_one old c more
    ∙ ap (λ (o : Option ℕ). after old (elim o as (λ o. Option (List ℕ)) [ None ↦ None | Some x ↦ option_map (λ (xs : List ℕ). x ∷ xs) more ])) first
    ∙ ap (after old) (sym (units_of rest some))
    ∙ so_far

-- half of a pair
pub character_broken : (old rest : List ℕ) (all : Option (List ℕ)) → 0 < length rest → None ≡ first_character rest → after old (unit_characters None rest) ≡ all → None ≡ all
character_broken old rest all some first so_far =
    let more : Option (List ℕ) = unit_characters None (drop (unit_count (get_or rest 0 0)) rest) in
    ap (λ (o : Option ℕ). after old (elim o as (λ o. Option (List ℕ)) [ None ↦ None | Some x ↦ option_map (λ (xs : List ℕ). x ∷ xs) more ])) first
    ∙ ap (after old) (sym (units_of rest some))
    ∙ so_far

-- no unit is left
pub characters_done : (old rest : List ℕ) (all : Option (List ℕ)) → length rest < 1 → after old (unit_characters None rest) ≡ all → Some old ≡ all
characters_done old [] all none so_far = sym (ap Some (append-nil old)) ∙ so_far
characters_done old (u ∷ us) all none so_far = absurd (omega arith)

-- a unit that is not of a pair is a character
pub unit_is_scalar : (u : ℕ) → u < 2 ^ 16 → is_high u ≡ false → is_low u ≡ false → IsScalar u
unit_is_scalar u small high low = grind (arith, nat_tests)

-- and so is a pair
pub pair_is_scalar : (high low : ℕ) → is_high high ≡ true → is_low low ≡ true → IsScalar (paired high low)
pair_is_scalar high low first second =
    let a = and_parts (nat_le 0xD800 high) (nat_lt high 0xDC00) first in
    let b = and_parts (nat_le 0xDC00 low) (nat_lt low 0xE000) second in
    let from = a.0 in let to = a.1 in let low_from = b.0 in let low_to = b.1 in
    grind (arith, nat_tests)
