-- Free names, one by one.
use Rattle.std.proofs.Common.{◌≡◌, ℕ, zero, suc, ◌+◌, ◌-◌, ◌<◌, ◌≤◌, Bool, true, false, if◌then◌else◌, List, [], ◌∷◌, ◌++◌, length, map, filter, take, refl, sym, ap, ◌∙◌, arith, append_assoc, append-nil}
use Rattle.std.specs.List.{range_with_len}
use Rattle.decompile_program.specs.Names.{numbered_name, is_free}
use Rattle.decompile_program.specs.Free.{one_if_free}

-- the free names of a letter and one of `count` numbers from `first` on
abbrev pub free_from : (letter : List ℕ) (taken : List (List ℕ)) (first count : ℕ) → List (List ℕ)
free_from letter taken first count = filter (is_free taken) (map (numbered_name letter) (range_with_len first count))

-- if a name is free, it is appended; otherwise the list is unchanged
pub one_more : (taken free : List (List ℕ)) (name : List ℕ) → is_free taken name ≡ true → free ++ one_if_free taken name ≡ free ++ name ∷ []
one_more taken free name e = rw e refl

pub none_more : (taken free : List (List ℕ)) (name : List ℕ) → is_free taken name ≡ false → free ++ one_if_free taken name ≡ free
none_more taken free name e = rw e (append-nil free)

one_by : (taken : List (List ℕ)) (name : List ℕ) (names : List (List ℕ)) (free : Bool) → is_free taken name ≡ free
    → (if is_free taken name then name ∷ names else names) ≡ one_if_free taken name ++ names
one_by taken name names true e = rw e refl
one_by taken name names false e = rw e refl

-- the free names from a number on are its name, if free, and those after it
pub next_free : (letter : List ℕ) (taken : List (List ℕ)) (before tries : ℕ) → before < tries
    → free_from letter taken (before + 1) (tries - before)
    ≡ one_if_free taken (numbered_name letter (before + 1)) ++ free_from letter taken (before + 1 + 1) (tries - (before + 1))
next_free letter taken before tries within =
    let more : tries - before ≡ suc (tries - (before + 1)) = omega arith in
    ap (free_from letter taken (before + 1)) more
    ∙ one_by taken (numbered_name letter (before + 1)) (free_from letter taken (before + 1 + 1) (tries - (before + 1))) (is_free taken (numbered_name letter (before + 1))) refl

-- testing one more number does not change the whole list of free names
pub next_step : (letter : List ℕ) (taken free others all : List (List ℕ)) (before tries : ℕ) → before < tries
    → others ≡ free ++ one_if_free taken (numbered_name letter (before + 1))
    → free ++ free_from letter taken (before + 1) (tries - before) ≡ all
    → others ++ free_from letter taken (before + 1 + 1) (tries - (before + 1)) ≡ all
next_step letter taken free others all before tries within is h =
    let rest : List (List ℕ) = free_from letter taken (before + 1 + 1) (tries - (before + 1)) in
    ap (λ (names : List (List ℕ)). names ++ rest) is
    ∙ append_assoc free (one_if_free taken (numbered_name letter (before + 1))) rest
    ∙ sym (ap (λ (names : List (List ℕ)). free ++ names) (next_free letter taken before tries within))
    ∙ h

-- if no number is left, no free name is left
pub none_free : (letter : List ℕ) (taken : List (List ℕ)) (before tries : ℕ) → tries ≤ before → free_from letter taken (before + 1) (tries - before) ≡ []
none_free letter taken before tries past =
    let none : tries - before ≡ 0 = omega arith in
    ap (free_from letter taken (before + 1)) none

-- if `count` names are found, the later ones are not needed
pub enough_free : {X : Type 0} (xs ys : List X) (count : ℕ) → length xs ≡ count → take count (xs ++ ys) ≡ xs
enough_free [] ys zero e = refl
enough_free [] ys (suc count) e = absurd (omega arith)
enough_free (x ∷ xs) ys zero e = absurd (omega arith)
enough_free (x ∷ xs) ys (suc count) e =
    let rest : length xs ≡ count = omega arith in
    ap (λ found. x ∷ found) (enough_free xs ys count rest)

pub all_taken : {X : Type 0} (xs : List X) (count : ℕ) → length xs ≤ count → take count (xs ++ []) ≡ xs
all_taken [] zero h = refl
all_taken [] (suc count) h = refl
all_taken (x ∷ xs) zero h = absurd (omega arith)
all_taken (x ∷ xs) (suc count) h =
    let rest : length xs ≤ count = omega arith in
    ap (λ found. x ∷ found) (all_taken xs count rest)
