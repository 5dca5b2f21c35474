-- The number of stores before the stores of a file.
use Rattle.std.proofs.Common.{◌≡◌, ℕ, zero, suc, true, false, nat_eq, nat_lt, if◌then◌else◌, List, [], ◌∷◌, length, refl, arith}
use Rattle.std.proofs.lemmas.Bool.Decides.{nat_tests}
use Rattle.decompile_program.specs.Back.{mark_store, key_store}

some : (n : ℕ) → nat_lt 0 (suc n) ≡ true
some n = grind (arith, nat_tests)

not_none : (n : ℕ) → nat_eq (suc n) 0 ≡ false
not_none n = grind (arith, nat_tests)

pub mark_count : (name : List ℕ) (count : ℕ) → length (mark_store name count) ≡ (if nat_lt 0 count then 1 else 0)
mark_count name zero = refl
mark_count name (suc count) = rw (not_none count) (rw (some count) refl)

pub key_count : (name : List ℕ) (keys : List (List ℕ)) → length (key_store name keys) ≡ (if nat_lt 0 (length keys) then 1 else 0)
key_count name [] = refl
key_count name (key ∷ keys) = rw (some (length keys)) refl
