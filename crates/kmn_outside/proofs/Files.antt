-- What look-ups find after a file is put.
use Rattle.std.proofs.Common.{IsTrue, ◌≡◌, ◌≢◌, ℕ, inl, inr, Bool, true, false, List, [], ◌∷◌, length, Option, Some, None, option_map, sym, ◌∙◌, arith, refl, ap}
use Rattle.std.specs.List.{All, find, position, position_or_len}
use Rattle.std.specs.Str.{bytes_eq}
use Rattle.std.proofs.lemmas.Bool.{cases_lt}
use Rattle.std.proofs.lemmas.Bool.Decides.{nat_tests}
use Rattle.std.proofs.lemmas.List.Elements.{All-nil, All-cons, All-weaker}
use Rattle.std.specs.Prelude.{◌&&◌, is_none}
use Rattle.std.proofs.lemmas.List.Folds.{find-set, find_past, find-append, find_at}
use Rattle.std.proofs.lemmas.List.Sums.{passes_at_first}
use Rattle.std.proofs.lemmas.Option.{slice_get_past}
use Rattle.std.proofs.lemmas.Slice.Eq.{bytes_eq-Decides}
use Rattle.kmn_outside.specs.Memory.{are_distinct, file_of, put_at, put_file}

abbrev File : Type 0
File = List ℕ × List ℕ

-- a file that is put is the first that passes the test
found : (p : File → Bool) (xs : List File) (y : File) → p y ≡ true → find p (put_at xs (position p xs) y) ≡ Some y
found p xs y h =
    elim (cases_lt (position_or_len p xs) (length xs)) [
      | inl lt ↦ grind (arith, nat_tests, find-set p xs (position_or_len p xs) y refl lt h)
      | inr ge ↦ grind (arith, nat_tests, find-append p xs (y ∷ []), find_at p xs, slice_get_past xs (position_or_len p xs) ge)
    ]

-- if neither the new file nor the one that it replaces passes a test, the test finds the same file as before
passed_by : (p q : File → Bool) (xs : List File) (y : File) → q y ≡ false → ((x : File) → p x ≡ true → q x ≡ false) → find q (put_at xs (position p xs) y) ≡ find q xs
passed_by p q xs y h apart =
    elim (cases_lt (position_or_len p xs) (length xs)) [
      | inl lt ↦ grind (arith, nat_tests, find_past q xs (position_or_len p xs) y y (apart _ (passes_at_first p xs y lt)) h)
      | inr ge ↦ grind (arith, nat_tests, find-append q xs (y ∷ []))
    ]

-- different names compare as different
differ : (a b : List ℕ) → a ≢ b → bytes_eq a b ≡ false
differ a b apart = grind (arith, bytes_eq-Decides a b)

-- the file with the name of the file that was put
pub file_of-put : (files : List File) (name bytes : List ℕ) → file_of (put_file files name bytes) name ≡ Some bytes
file_of-put files name bytes = ap (λ file. option_map (λ (f : File). f.1) file) (found (λ file. bytes_eq name file.0) files (name, bytes) ((bytes_eq-Decides name name).1 refl))

-- a file with another name
pub file_of-put_other : (files : List File) (name bytes other : List ℕ) → other ≢ name → file_of (put_file files name bytes) other ≡ file_of files other
file_of-put_other files name bytes other apart =
    let p : File → Bool = λ file. bytes_eq name file.0 in
    let q : File → Bool = λ file. bytes_eq other file.0 in
    ap (λ file. option_map (λ (f : File). f.1) file) (passed_by p q files (name, bytes) (differ other name apart)
    (λ x h. differ other x.0 (λ e. apart (e ∙ sym ((bytes_eq-Decides name x.0).0 h)))))

-- a file is still found after a file of another name is put before it
found_behind : (file : File) (files : List File) (x : File) → file_of files file.0 ≡ None → file_of files x.0 ≡ Some x.1 → file_of (file ∷ files) x.0 ≡ Some x.1
found_behind file files x absent h = grind (arith, bytes_eq-Decides x.0 file.0)

-- a file at the front is found
found_first : (file : File) (files : List File) → file_of (file ∷ files) file.0 ≡ Some file.1
found_first file files = grind (arith, bytes_eq-Decides file.0 file.0)

-- a list of distinct names has a first name that the rest lacks, and the rest is a list of distinct names
distinct_parts : (o : Option (List ℕ)) (b : Bool) → (is_none o && b) ≡ true → (o ≡ None) × (b ≡ true)
distinct_parts None b h = (refl, h)
distinct_parts (Some x) b h = cc

-- if all names are distinct, each file is the file of its name
pub file_of-distinct : (files : List File) → IsTrue (are_distinct files) → All (λ file. file_of files file.0 ≡ Some file.1) files
file_of-distinct [] h = All-nil _
file_of-distinct (file ∷ files) h =
    let parts = distinct_parts (file_of files file.0) (are_distinct files) h in
    let Found : List File → File → Type 0 = λ files x. file_of files x.0 ≡ Some x.1 in
    All-cons (Found (file ∷ files)) file files (found_first file files)
    (All-weaker (Found files) (Found (file ∷ files)) (λ x. found_behind file files x parts.0) files (file_of-distinct files parts.1))
