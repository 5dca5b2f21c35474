-- There are enough free names, and they are distinct.
use Rattle.std.proofs.Common.{◌≡◌, ℕ, zero, suc, ◌+◌, ◌^◌, ◌<◌, ◌≤◌, inl, inr, Bool, true, false, not, ◌||◌, List, [], ◌∷◌, ◌++◌, length, take, drop, map, refl, sym, ◌∙◌, ap, arith, if◌then◌else◌}
use Rattle.std.specs.Prelude.{filter, nat_lt}
use Rattle.std.specs.List.{list_any, range_with_len}
use Rattle.std.specs.Char.{to_ascii_lowercase}
use Rattle.std.specs.Fmt.{decimal}
use Rattle.std.specs.Str.Parse.{AllDigits, digits_value}
use Rattle.std.proofs.lemmas.Bool.{lt-ltb, false_from_ne_true, cond-true}
use Rattle.std.proofs.lemmas.Fmt.{decimal_is_IsNumeral}
use Rattle.std.proofs.lemmas.Str.Parse.{digit_from_value}
use Rattle.std.proofs.lemmas.List.{map-append, length-map}
use Rattle.std.specs.Str.{str_to_ascii_lowercase}
use Rattle.std.proofs.lemmas.Slice.Eq.{bytes_eq-Decides}
use Rattle.std.proofs.lemmas.List.FromFn.{length-range_with_len}
use Rattle.kmn_base.specs.Names.{same_name}
use Rattle.decompile_program.specs.Names.{is_free, numbered_name, free_names}
use Rattle.decompile_program.proofs.Apart.{Has, Differs, AreFree}
use Rattle.kmn_lines.proofs.TextSizes.{clash}

-- no two names of a list are the same
abbrev pub AreDistinct : List (List ℕ) → Type 0
AreDistinct [] = Unit {0}
AreDistinct (x ∷ xs) = Differs x xs × AreDistinct xs

-- if two names are the same as a third, they are the same
same-both : (x y z : List ℕ) → same_name x y ≡ true → same_name z y ≡ true → same_name x z ≡ true
unfolding same_name
same-both x y z e f =
    (bytes_eq-Decides (str_to_ascii_lowercase x) (str_to_ascii_lowercase z)).1
    ((bytes_eq-Decides (str_to_ascii_lowercase x) (str_to_ascii_lowercase y)).0 e ∙ sym ((bytes_eq-Decides (str_to_ascii_lowercase z) (str_to_ascii_lowercase y)).0 f))

others : List ℕ → List (List ℕ) → List (List ℕ)
others y xs = filter (λ x. not (same_name x y)) xs

-- if a name is the same as y, no name that differs from it is the same as y
keeps-all : (x y : List ℕ) (xs : List (List ℕ)) → same_name x y ≡ true → Differs x xs → length (others y xs) ≡ length xs
unfolding others
keeps-all x y [] e d = refl
keeps-all x y (z ∷ xs) e d =
    elim (same_name z y) as (λ b. same_name z y ≡ b → length (if not b then z ∷ others y xs else others y xs) ≡ suc (length xs)) [
      | true ↦ λ f. clash (same_name x z) (same-both x y z e f) d.0
      | false ↦ λ f. let more = keeps-all x y xs e d.1 in omega (arith, more)
    ] refl

loses-one : (y : List ℕ) (xs : List (List ℕ)) → AreDistinct xs → length xs ≤ length (others y xs) + 1
unfolding others
loses-one y [] d = omega arith
loses-one y (x ∷ xs) d =
    elim (same_name x y) as (λ b. same_name x y ≡ b → suc (length xs) ≤ length (if not b then x ∷ others y xs else others y xs) + 1) [
      | true ↦ λ e. let all = keeps-all x y xs e d.0 in omega (arith, all)
      | false ↦ λ e. let more = loses-one y xs d.1 in omega (arith, more)
    ] refl

differs-filter : (p : List ℕ → Bool) (x : List ℕ) (xs : List (List ℕ)) → Differs x xs → Differs x (filter p xs)
differs-filter p x [] d = d
differs-filter p x (y ∷ xs) d = elim (p y) as (λ b. Differs x (if b then y ∷ filter p xs else filter p xs)) [ true ↦ (d.0, differs-filter p x xs d.1) | false ↦ differs-filter p x xs d.1 ]

distinct-filter : (p : List ℕ → Bool) (xs : List (List ℕ)) → AreDistinct xs → AreDistinct (filter p xs)
distinct-filter p [] d = d
distinct-filter p (x ∷ xs) d =
    elim (p x) as (λ b. AreDistinct (if b then x ∷ filter p xs else filter p xs)) [ true ↦ (differs-filter p x xs d.0, distinct-filter p xs d.1) | false ↦ distinct-filter p xs d.1 ]

-- the free names with one more taken name are the free names among the others
free-others : (y : List ℕ) (ys xs : List (List ℕ)) → filter (is_free (y ∷ ys)) xs ≡ filter (is_free ys) (others y xs)
unfolding others
free-others y ys [] = refl
free-others y ys (x ∷ xs) =
    elim (same_name x y) as (λ b. (if not (b || list_any (same_name x) ys) then x ∷ filter (is_free (y ∷ ys)) xs else filter (is_free (y ∷ ys)) xs) ≡ filter (is_free ys) (if not b then x ∷ others y xs else others y xs)) [
      | true ↦ free-others y ys xs
      | false ↦ λ i. if is_free ys x then x ∷ free-others y ys xs i else free-others y ys xs i
    ]

all-free : (xs : List (List ℕ)) → filter (is_free []) xs ≡ xs
all-free [] = refl
all-free (x ∷ xs) = ap (λ (ys : List (List ℕ)). x ∷ ys) (all-free xs)

-- if names are distinct, at most as many of them are taken as there are taken names
pub enough_free : (taken xs : List (List ℕ)) → AreDistinct xs → length xs ≤ length (filter (is_free taken) xs) + length taken
unfolding others
enough_free [] xs d = let e = ap length (all-free xs) in omega (arith, e)
enough_free (y ∷ taken) xs d =
    let one = loses-one y xs d in
    let more = enough_free taken (others y xs) (distinct-filter (λ x. not (same_name x y)) xs d) in
    let same : length (filter (is_free (y ∷ taken)) xs) ≡ length (filter (is_free taken) (others y xs)) = ap length (free-others y taken xs) in
    omega (arith, one, more, same)

-- if numbers differ, their names with the same letter differ
lower-digits : (ds : List ℕ) → AllDigits 10 ds → map to_ascii_lowercase ds ≡ ds
lower-digits [] all = refl
lower-digits (d ∷ ds) all =
    let range = digit_from_value d all.0 in
    (λ i. cond-true (nat_lt d 65) d (if nat_lt d 91 then d + 32 else d) (lt-ltb d 65 (let h = range.1 in omega arith)) i ∷ lower-digits ds all.1 i)

drop-letter : (xs ys : List ℕ) → drop (length xs) (xs ++ ys) ≡ ys
drop-letter [] ys = refl
drop-letter (x ∷ xs) ys = drop-letter xs ys

same-number : (letter : List ℕ) (a b : ℕ) → a < 2 ^ 64 → b < 2 ^ 64 → same_name (numbered_name letter a) (numbered_name letter b) ≡ true → a ≡ b
unfolding same_name
same-number letter a b h k e =
    let da = decimal_is_IsNumeral a h in
    let db = decimal_is_IsNumeral b k in
    let low : List ℕ = map to_ascii_lowercase letter in
    let whole : map to_ascii_lowercase (letter ++ decimal a) ≡ map to_ascii_lowercase (letter ++ decimal b) =
    (bytes_eq-Decides (str_to_ascii_lowercase (numbered_name letter a)) (str_to_ascii_lowercase (numbered_name letter b))).0 e in
    let parts : low ++ decimal a ≡ low ++ decimal b =
    ap (λ (xs : List ℕ). low ++ xs) (sym (lower-digits (decimal a) da.0.1)) ∙ sym (map-append to_ascii_lowercase letter (decimal a))
    ∙ whole ∙ map-append to_ascii_lowercase letter (decimal b) ∙ ap (λ (xs : List ℕ). low ++ xs) (lower-digits (decimal b) db.0.1) in
    let digits : decimal a ≡ decimal b = sym (drop-letter low (decimal a)) ∙ ap (drop (length low)) parts ∙ drop-letter low (decimal b) in
    sym da.1 ∙ ap (digits_value 10) digits ∙ db.1

differs-later : (letter : List ℕ) (a from n : ℕ) → a < from → from + n < 2 ^ 64 → Differs (numbered_name letter a) (map (numbered_name letter) (range_with_len from n))
differs-later letter a from zero less small = tt
differs-later letter a from (suc n) less small = (
  false_from_ne_true (same_name (numbered_name letter a) (numbered_name letter from)) (λ e. let same = same-number letter a from (omega arith) (omega arith) e in omega (arith, same, less)),
  differs-later letter a (from + 1) n (omega arith) (omega arith),
)

pub candidates_distinct : (letter : List ℕ) (from n : ℕ) → from + n < 2 ^ 64 → AreDistinct (map (numbered_name letter) (range_with_len from n))
candidates_distinct letter from zero small = tt
candidates_distinct letter from (suc n) small = (differs-later letter from (from + 1) n (omega arith) (omega arith), candidates_distinct letter (from + 1) n (omega arith))

filled_letter : (c : ℕ) (cs : List ℕ) (n : ℕ) → same_name (numbered_name (c ∷ cs) n) [] ≡ false
unfolding same_name
filled_letter c cs n = refl

numbered-some : (c : ℕ) (cs : List ℕ) (from n : ℕ) (x : List ℕ) → Has x (map (numbered_name (c ∷ cs)) (range_with_len from n)) → same_name x [] ≡ false
numbered-some c cs from zero x h = absurd h
numbered-some c cs from (suc n) x (inl e) = ap (λ k. same_name k []) e ∙ filled_letter c cs from
numbered-some c cs from (suc n) x (inr h) = numbered-some c cs (from + 1) n x h

differs-take : (x : List ℕ) (n : ℕ) (xs : List (List ℕ)) → Differs x xs → Differs x (take n xs)
differs-take x zero xs d = tt
differs-take x (suc n) [] d = tt
differs-take x (suc n) (y ∷ xs) d = (d.0, differs-take x n xs d.1)

passing : (taken xs : List (List ℕ)) → AreDistinct xs → ((x : List ℕ) → Has x xs → same_name x [] ≡ false) → AreFree taken (filter (is_free taken) xs)
passing taken [] d some = tt
passing taken (x ∷ xs) d some =
    elim (is_free taken x) as (λ b. is_free taken x ≡ b → AreFree taken (if b then x ∷ filter (is_free taken) xs else filter (is_free taken) xs)) [
      | true ↦ λ e. (record { free = e; some = some x (inl refl) }, differs-filter (is_free taken) x xs d.0, passing taken xs d.1 (λ y h. some y (inr h)))
      | false ↦ λ e. passing taken xs d.1 (λ y h. some y (inr h))
    ] refl

free-take : (taken : List (List ℕ)) (n : ℕ) (xs : List (List ℕ)) → AreFree taken xs → AreFree taken (take n xs)
free-take taken zero xs f = tt
free-take taken (suc n) [] f = tt
free-take taken (suc n) (x ∷ xs) f = (record { free = f.0.free; some = f.0.some }, differs-take x n xs f.1, free-take taken n xs f.2)

take-length : (n : ℕ) (xs : List (List ℕ)) → n ≤ length xs → length (take n xs) ≡ n
take-length zero xs h = refl
take-length (suc n) [] h = absurd (omega arith)
take-length (suc n) (x ∷ xs) h = ap suc (take-length n xs (omega arith))

-- the names of `free_names` are free and distinct
pub free_names-free : (c : ℕ) (cs : List ℕ) (taken : List (List ℕ)) (count : ℕ) → 1 + (count + length taken) < 2 ^ 64 → AreFree taken (free_names (c ∷ cs) taken count)
unfolding free_names
free_names-free c cs taken count small =
    free-take taken count _
    (passing taken (map (numbered_name (c ∷ cs)) (range_with_len 1 (count + length taken))) (candidates_distinct (c ∷ cs) 1 (count + length taken) small)
    (numbered-some c cs 1 (count + length taken)))

pub free_names-count : (letter : List ℕ) (taken : List (List ℕ)) (count : ℕ) → 1 + (count + length taken) < 2 ^ 64 → length (free_names letter taken count) ≡ count
unfolding free_names
free_names-count letter taken count small =
    let all = map (numbered_name letter) (range_with_len 1 (count + length taken)) in
    let enough = enough_free taken all (candidates_distinct letter 1 (count + length taken) small) in
    let size : length all ≡ count + length taken = length-map (range_with_len 1 (count + length taken)) (numbered_name letter) ∙ length-range_with_len 1 (count + length taken) in
    take-length count (filter (is_free taken) all) (omega (arith, enough, size))
