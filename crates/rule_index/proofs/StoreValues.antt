-- Two stores have the same number exactly where they have the same elements.
use Rattle.std.proofs.Common.{◌≡◌, ℕ, zero, suc, ◌+◌, ◌*◌, ◌<◌, ◌≤◌, ◌&&◌, Bool, true, false, eqb, List, [], ◌∷◌, ◌++◌, length, map, slice_index, slice_index_or, Option, Some, refl, sym, ◌∙◌, ap, inl, inr, arith}
use Rattle.std.specs.Prelude.{bytes_eq, unwrap_or}
use Rattle.std.proofs.lemmas.Bool.{cases_Bool, eqb-true, eq-eqb}
use Rattle.std.proofs.lemmas.Bool.Decides.{nat_tests}
use Rattle.std.proofs.lemmas.List.{length-map}
use Rattle.std.proofs.lemmas.Option.{slice_get_cases, get_or_from_slice_get}
use Rattle.std.proofs.lemmas.Slice.Eq.{bytes_eq-Decides}
use Rattle.kmn_base.specs.declared.items.Element.{Element}
use Rattle.kmn_base.specs.declared.items.Element.TheVariants as element
use Rattle.rule_model.specs.Match.{same_element, same_value}
use Rattle.rule_model.specs.Content.{elements_at}
use Rattle.rule_model.specs.Keyboard.{StoreMeaning, stated}
use Rattle.rule_index.specs.Values.{element_code, value_code, number_for, AreNumbersOf}

-- no code is the beginning of another code, so codes are the same exactly where the elements are
longer : (e : Element) (code : List ℕ) → false ≡ bytes_eq [] (element_code e ++ code)
longer (element.Char c) code = refl
longer (element.Mark m) code = refl
longer (element.Key flags key) code = refl

shorter : (e : Element) (code : List ℕ) → false ≡ bytes_eq (element_code e ++ code) []
shorter (element.Char c) code = refl
shorter (element.Mark m) code = refl
shorter (element.Key flags key) code = refl

nested : (a b c : Bool) → ((a && b) && c) ≡ (a && (b && c))
nested true b c = refl
nested false b c = refl

same_first : (a b : Element) (code other : List ℕ) → (same_element a b && bytes_eq code other) ≡ bytes_eq (element_code a ++ code) (element_code b ++ other)
same_first (element.Char c) (element.Char d) code other = let h : eqb c d ≡ eqb (3 * c) (3 * d) = grind (arith, nat_tests) in λ i. h i && bytes_eq code other
same_first (element.Char c) (element.Mark n) code other = let h : false ≡ eqb (3 * c) (1 + 3 * n) = grind (arith, nat_tests) in λ i. h i && bytes_eq code other
same_first (element.Char c) (element.Key g l) code other = let h : false ≡ eqb (3 * c) (2 + 3 * g) = grind (arith, nat_tests) in λ i. h i && bytes_eq code (l ∷ other)
same_first (element.Mark m) (element.Char d) code other = let h : false ≡ eqb (1 + 3 * m) (3 * d) = grind (arith, nat_tests) in λ i. h i && bytes_eq code other
same_first (element.Mark m) (element.Mark n) code other = let h : eqb m n ≡ eqb (1 + 3 * m) (1 + 3 * n) = grind (arith, nat_tests) in λ i. h i && bytes_eq code other
same_first (element.Mark m) (element.Key g l) code other = let h : false ≡ eqb (1 + 3 * m) (2 + 3 * g) = grind (arith, nat_tests) in λ i. h i && bytes_eq code (l ∷ other)
same_first (element.Key f k) (element.Char d) code other = let h : false ≡ eqb (2 + 3 * f) (3 * d) = grind (arith, nat_tests) in λ i. h i && bytes_eq (k ∷ code) other
same_first (element.Key f k) (element.Mark n) code other = let h : false ≡ eqb (2 + 3 * f) (1 + 3 * n) = grind (arith, nat_tests) in λ i. h i && bytes_eq (k ∷ code) other
same_first (element.Key f k) (element.Key g l) code other =
    let h : eqb f g ≡ eqb (2 + 3 * f) (2 + 3 * g) = grind (arith, nat_tests) in
    nested (eqb f g) (eqb k l) (bytes_eq code other) ∙ (λ i. h i && (eqb k l && bytes_eq code other))

same_codes : (xs ys : List Element) → same_value xs ys ≡ bytes_eq (value_code xs) (value_code ys)
same_codes [] [] = refl
same_codes [] (b ∷ others) = longer b (value_code others)
same_codes (a ∷ rest) [] = shorter a (value_code rest)
same_codes (a ∷ rest) (b ∷ others) =
    (λ i. same_element a b && same_codes rest others i) ∙ same_first a b (value_code rest) (value_code others)

-- the code of no elements, followed by the code of each store's elements
abbrev codes_of : List StoreMeaning → List (List ℕ)
codes_of stores = map value_code ([] ∷ stated stores)

code_at : (stores : List StoreMeaning) (n : ℕ) → slice_index_or (codes_of stores) (suc n) [] ≡ value_code (elements_at stores (Some n))
code_at [] zero = refl
code_at [] (suc n) = refl
code_at (store ∷ stores) zero = refl
code_at (store ∷ stores) (suc n) = code_at stores n

-- if a number is at least the count of the stores, no store has it
pub absent : (stores : List StoreMeaning) (n : ℕ) → length stores ≤ n → elements_at stores (Some n) ≡ []
absent [] zero past = refl
absent [] (suc n) past = refl
absent (store ∷ stores) zero past = absurd (omega arith)
absent (store ∷ stores) (suc n) past = absent stores n (omega arith)

count_of : (stores : List StoreMeaning) → length (codes_of stores) ≡ suc (length stores)
count_of stores =
    let contents : length (stated stores) ≡ length stores = length-map stores (λ (store : StoreMeaning). store.elements) in
    let codes : length (map value_code (stated stores)) ≡ length (stated stores) = length-map (stated stores) value_code in
    omega (arith, contents, codes)

-- the index of a store's number, at which the codes have the store's code
record IsNumberAt (codes : List (List ℕ)) (numbers : List ℕ) (wanted : ℕ) (value : List ℕ) : Type 0 where
  place : ℕ
  within : place < length codes
  number : wanted ≡ slice_index numbers place
  code : slice_index_or codes place [] ≡ value

number_at : (stores : List StoreMeaning) (numbers : List ℕ) (n : ℕ) → length numbers ≡ length (codes_of stores)
    → IsNumberAt (codes_of stores) numbers (number_for numbers n) (value_code (elements_at stores (Some n)))
number_at stores numbers n count = elim (slice_get_cases numbers (n + 1)).1 [
  | inl found ↦ record {
    place = n + 1;
    within = omega (arith, count, found.1);
    number = ap (λ (o : Option ℕ). unwrap_or o (slice_index numbers 0)) found.2 ∙ sym (get_or_from_slice_get numbers (n + 1) found.0 0 found.2);
    code = (let next : n + 1 ≡ suc n = omega arith in ap (λ (k : ℕ). slice_index_or (codes_of stores) k []) next ∙ code_at stores n);
  }
  | inr past ↦ record {
    place = 0;
    within = omega (arith, count_of stores);
    number = ap (λ (o : Option ℕ). unwrap_or o (slice_index numbers 0)) past.1;
    code = sym (ap value_code (absent stores n (omega (arith, count, count_of stores, past.0))));
  }
]

-- the numbers contain at least the number of no elements
pub some_numbers : (stores : List StoreMeaning) (numbers : List ℕ) → AreNumbersOf (map value_code ([] ∷ stated stores)) numbers → 0 < length numbers
some_numbers stores numbers are = omega (arith, are.count, count_of stores)

-- two stores have the same number exactly where they have the same elements
pub same_number : (stores : List StoreMeaning) (numbers : List ℕ) (n m : ℕ) → AreNumbersOf (map value_code ([] ∷ stated stores)) numbers
    → eqb (number_for numbers n) (number_for numbers m) ≡ same_value (elements_at stores (Some n)) (elements_at stores (Some m))
same_number stores numbers n m are = decided ∙ sym (same_codes (elements_at stores (Some n)) (elements_at stores (Some m)))
  where
    one : IsNumberAt (codes_of stores) numbers (number_for numbers n) (value_code (elements_at stores (Some n)))
    one = number_at stores numbers n are.count

    other : IsNumberAt (codes_of stores) numbers (number_for numbers m) (value_code (elements_at stores (Some m)))
    other = number_at stores numbers m are.count

    codes_same : number_for numbers n ≡ number_for numbers m → value_code (elements_at stores (Some n)) ≡ value_code (elements_at stores (Some m))
    codes_same e = sym one.code ∙ are.other one.place other.place one.within other.within (sym one.number ∙ e ∙ other.number) ∙ other.code

    numbers_same : value_code (elements_at stores (Some n)) ≡ value_code (elements_at stores (Some m)) → number_for numbers n ≡ number_for numbers m
    numbers_same e = one.number ∙ are.same one.place other.place one.within other.within (one.code ∙ e ∙ sym other.code) ∙ sym other.number

    decided : eqb (number_for numbers n) (number_for numbers m) ≡ bytes_eq (value_code (elements_at stores (Some n))) (value_code (elements_at stores (Some m)))
    decided = elim (cases_Bool (eqb (number_for numbers n) (number_for numbers m))) [
      | inl same ↦ same ∙ sym ((bytes_eq-Decides (value_code (elements_at stores (Some n))) (value_code (elements_at stores (Some m)))).1 (codes_same (eqb-true (number_for numbers n) (number_for numbers m) same)))
      | inr differs ↦ elim (cases_Bool (bytes_eq (value_code (elements_at stores (Some n))) (value_code (elements_at stores (Some m))))) [
        | inl same ↦
            let is : eqb (number_for numbers n) (number_for numbers m) ≡ true
            = eq-eqb (number_for numbers n) (number_for numbers m) (numbers_same ((bytes_eq-Decides (value_code (elements_at stores (Some n))) (value_code (elements_at stores (Some m)))).0 same)) in
            let never : true ≡ false = sym is ∙ differs in
            cc
        | inr apart ↦ differs ∙ sym apart
      ]
    ]
