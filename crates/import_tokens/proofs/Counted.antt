-- Numbers that are counted up, and characters that are spelled.
use Rattle.std.proofs.Common.{◌≡◌, ℕ, zero, suc, ◌+◌, ◌-◌, ◌<◌, ◌≤◌, true, length, Some, refl, ◌∙◌, ap, arith, List, [], ◌∷◌, ◌++◌, sym}
use Rattle.std.specs.Prelude.{slice_get, nat_lt, ◌||◌}
use Rattle.std.specs.List.{All}
use Rattle.std.proofs.lemmas.Bool.{and_parts}
use Rattle.std.proofs.lemmas.Bool.Decides.{nat_tests}
use Rattle.std.proofs.lemmas.List.Elements.{All-nil, All-cons}
use Rattle.kmn_base.specs.declared.limits.TheConstants.{STORE_ELEMENTS}
use Rattle.std.specs.Char.{IsScalar}
use Rattle.kmn_lines.specs.Tokens.{is_scalar}
use Rattle.import_tokens.specs.Ranges.{counted, between, is_char_range}
use Rattle.import_tokens.specs.Laws.{RangesRise}

counted_length : (first n : ℕ) → length (counted first n) ≡ n
counted_length first zero = refl
counted_length first (suc n) = ap suc (counted_length (first + 1) n)

counted_at : (first n k : ℕ) → k < n → slice_get (counted first n) k ≡ Some (first + k)
counted_at first zero k less = absurd (omega arith)
counted_at first (suc n) zero less = let e : first ≡ first + 0 = omega arith in ap Some e
counted_at first (suc n) (suc k) less =
    let e : (first + 1) + k ≡ first + suc k = omega arith in
    counted_at (first + 1) n k (omega arith) ∙ ap Some e

-- what holds of each number from one on, below another
counted_all : (P : ℕ → Type 0) (first n last : ℕ) → first + n ≤ last → ((c : ℕ) → first ≤ c → c < last → P c) → All P (counted first n)
counted_all P first zero last within h = All-nil P
counted_all P first (suc n) last within h =
    All-cons P first (counted (first + 1) n) (h first (omega arith) (omega arith))
    (counted_all P (first + 1) n last (omega arith) (λ c from to. h c (omega arith) to))

-- the tests of a range, one by one
pub record RangeTests (first last : ℕ) : Type 0 where
  pub rises : nat_lt first last ≡ true
  pub few : nat_lt last 0x11_0000 ≡ true
  pub apart : (nat_lt last 0xD800 || nat_lt 0xDFFF first) ≡ true
  pub allowed : (nat_lt last 0xFFFF || nat_lt 0xFFFF first) ≡ true

range_tests : (first last : ℕ) → is_char_range first last ≡ true → RangeTests first last
range_tests first last h =
    let d = and_parts _ (nat_lt (last - first) STORE_ELEMENTS) h in
    let c = and_parts _ (nat_lt last 0xFFFF || nat_lt 0xFFFF first) d.0 in
    let b = and_parts _ (nat_lt last 0xD800 || nat_lt 0xDFFF first) c.0 in
    let a = and_parts (nat_lt first last) (nat_lt last 0x11_0000) b.0 in
    record { rises = a.0; few = a.1; apart = b.1; allowed = c.1 }

scalar_between : (first last c : ℕ) → RangeTests first last → first + 1 ≤ c → c < last → is_scalar c ≡ true
scalar_between first last c tests from to =
    let few = tests.few in
    let apart = tests.apart in
    grind (arith, nat_tests)

pub ranges_rise : RangesRise
ranges_rise first last h =
    let tests = range_tests first last h in
    let rises = tests.rises in
    let less : first < last = grind (arith, nat_tests) in
    let count : length (between first last) ≡ last - (first + 1) = counted_length (first + 1) (last - (first + 1)) in
    record {
      count = omega (arith, count, less);
      inner = λ k small. counted_at (first + 1) (last - (first + 1)) k (omega (arith, count, small));
      scalar = counted_all (λ c. is_scalar c ≡ true) (first + 1) (last - (first + 1)) last (omega (arith, less)) (λ c from to. scalar_between first last c tests from to);
    }

-- one number more
counted_more : (first n : ℕ) → counted first (suc n) ≡ counted first n ++ ((first + n) ∷ [])
counted_more first zero = let e : first ≡ first + 0 = omega arith in ap (λ c. c ∷ []) e
counted_more first (suc n) =
    let e : (first + 1) + n ≡ first + suc n = omega arith in
    ap (λ (more : List ℕ). first ∷ more) (counted_more (first + 1) n ∙ ap (λ c. counted (first + 1) n ++ (c ∷ [])) e)

-- what was counted up to a number, and this number
pub counted_on : (first code next : ℕ) (old new : List ℕ) → first + 1 ≤ code → next ≡ code → old ≡ counted (first + 1) (code - (first + 1)) → new ≡ old ++ (next ∷ [])
    → new ≡ counted (first + 1) ((code + 1) - (first + 1))
counted_on first code next old new from is e more =
    let n : ℕ = code - (first + 1) in
    let here : next ≡ (first + 1) + n = omega (arith, is, from) in
    let count : suc n ≡ (code + 1) - (first + 1) = omega (arith, from) in
    more
    ∙ ap (λ (xs : List ℕ). xs ++ (next ∷ [])) e
    ∙ ap (λ c. counted (first + 1) n ++ (c ∷ [])) here
    ∙ sym (counted_more (first + 1) n)
    ∙ ap (counted (first + 1)) count

-- a number of a range is a character
pub is_character : (first last c : ℕ) → is_char_range first last ≡ true → first + 1 ≤ c → c < last → IsScalar c
is_character first last c h from to =
    let tests = range_tests first last h in
    let few = tests.few in
    let apart = tests.apart in
    grind (arith, nat_tests)

pub nothing_counted : (first : ℕ) → [] ≡ counted (first + 1) ((first + 1) - (first + 1))
nothing_counted first = let e : 0 ≡ (first + 1) - (first + 1) = omega arith in ap (counted (first + 1)) e

pub all_counted : (first last code : ℕ) (xs : List ℕ) → is_char_range first last ≡ true → last ≤ code → (first + 1 ≤ last → code ≤ last) → xs ≡ counted (first + 1) (code - (first + 1)) → xs ≡ between first last
all_counted first last code xs h end within e =
    let rises = (range_tests first last h).rises in
    let less : first < last = grind (arith, nat_tests) in
    let same : code ≡ last = (let w : code ≤ last = within (omega (arith, less)) in omega (arith, w, end)) in
    e ∙ ap (λ (n : ℕ). counted (first + 1) (n - (first + 1))) same
