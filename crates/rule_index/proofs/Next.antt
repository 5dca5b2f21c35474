-- The next number of some classes is the least of their first numbers, and only its class has numbers below the second least.
use Rattle.std.proofs.Common.{◌+◌, Some, None, Option, ◌≡◌, ◌≢◌, ◌<◌, ◌≤◌, ◌⊎◌, ℕ, List, length, slice_index_or, inl, inr, sym, ◌∙◌, ap, arith}
use Rattle.std.specs.Prelude.{unwrap_or}
use Rattle.std.proofs.lemmas.Bool.{cases_lt}
use Rattle.rule_index.specs.Next.{IsNext, NoneIsLeft, IsTheNext}
use Rattle.rule_index.proofs.Firsts.{IsFirstOf, NoneOf, FirstOf}

-- the least number, from `from` on, that has one of the first `count` matching classes, or 131072 if there is none; its class; and a
-- limit below which each number that has one of these classes has this class
pub record IsLeast (wanted classes : List ℕ) (from count least class limit : ℕ) : Type 0 where
  pub found : least < 131072 → (from ≤ least) × (least < length classes) × (slice_index_or classes least 0 ≡ class)
  pub skipped : (n j : ℕ) → from ≤ n → n < least → n < length classes → j < count → slice_index_or classes n 0 ≢ slice_index_or wanted j 0
  pub alone : (n j : ℕ) → from ≤ n → n < limit → n < length classes → j < count → slice_index_or classes n 0 ≡ slice_index_or wanted j 0
      → slice_index_or classes n 0 ≡ class

pub none_yet : (wanted classes : List ℕ) (from class : ℕ) → IsLeast wanted classes from 0 131072 class 131072
none_yet wanted classes from class = record {
  found = λ h. absurd (omega arith);
  skipped = λ n j a b w h. absurd (omega arith);
  alone = λ n j a b w h. absurd (omega arith);
}

-- the first number of a class, from `from` on, or 131072 if there is none
pub record IsFirstNumber (class : ℕ) (classes : List ℕ) (from first : ℕ) : Type 0 where
  pub found : first < 131072 → (from ≤ first) × (first < length classes) × (slice_index_or classes first 0 ≡ class)
  pub skipped : (n : ℕ) → from ≤ n → n < first → n < length classes → slice_index_or classes n 0 ≢ class

pub first_number : (class from : ℕ) (classes : List ℕ) (first : Option ℕ) → length classes ≤ 131072 → IsFirstOf class classes from first
    → IsFirstNumber class classes from (unwrap_or first 131072)
first_number class from classes None few (NoneOf none) = record {
  found = λ h. absurd (omega arith);
  skipped = λ n a b w. none n a w;
}
first_number class from classes (Some m) few (FirstOf p behind within met skipped) = record {
  found = λ h. (behind, within, met);
  skipped = λ n a b w. skipped n a b;
}

-- one more class, with its first number
module _ (wanted classes : List ℕ) (from count least limit class more first : ℕ) (is : more ≡ slice_index_or wanted count 0)
    (so_far : IsLeast wanted classes from count least class limit) (one : IsFirstNumber more classes from first) where
  split : (j : ℕ) → j < count + 1 → (j < count) ⊎ (j ≡ count)
  split j h = elim (cases_lt j count) [ inl less ↦ inl less | inr more ↦ inr (omega arith) ]

  last : (j : ℕ) → j ≡ count → slice_index_or wanted j 0 ≡ more
  last j same = ap (λ (k : ℕ). slice_index_or wanted k 0) same ∙ sym is

  pub goes_first : first < least → IsLeast wanted classes from (count + 1) first more least
  goes_first less = record {
    found = one.found;
    skipped = λ n j a b w h e. elim (split j h) [
      | inl old ↦ so_far.skipped n j a (omega arith) w old e
      | inr same ↦ one.skipped n a b w (e ∙ last j same)
    ];
    alone = λ n j a b w h e. elim (split j h) [
      | inl old ↦ absurd (so_far.skipped n j a b w old e)
      | inr same ↦ e ∙ last j same
    ];
  }

  later : (bound : ℕ) → least ≤ first → bound ≤ limit → ((n : ℕ) → from ≤ n → n < bound → n < length classes → slice_index_or classes n 0 ≡ more → slice_index_or classes n 0 ≡ class)
      → IsLeast wanted classes from (count + 1) least class bound
  later bound behind below own = record {
    found = so_far.found;
    skipped = λ n j a b w h e. elim (split j h) [
      | inl old ↦ so_far.skipped n j a b w old e
      | inr same ↦ one.skipped n a (omega arith) w (e ∙ last j same)
    ];
    alone = λ n j a b w h e. elim (split j h) [
      | inl old ↦ so_far.alone n j a (omega arith) w old e
      | inr same ↦ own n a b w (e ∙ last j same)
    ];
  }

  pub goes_second : least < first → first < limit → IsLeast wanted classes from (count + 1) least class first
  goes_second less below = later first (omega arith) (omega arith) (λ n a b w e. absurd (one.skipped n a b w e))

  -- the first number of the class is the least again, or at least the limit
  pub goes_last : least ≤ first → (least < first → limit ≤ first) → length classes ≤ 131072 → IsLeast wanted classes from (count + 1) least class limit
  goes_last behind beyond few = later limit behind (omega arith) (λ n a b w e. elim (cases_lt least first) [
    | inl less ↦ absurd (one.skipped n a (omega (arith, beyond less)) w e)
    | inr no_less ↦ elim (cases_lt least 131072) [
      | inl is_found ↦
          let same : first ≡ least = omega arith in
          let its : slice_index_or classes first 0 ≡ more = (one.found (omega arith)).2 in
          e ∙ sym its ∙ ap (λ (k : ℕ). slice_index_or classes k 0) same ∙ (so_far.found is_found).2
      | inr none ↦ absurd (one.skipped n a (omega arith) w e)
    ]
  ])

-- the least number of all classes is the next candidate
pub least_is_next : (wanted classes : List ℕ) (from count least class limit : ℕ) → IsLeast wanted classes from count least class limit
    → (j : ℕ) × (j < count) × (class ≡ slice_index_or wanted j 0) → least < 131072 → IsNext wanted count classes from (Some least)
least_is_next wanted classes from count least class limit is one less =
    let at = is.found less in
    IsTheNext least at.0 at.1 (one.0, one.1, at.2 ∙ one.2) (λ n j a b h. is.skipped n j a b (omega (arith, at.1)) h)

pub none_is_next : (wanted classes : List ℕ) (from count least class limit : ℕ) → length classes ≤ 131072 → IsLeast wanted classes from count least class limit
    → 131072 ≤ least → IsNext wanted count classes from None
none_is_next wanted classes from count least class limit few is all = NoneIsLeft (λ n j a w h. is.skipped n j a (omega arith) w h)

pub next_behind : (wanted classes : List ℕ) (from count number : ℕ) → IsNext wanted count classes from (Some number) → from ≤ number
next_behind wanted classes from count number (IsTheNext n behind within met skipped) = behind
