-- Values are numbered one after the other.
use Rattle.std.proofs.Common.{◌≡◌, ℕ, ◌+◌, ◌<◌, List, [], ◌∷◌, ◌++◌, length, slice_index, slice_index_or, Option, Some, None, refl, sym, ◌∙◌, ap, subst, inl, inr, arith, length-append}
use Rattle.std.proofs.lemmas.Bool.{cases_lt, cases_Bool, cond-true, cond-false}
use Rattle.std.proofs.lemmas.List.{get_or_append_left}
use Rattle.std.proofs.Math.Seq.{get_or-append_seam}
use Rattle.rule_index.specs.Values.{AreNumbersOf, IsNumbered, Stayed, Added}
use Rattle.std.specs.Prelude.{bytes_eq}
use Rattle.std.proofs.lemmas.Slice.Eq.{bytes_eq-Decides}

-- the first n values are numbered, and the map has them
pub record AreKnown (values : List (List ℕ)) (known : List ℕ → Option ℕ) (numbers : List ℕ) (n : ℕ) : Type 0 where
  pub count : length numbers ≡ n
  pub value : (q : List ℕ) (c : ℕ) → known q ≡ Some c → (c < length values) × (slice_index_or values c [] ≡ q)
  pub number : (i : ℕ) → i < n → known (slice_index_or values i []) ≡ Some (slice_index numbers i)

-- if the next value is known, it gets the same number again
again : (values : List (List ℕ)) (known : List ℕ → Option ℕ) (numbers : List ℕ) (n c : ℕ) → AreKnown values known numbers n
    → known (slice_index_or values n []) ≡ Some c → AreKnown values known (numbers ++ c ∷ []) (n + 1)
again values known numbers n c h e = record {
  count = length-append numbers (c ∷ []) ∙ ap (λ (k : ℕ). k + 1) h.count;
  value = h.value;
  number = λ i below. elim (cases_lt i n) [
    | inl old ↦ h.number i old ∙ ap (λ (k : ℕ). Some k) (sym (get_or_append_left numbers (c ∷ []) 0 i (omega (arith, h.count))))
    | inr new ↦
        let at : i ≡ n = omega arith in
        let last : slice_index (numbers ++ c ∷ []) (length numbers) ≡ c = get_or-append_seam numbers c [] 0 in
        let place : length numbers ≡ i = omega (arith, h.count) in
        ap (λ (k : ℕ). known (slice_index_or values k [])) at ∙ e ∙ ap (λ (k : ℕ). Some k) (sym last ∙ ap (λ (k : ℕ). slice_index (numbers ++ c ∷ []) k) place)
  ];
}

-- if all values are numbered, two values have the same number exactly where they are equal
pub numbered_all : (values : List (List ℕ)) (known : List ℕ → Option ℕ) (numbers : List ℕ) → AreKnown values known numbers (length values) → AreNumbersOf values numbers
numbered_all values known numbers h = record {
  count = h.count;
  same = λ i j a b e.
      let both : Some (slice_index numbers i) ≡ Some (slice_index numbers j) = sym (h.number i a) ∙ ap known e ∙ h.number j b in
      cc;
  other = λ i j a b e. sym (h.value _ _ (h.number i a)).1 ∙ ap (λ (k : ℕ). slice_index_or values k []) e ∙ (h.value _ _ (h.number j b)).1;
}

-- one more value is numbered
pub one_more : (values : List (List ℕ)) (old new : List ℕ → Option ℕ) (numbers : List ℕ) (n number : ℕ) → n < length values → AreKnown values old numbers n
    → IsNumbered old new (slice_index_or values n []) n number → AreKnown values new (numbers ++ number ∷ []) (n + 1)
one_more values old new numbers n number within h (Stayed found same) =
    let more = again values old numbers n number h found in
    record {
      count = more.count;
      value = λ q c e. more.value q c (sym (same q) ∙ e);
      number = λ i below. same _ ∙ more.number i below;
    }
one_more values old new numbers n number within h (Added none added is) =
    let value : List ℕ = slice_index_or values n [] in
    let mine : new value ≡ Some n = added value ∙ cond-true (bytes_eq value value) (Some n) (old value) ((bytes_eq-Decides value value).1 refl) in
    let before : AreKnown values new numbers n = record {
      count = h.count;
      value = λ q c e. elim (cases_Bool (bytes_eq value q)) [
        | inl same ↦
            let mine_too : Some n ≡ Some c = sym (cond-true (bytes_eq value q) (Some n) (old q) same) ∙ sym (added q) ∙ e in
            let is_n : n ≡ c = cc in
            (subst (λ (k : ℕ). k < length values) is_n within, ap (λ (k : ℕ). slice_index_or values k []) (sym is_n) ∙ (bytes_eq-Decides value q).0 same)
        | inr apart ↦ h.value q c (sym (cond-false (bytes_eq value q) (Some n) (old q) apart) ∙ sym (added q) ∙ e)
      ];
      number = λ i below. elim (cases_Bool (bytes_eq value (slice_index_or values i []))) [
        | inl same ↦
            let twin : value ≡ slice_index_or values i [] = (bytes_eq-Decides value (slice_index_or values i [])).0 same in
            let never : None ≡ Some (slice_index numbers i) = sym none ∙ ap old twin ∙ h.number i below in
            cc
        | inr apart ↦ added _ ∙ cond-false (bytes_eq value (slice_index_or values i [])) (Some n) (old (slice_index_or values i [])) apart ∙ h.number i below
      ];
    } in
    again values new numbers n number before (mine ∙ ap (λ (k : ℕ). Some k) (sym is))
