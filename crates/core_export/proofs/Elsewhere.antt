-- A byte that is in none of the replaced words does not change, and neither does the number of bytes.
use Rattle.std.proofs.Common.{◌≡◌, ℕ, zero, suc, ◌+◌, ◌*◌, ◌<◌, ◌≤◌, Bool, true, false, List, [], ◌∷◌, length, take, drop, refl, sym, ap, subst, ◌∙◌, inl, inr, arith}
use Rattle.std.specs.Prelude.{slice_get, nat_lt, nat_eq, if◌then◌else◌}
use Rattle.std.proofs.lemmas.Bool.{cases_Bool, eqb-true}
use Rattle.std.proofs.lemmas.Bool.Decides.{nat_tests}
use Rattle.kmx_format.specs.declared.places.TheConstants.{CHECKSUM_AT, GROUPS_AT, RULE_CONTEXT_AT, RULE_OUTPUT_AT, STORES_AT, VERSION_AT}
use Rattle.kmx_format.specs.declared.sizes.TheConstants.{STORE_BYTES, GROUP_BYTES, RULE_BYTES}
use Rattle.kmx_format.specs.TablesOf.{word_at}
use Rattle.kmx_view.specs.View.{store_count, group_count}
use Rattle.file_conversions.specs.Words.{with_word}
use Rattle.file_conversions.proofs.ReplacedWords.{length-with_word, before_same, behind_same}
use Rattle.core_export.specs.Checksum.{checksum}
use Rattle.core_export.specs.Export.{pointed, pointed_stores, pointed_record, pointed_records, pointed_groups, played_version, summed, replaced, exported, IsInWord, IsInZero, IsInContents, IsInRecords, IsInGroups, InChecksum, InVersion, InContent, InOutput, InContext, OnlyReplaced}

-- ---- the number of bytes

module _ (bytes : List ℕ) (unit : ℕ) where
  pointed_size : (place : ℕ) (out : List ℕ) → length (pointed bytes unit place out) ≡ length out
  pointed_size place out = by (nat_eq (word_at bytes place) 0)
    where
      by : (b : Bool) → length (if b then with_word place unit out else out) ≡ length out
      by true = length-with_word place unit out
      by false = refl

  stores_size : (place count : ℕ) (out : List ℕ) → length (pointed_stores bytes unit place count out) ≡ length out
  stores_size place zero out = refl
  stores_size place (suc count) out = stores_size (place + STORE_BYTES) count (pointed bytes unit (place + 8) out) ∙ pointed_size (place + 8) out

  record_size : (place : ℕ) (out : List ℕ) → length (pointed_record bytes unit place out) ≡ length out
  record_size place out = pointed_size (place + 16) (pointed bytes unit (place + 12) out) ∙ pointed_size (place + 12) out

  records_size : (place count : ℕ) (out : List ℕ) → length (pointed_records bytes unit place count out) ≡ length out
  records_size place zero out = refl
  records_size place (suc count) out = records_size (place + RULE_BYTES) count (pointed_record bytes unit place out) ∙ record_size place out

  groups_size : (place count : ℕ) (out : List ℕ) → length (pointed_groups bytes unit place count out) ≡ length out
  groups_size place zero out = refl
  groups_size place (suc count) out =
      groups_size (place + GROUP_BYTES) count (pointed_records bytes unit (word_at bytes (place + 4)) (word_at bytes (place + 16)) out)
      ∙ records_size (word_at bytes (place + 4)) (word_at bytes (place + 16)) out

summed_size : (out : List ℕ) → length (summed out) ≡ length out
summed_size out =
    length-with_word CHECKSUM_AT (checksum (with_word CHECKSUM_AT 0 out)) (with_word CHECKSUM_AT 0 out) ∙ length-with_word CHECKSUM_AT 0 out

-- ---- a byte that does not change

-- item n of a list is the last of its first n + 1 items, and the first of the items after its first n
last_taken : (n : ℕ) (xs : List ℕ) → slice_get (take (suc n) xs) n ≡ slice_get xs n
last_taken zero [] = refl
last_taken zero (x ∷ xs) = refl
last_taken (suc n) [] = refl
last_taken (suc n) (x ∷ xs) = last_taken n xs

first_left : (n : ℕ) (xs : List ℕ) → slice_get (drop n xs) 0 ≡ slice_get xs n
first_left zero [] = refl
first_left zero (x ∷ xs) = refl
first_left (suc n) [] = refl
first_left (suc n) (x ∷ xs) = first_left n xs

word_stays : (place number at : ℕ) (bytes : List ℕ) → (IsInWord place at → ⊥) → slice_get (with_word place number bytes) at ≡ slice_get bytes at
word_stays place number at bytes other = elim (cases_Bool (nat_lt at place)) [
  | inl before ↦
      let less : at < place = grind (arith, nat_tests) in
      sym (last_taken at (with_word place number bytes)) ∙ ap (λ (xs : List ℕ). slice_get xs at) (before_same place number (suc at) bytes (omega (arith, less))) ∙ last_taken at bytes
  | inr past ↦ elim (cases_Bool (nat_lt at (place + 4))) [
    | inl within ↦
        let from : place ≤ at = grind (arith, nat_tests) in
        let to : at < place + 4 = grind (arith, nat_tests) in
        absurd (other (record { from = from; below = to }))
    | inr behind ↦
        let from : place + 4 ≤ at = grind (arith, nat_tests) in
        sym (first_left at (with_word place number bytes)) ∙ ap (λ (xs : List ℕ). slice_get xs 0) (behind_same place number at bytes from) ∙ first_left at bytes
  ]
]

module _ (bytes : List ℕ) (unit at : ℕ) where
  zero_stays : (place : ℕ) (out : List ℕ) → (IsInZero bytes place at → ⊥) → slice_get (pointed bytes unit place out) at ≡ slice_get out at
  zero_stays place out other = by (nat_eq (word_at bytes place) 0) refl
    where
      by : (b : Bool) → nat_eq (word_at bytes place) 0 ≡ b → slice_get (if b then with_word place unit out else out) at ≡ slice_get out at
      by true is = word_stays place unit at out (λ within. other (record { blank = eqb-true (word_at bytes place) 0 is; inside = within }))
      by false is = refl

  contents_stay : (place count : ℕ) (out : List ℕ) → (IsInContents bytes place count at → ⊥) → slice_get (pointed_stores bytes unit place count out) at ≡ slice_get out at
  contents_stay place zero out other = refl
  contents_stay place (suc count) out other =
      contents_stay (place + STORE_BYTES) count (pointed bytes unit (place + 8) out) (λ h. other (later h)) ∙ zero_stays (place + 8) out (λ h. other (first h))
    where
      first : IsInZero bytes (place + 8) at → IsInContents bytes place (suc count) at
      first h = let same : place + 8 ≡ place + 12 * 0 + 8 = omega arith in record { index = 0; less = omega arith; inside = subst (λ p. IsInZero bytes p at) same h }

      later : IsInContents bytes (place + STORE_BYTES) count at → IsInContents bytes place (suc count) at
      later h =
          let k = h.index in
          let less = h.less in
          let same : place + 12 + 12 * k + 8 ≡ place + 12 * suc k + 8 = omega arith in
          record { index = suc k; less = omega (arith, less); inside = subst (λ p. IsInZero bytes p at) same h.inside }

  -- an offset 0 of the first of a number of key records, or of one of the others, is one of them all
  in_first_record : (field place count : ℕ) → IsInZero bytes (place + field) at → IsInRecords bytes field place (suc count) at
  in_first_record field place count h =
      let same : place + field ≡ place + 20 * 0 + field = omega arith in record { index = 0; less = omega arith; inside = subst (λ p. IsInZero bytes p at) same h }

  in_other_records : (field place count : ℕ) → IsInRecords bytes field (place + RULE_BYTES) count at → IsInRecords bytes field place (suc count) at
  in_other_records field place count h =
      let k = h.index in
      let less = h.less in
      let same : place + 20 + 20 * k + field ≡ place + 20 * suc k + field = omega arith in
      record { index = suc k; less = omega (arith, less); inside = subst (λ p. IsInZero bytes p at) same h.inside }

  records_stay : (place count : ℕ) (out : List ℕ) → (IsInRecords bytes RULE_OUTPUT_AT place count at → ⊥) → (IsInRecords bytes RULE_CONTEXT_AT place count at → ⊥)
      → slice_get (pointed_records bytes unit place count out) at ≡ slice_get out at
  records_stay place zero out no_output no_context = refl
  records_stay place (suc count) out no_output no_context =
      records_stay (place + RULE_BYTES) count (pointed_record bytes unit place out) (λ h. no_output (in_other_records RULE_OUTPUT_AT place count h)) (λ h. no_context (in_other_records RULE_CONTEXT_AT place count h))
      ∙ zero_stays (place + RULE_CONTEXT_AT) (pointed bytes unit (place + RULE_OUTPUT_AT) out) (λ h. no_context (in_first_record RULE_CONTEXT_AT place count h))
      ∙ zero_stays (place + RULE_OUTPUT_AT) out (λ h. no_output (in_first_record RULE_OUTPUT_AT place count h))

  -- an offset 0 of a key record of the first of a number of groups, or of one of the others, is one of them all
  in_first_group : (field place count : ℕ) → IsInRecords bytes field (word_at bytes (place + 4)) (word_at bytes (place + 16)) at → IsInGroups bytes field place (suc count) at
  in_first_group field place count h =
      let same : place ≡ place + 24 * 0 = omega arith in
      record { index = 0; less = omega arith; inside = subst (λ p. IsInRecords bytes field (word_at bytes (p + 4)) (word_at bytes (p + 16)) at) same h }

  in_other_groups : (field place count : ℕ) → IsInGroups bytes field (place + GROUP_BYTES) count at → IsInGroups bytes field place (suc count) at
  in_other_groups field place count h =
      let k = h.index in
      let less = h.less in
      let same : place + 24 + 24 * k ≡ place + 24 * suc k = omega arith in
      record { index = suc k; less = omega (arith, less); inside = subst (λ p. IsInRecords bytes field (word_at bytes (p + 4)) (word_at bytes (p + 16)) at) same h.inside }

  groups_stay : (place count : ℕ) (out : List ℕ) → (IsInGroups bytes RULE_OUTPUT_AT place count at → ⊥) → (IsInGroups bytes RULE_CONTEXT_AT place count at → ⊥)
      → slice_get (pointed_groups bytes unit place count out) at ≡ slice_get out at
  groups_stay place zero out no_output no_context = refl
  groups_stay place (suc count) out no_output no_context =
      groups_stay (place + GROUP_BYTES) count (pointed_records bytes unit (word_at bytes (place + 4)) (word_at bytes (place + 16)) out)
      (λ h. no_output (in_other_groups RULE_OUTPUT_AT place count h)) (λ h. no_context (in_other_groups RULE_CONTEXT_AT place count h))
      ∙ records_stay (word_at bytes (place + 4)) (word_at bytes (place + 16)) out (λ h. no_output (in_first_group RULE_OUTPUT_AT place count h)) (λ h. no_context (in_first_group RULE_CONTEXT_AT place count h))

pub only_replaced : (bytes : List ℕ) (unit : ℕ) → OnlyReplaced bytes (exported bytes unit)
unfolding replaced
only_replaced bytes unit =
    let contents : List ℕ = pointed_stores bytes unit (word_at bytes STORES_AT) (store_count bytes) bytes in
    let pointed_all : List ℕ = pointed_groups bytes unit (word_at bytes GROUPS_AT) (group_count bytes) contents in
    let version : ℕ = played_version (word_at bytes VERSION_AT) in
    let played : List ℕ = with_word VERSION_AT version pointed_all in
    record {
      size = summed_size played ∙ length-with_word VERSION_AT version pointed_all ∙ groups_size bytes unit (word_at bytes GROUPS_AT) (group_count bytes) contents
          ∙ stores_size bytes unit (word_at bytes STORES_AT) (store_count bytes) bytes;
      rest = λ at other.
          word_stays CHECKSUM_AT (checksum (with_word CHECKSUM_AT 0 played)) at (with_word CHECKSUM_AT 0 played) (λ h. other (InChecksum h))
          ∙ word_stays CHECKSUM_AT 0 at played (λ h. other (InChecksum h))
          ∙ word_stays VERSION_AT version at pointed_all (λ h. other (InVersion h))
          ∙ groups_stay bytes unit at (word_at bytes GROUPS_AT) (group_count bytes) contents (λ h. other (InOutput h)) (λ h. other (InContext h))
          ∙ contents_stay bytes unit at (word_at bytes STORES_AT) (store_count bytes) bytes (λ h. other (InContent h));
    }
