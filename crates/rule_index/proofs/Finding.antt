-- Sorted rows are an index, and a search finds the first of a class.
use Rattle.std.proofs.Common.{◌≢◌, eqb, Some, None, slice_get, Option, ◌≡◌, ◌<◌, ◌≤◌, ℕ, true, false, List, length, slice_index_or, inl, inr, refl, sym, ◌∙◌, ap, subst, arith}
use Rattle.std.specs.List.{All, Contains}
use Rattle.std.specs.List.Sorted.{IsPermutation, IsNonDecreasingBy}
use Rattle.std.proofs.lemmas.List.Sorted.{All-permutation, Contains-permutation, length_permutation}
use Rattle.std.proofs.lemmas.Bool.{cases_lt, cases_Bool, eqb-true, eq-eqb, cond-true, cond-false}
use Rattle.std.proofs.lemmas.List.{get_or_default}
use Rattle.std.proofs.lemmas.Option.{slice_get_cases, slice_get_within, get_or_from_slice_get}
use Rattle.kmn_base.specs.declared.limits.TheConstants.{RECORDS}
use Rattle.rule_index.specs.declared.row.Row.{Row}
use Rattle.rule_index.specs.Rows.{ranked, rank, AreNumbered, HasRow, IsIndexOf, StartsAt, number_if}
use Rattle.rule_index.proofs.Firsts.{IsFirstOf, NoneOf, FirstOf}

-- rows in the order of their numbers, sorted by rank, are the index
pub index_from : (classes : List ℕ) (before rows : List Row) → length classes ≤ RECORDS → AreNumbered classes before → IsPermutation before rows
    → IsNonDecreasingBy rank rows → IsIndexOf classes rows
index_from classes before rows few given moved sorted = record { few = few; count = length_permutation before rows moved ∙ given.0; sorted = sorted; numbers = numbers; right = right; complete = complete }
  where
    numbers : All (λ row. row.number < length classes) rows
    numbers = All-permutation (λ row. row.number < length classes) before rows moved (λ k d h. let e = given.1 k d h in omega (arith, e.0, given.0))

    right : All (λ row. row.class ≡ slice_index_or classes row.number 0) rows
    right = All-permutation (λ row. row.class ≡ slice_index_or classes row.number 0) before rows moved
        (λ k d h. let e = given.1 k d h in e.1 ∙ ap (λ (n : ℕ). slice_index_or classes n 0) (sym e.0))

    complete : (n : ℕ) → n < length classes → HasRow classes rows n
    complete n h = elim (slice_get_cases before n).1 [
      | inl found ↦
          let row : Row = found.0 in
          let here : slice_index_or before n row ≡ row = found.3 in
          let said = given.1 n row found.1 in
          let there : Contains rows row = Contains-permutation before rows row moved (n, found.1, here) in
          let at : (d : Row) → slice_index_or rows there.0 d ≡ row = λ d. get_or_default rows there.0 d row there.1 ∙ there.2 in
          record {
            place = there.0;
            within = there.1;
            number = λ d. ap (λ (r : Row). r.number) (at d ∙ sym here) ∙ said.0;
            class = λ d. ap (λ (r : Row). r.class) (at d ∙ sym here) ∙ said.1;
          }
      | inr past ↦ absurd (omega (arith, given.0))
    ]

-- the row of a number of a class, from a number on, is not before the start of the rows
row_behind : (class from place n : ℕ) (rows : List Row) (classes : List ℕ) (d : Row) → StartsAt (ranked class from) rows place
    → (has : HasRow classes rows n) → from ≤ n → slice_index_or classes n 0 ≡ class → place ≤ has.place
row_behind class from place n rows classes d starts has up same = elim (cases_lt has.place place) [
  | inr behind ↦ behind
  | inl before ↦
      let less : rank (slice_index_or rows has.place d) < ranked class from = starts.before has.place d before has.within in
      let class_is : (slice_index_or rows has.place d).class ≡ class = has.class d ∙ same in
      absurd (omega (arith, less, class_is, has.number d, up))
]

-- if the row at the start has the class, its number is the first of the class
found : (class from place : ℕ) (rows : List Row) (classes : List ℕ) (row : Row) → StartsAt (ranked class from) rows place → IsIndexOf classes rows
    → slice_get rows place ≡ Some row → row.class ≡ class → IsFirstOf class classes from (Some row.number)
found class from place rows classes row starts index e same = FirstOf row.number behind within met skipped
  where
    here : place < length rows
    here = slice_get_within rows place row e

    at : slice_index_or rows place row ≡ row
    at = get_or_from_slice_get rows place row row e

    within : row.number < length classes
    within = subst (λ (r : Row). r.number < length classes) at (index.numbers place row here)

    met : slice_index_or classes row.number 0 ≡ class
    met = sym (subst (λ (r : Row). r.class ≡ slice_index_or classes r.number 0) at (index.right place row here)) ∙ same

    start : ranked class from ≤ rank row
    start = subst (λ (r : Row). ranked class from ≤ rank r) at (starts.behind place row (omega arith) here)

    behind : from ≤ row.number
    behind = omega (arith, start, same)

    skipped : (n : ℕ) → from ≤ n → n < row.number → slice_index_or classes n 0 ≢ class
    skipped n up less is =
        let has = index.complete n (omega (arith, within)) in
        let after : place ≤ has.place = row_behind class from place n rows classes row starts has up is in
        let rise : rank (slice_index_or rows place row) ≤ rank (slice_index_or rows has.place row) = index.sorted place has.place row after has.within in
        let low : rank row ≤ rank (slice_index_or rows has.place row) = subst (λ (r : Row). rank r ≤ rank (slice_index_or rows has.place row)) at rise in
        let class_is : (slice_index_or rows has.place row).class ≡ class = has.class row ∙ is in
        absurd (omega (arith, low, class_is, has.number row, same))

-- if no row at the start has the class, no number has it
not_found : (class from place : ℕ) (rows : List Row) (classes : List ℕ) → StartsAt (ranked class from) rows place → IsIndexOf classes rows
    → ((row : Row) → slice_get rows place ≡ Some row → row.class ≢ class) → IsFirstOf class classes from None
not_found class from place rows classes starts index other = NoneOf (λ n up within is.
    let has = index.complete n within in
    elim (slice_get_cases rows place).1 [
      | inl there ↦
          let row : Row = there.0 in
          let after : place ≤ has.place = row_behind class from place n rows classes row starts has up is in
          let rise : rank (slice_index_or rows place row) ≤ rank (slice_index_or rows has.place row) = index.sorted place has.place row after has.within in
          let low : rank row ≤ rank (slice_index_or rows has.place row) = subst (λ (r : Row). rank r ≤ rank (slice_index_or rows has.place row)) there.3 rise in
          let start : ranked class from ≤ rank row = subst (λ (r : Row). ranked class from ≤ rank r) there.3 (starts.behind place row (omega arith) there.1) in
          let number : row.number < length classes = subst (λ (r : Row). r.number < length classes) there.3 (index.numbers place row there.1) in
          let class_is : (slice_index_or rows has.place row).class ≡ class = has.class row ∙ is in
          absurd (other row there.2 (omega (arith, low, start, number, class_is, has.number row, within, up, index.few)))
      | inr past ↦ elim (slice_get_cases rows has.place).1 [
        | inl there ↦ let after : place ≤ has.place = row_behind class from place n rows classes there.0 starts has up is in absurd (omega (arith, after, has.within, past.0))
        | inr out ↦ absurd (omega (arith, has.within, out.0))
      ]
    ])

-- a search finds the first number of a class, from a number on
pub first_found : (class from place : ℕ) (rows : List Row) (classes : List ℕ) → StartsAt (ranked class from) rows place → IsIndexOf classes rows
    → IsFirstOf class classes from (number_if class (slice_get rows place))
first_found class from place rows classes starts index = go (slice_get rows place) refl
  where
    go : (o : Option Row) → slice_get rows place ≡ o → IsFirstOf class classes from (number_if class o)
    go None e = not_found class from place rows classes starts index (λ row here same. let never : None ≡ Some row = sym e ∙ here in cc)
    go (Some row) e = elim (cases_Bool (eqb row.class class)) [
      | inl same ↦ subst (IsFirstOf class classes from) (sym (cond-true (eqb row.class class) (Some row.number) None same))
          (found class from place rows classes row starts index e (eqb-true row.class class same))
      | inr differs ↦ subst (IsFirstOf class classes from) (sym (cond-false (eqb row.class class) (Some row.number) None differs))
          (not_found class from place rows classes starts index (λ one here same.
          let is_one : row ≡ one = (let s : Some row ≡ Some one = sym e ∙ here in cc) in
          let yes_same : eqb row.class class ≡ true = eq-eqb row.class class (ap (λ (r : Row). r.class) is_one ∙ same) in
          let never : true ≡ false = sym yes_same ∙ differs in cc))
    ]
