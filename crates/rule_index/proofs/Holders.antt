-- If the rows of all stores are sorted, they are the holdings, and a search finds the first place of an item in a store.
use Rattle.std.proofs.Common.{◌≡◌, ◌<◌, ◌≤◌, ◌&&◌, eqb, ℕ, Bool, true, false, List, [], Option, Some, None, length, slice_get, slice_index_or, inl, inr, refl, sym, ◌∙◌, ap, subst, arith}
use Rattle.std.specs.List.{All, Contains}
use Rattle.std.specs.List.Sorted.{IsPermutation, IsNonDecreasingBy}
use Rattle.std.proofs.lemmas.Bool.{cases_lt, cases_Bool, eqb-true, eqb-false, eq-eqb, ne_eqb, cond-true, cond-false, and_parts}
use Rattle.std.proofs.lemmas.List.{get_or_default}
use Rattle.std.proofs.Math.ListN.{get_or-eq_default}
use Rattle.std.proofs.lemmas.List.Sorted.{All-permutation, Contains-permutation}
use Rattle.std.proofs.lemmas.Map.Keys.{IsDistinct-IsPermutation, IsDistinct-from_apart, apart_from_distinct}
use Rattle.std.proofs.lemmas.Option.{slice_get_cases, slice_get_within, get_or_from_slice_get}
use Rattle.kmn_base.specs.declared.items.Item.{Item}
use Rattle.kmn_base.specs.declared.items.Element.{Element}
use Rattle.rule_model.specs.Match.{place_of}
use Rattle.rule_index.specs.declared.holding.Holding.{Holding}
use Rattle.rule_index.specs.Elements.{item_number}
use Rattle.rule_index.specs.Holdings.{holding_start, holding_rank, content_at, holding_of, IsHeld, IsSmall, HaveDistinctRanks, AreGathered, AreHoldings, EndsAt, place_if}

-- if a store has an item, its number is less than the count of stores
store_within : (stores : List (List Element)) (x : Item) (store place : ℕ) → place_of x (content_at stores store) ≡ Some place → store < length stores
store_within stores x store place is = elim (cases_lt store (length stores)) [
  | inl within ↦ within
  | inr past ↦
      let none : content_at stores store ≡ [] = get_or-eq_default stores [] past in
      let never : None ≡ Some place = sym (ap (place_of x) none) ∙ is in
      cc
]

-- if no two rows have the same rank, no two have it in another order
abbrev same_rank : Holding → Holding → Bool
same_rank a b = eqb (holding_rank a) (holding_rank b)

either_way : (m n : ℕ) → eqb m n ≡ eqb n m
either_way m n = elim (cases_Bool (eqb m n)) [
  | inl same ↦ same ∙ sym (eq-eqb n m (sym (eqb-true m n same)))
  | inr other ↦ other ∙ sym (ne_eqb n m (λ same. eqb-false m n other (sym same)))
]

once_moved : (before rows : List Holding) → IsPermutation before rows → HaveDistinctRanks before → HaveDistinctRanks rows
once_moved before rows moved once i j d less below =
    eqb-false (holding_rank (slice_index_or rows i d)) (holding_rank (slice_index_or rows j d))
    (apart_from_distinct same_rank rows i j d (IsDistinct-IsPermutation same_rank flips before rows moved (IsDistinct-from_apart same_rank before apart)) less below)
  where
    flips : (a b : Holding) → same_rank a b ≡ same_rank b a
    flips a b = either_way (holding_rank a) (holding_rank b)

    apart : (n k : ℕ) (e : Holding) → n < k → k < length before → same_rank (slice_index_or before n e) (slice_index_or before k e) ≡ false
    apart n k e early within = ne_eqb (holding_rank (slice_index_or before n e)) (holding_rank (slice_index_or before k e)) (once n k e early within)

-- if the rows of all stores are sorted, they are the holdings
pub holdings_from : (stores : List (List Element)) (before rows : List Holding) → AreGathered stores before (length stores) → IsPermutation before rows
    → IsNonDecreasingBy holding_rank rows → AreHoldings stores rows
holdings_from stores before rows gathered moved sorted = record {
  sorted = sorted;
  once = once_moved before rows moved gathered.once;
  small = All-permutation IsSmall before rows moved gathered.small;
  right = All-permutation (IsHeld stores) before rows moved gathered.right;
  complete = λ x store place is. Contains-permutation before rows (holding_of x store place) moved (gathered.complete x store place (store_within stores x store place is) is);
}

-- if a start is at least another start, its rows do not end earlier
pub ends_in_order : (start later from to : ℕ) (rows : List Holding) → start ≤ later → EndsAt start rows from → EndsAt later rows to → from ≤ to
ends_in_order start later from to rows order one other = elim (cases_lt to from) [
  | inr up ↦ up
  | inl down ↦ elim (slice_get_cases rows to).1 [
    | inl found ↦
        let less : holding_rank (slice_index_or rows to found.0) < start = one.before to found.0 down in
        let more : later ≤ holding_rank (slice_index_or rows to found.0) = other.behind to found.0 (omega arith) found.1 in
        absurd (omega (arith, less, more))
    | inr past ↦ absurd (omega (arith, past.0, one.within))
  ]
]

-- the row where the rows of an item and store start
module _ (item store place : ℕ) (rows : List Holding) (starts : EndsAt (holding_start item store) rows place) (sorted : IsNonDecreasingBy holding_rank rows)
    (small : All IsSmall rows) (below : store < 65536) (one : Holding) (has : Contains rows one) (of_item : one.item ≡ item) (of_store : one.store ≡ store) where
  no_earlier : place ≤ has.0
  no_earlier = elim (cases_lt has.0 place) [
    | inr late ↦ late
    | inl early ↦
        let less : holding_rank (slice_index_or rows has.0 one) < holding_start item store = starts.before has.0 one early in
        let low : holding_rank one < holding_start item store = subst (λ (r : Holding). holding_rank r < holding_start item store) has.2 less in
        absurd (omega (arith, low, of_item, of_store))
  ]

  first_within : place < length rows
  first_within = omega (arith, no_earlier, has.1)

  first_is : (row : Holding) → slice_get rows place ≡ Some row → (row.item ≡ item) × (row.store ≡ store)
  first_is row here =
      let at : slice_index_or rows place row ≡ row = get_or_from_slice_get rows place row row here in
      let high : holding_start item store ≤ holding_rank row = subst (λ (r : Holding). holding_start item store ≤ holding_rank r) at (starts.behind place row (omega arith) first_within) in
      let rise : holding_rank (slice_index_or rows place row) ≤ holding_rank (slice_index_or rows has.0 row) = sorted place has.0 row no_earlier has.1 in
      let last : slice_index_or rows has.0 row ≡ one = get_or_default rows has.0 row one has.1 ∙ has.2 in
      let low : holding_rank row ≤ holding_rank one
      = subst (λ (r : Holding). holding_rank row ≤ holding_rank r) last (subst (λ (r : Holding). holding_rank r ≤ holding_rank (slice_index_or rows has.0 row)) at rise) in
      let small_row : IsSmall row = subst IsSmall at (small place row first_within) in
      let small_one : IsSmall one = subst IsSmall has.2 (small has.0 one has.1) in (
        omega (arith, high, low, small_row.0, small_row.1, small_one.0, small_one.1, of_item, of_store),
        omega (arith, high, low, small_row.0, small_row.1, small_one.0, small_one.1, of_item, of_store),
      )

-- the first row of an item and a store has the item's first place there
pub place_found : (stores : List (List Element)) (rows : List Holding) (x : Item) (store place : ℕ) → AreHoldings stores rows → store < 65536
    → EndsAt (holding_start (item_number x) store) rows place → place_if (item_number x) store (slice_get rows place) ≡ place_of x (content_at stores store)
place_found stores rows x store place are below starts = go (slice_get rows place) (place_of x (content_at stores store)) refl refl
  where
    item : ℕ
    item = item_number x

    has : (p : ℕ) → place_of x (content_at stores store) ≡ Some p → Contains rows (holding_of x store p)
    has p is = are.complete x store p is

    within : (p : ℕ) → place_of x (content_at stores store) ≡ Some p → place < length rows
    within p is = first_within item store place rows starts are.sorted are.small below (holding_of x store p) (has p is) refl refl

    first : (row : Holding) (p : ℕ) → slice_get rows place ≡ Some row → place_of x (content_at stores store) ≡ Some p → (row.item ≡ item) × (row.store ≡ store)
    first row p here is = first_is item store place rows starts are.sorted are.small below (holding_of x store p) (has p is) refl refl row here

    held : (row : Holding) → slice_get rows place ≡ Some row → row.item ≡ item → row.store ≡ store → place_of x (content_at stores store) ≡ Some row.place
    held row here of_item of_store =
        let right : IsHeld stores row = subst (IsHeld stores) (get_or_from_slice_get rows place row row here) (are.right place row (slice_get_within rows place row here)) in
        subst (λ (s : ℕ). place_of x (content_at stores s) ≡ Some row.place) of_store (right x (sym of_item))

    go : (row : Option Holding) (p : Option ℕ) → slice_get rows place ≡ row → place_of x (content_at stores store) ≡ p → place_if item store row ≡ p
    go None None here is = refl
    go None (Some p) here is = elim (slice_get_cases rows place).1 [
      | inl there ↦ let never : None ≡ Some there.0 = sym here ∙ there.2 in cc
      | inr past ↦ absurd (let less : place < length rows = within p is in omega (arith, less, past.0))
    ]
    go (Some row) p here is = elim (cases_Bool (eqb row.item item && eqb row.store store)) [
      | inl same ↦
          let both = and_parts (eqb row.item item) (eqb row.store store) same in
          cond-true (eqb row.item item && eqb row.store store) (Some row.place) None same
          ∙ sym (held row here (eqb-true row.item item both.0) (eqb-true row.store store both.1)) ∙ is
      | inr other ↦ cond-false (eqb row.item item && eqb row.store store) (Some row.place) None other ∙ none row p here is other
    ]
      where
        none : (row : Holding) (p : Option ℕ) → slice_get rows place ≡ Some row → place_of x (content_at stores store) ≡ p
            → (eqb row.item item && eqb row.store store) ≡ false → None ≡ p
        none row None here is other = refl
        none row (Some p) here is other =
            let found = first row p here is in
            let same : (eqb row.item item && eqb row.store store) ≡ true = λ i. eq-eqb row.item item found.0 i && eq-eqb row.store store found.1 i in
            let never : true ≡ false = sym same ∙ other in
            cc

-- no store whose number needs more than 16 bits has an item
pub none_past : (stores : List (List Element)) (rows : List Holding) (x : Item) (store : ℕ) → AreHoldings stores rows → 65536 ≤ store
    → place_of x (content_at stores store) ≡ None
none_past stores rows x store are past = go (place_of x (content_at stores store)) refl
  where
    go : (p : Option ℕ) → place_of x (content_at stores store) ≡ p → p ≡ None
    go None is = refl
    go (Some place) is =
        let has : Contains rows (holding_of x store place) = are.complete x store place is in
        let small : IsSmall (holding_of x store place) = subst IsSmall has.2 (are.small has.0 (holding_of x store place) has.1) in
        absurd (omega (arith, small.0))
