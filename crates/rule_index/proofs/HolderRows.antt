-- The rows between the start of an item and the start of the next item are its holders.
use Rattle.std.proofs.Common.{◌≡◌, ◌≢◌, ◌+◌, ◌-◌, ◌<◌, ◌≤◌, ℕ, List, Some, length, drop, take, slice_index_or, inl, inr, refl, sym, ◌∙◌, ap, subst, arith}
use Rattle.std.specs.List.{All, Any, Contains}
use Rattle.std.specs.List.Sorted.{IsNonDecreasingBy}
use Rattle.std.proofs.lemmas.Bool.{cases_lt}
use Rattle.std.proofs.lemmas.List.{get_or-take, get_or-drop, length-take, length-drop}
use Rattle.kmn_base.specs.declared.items.Item.{Item}
use Rattle.kmn_base.specs.declared.items.Element.{Element}
use Rattle.rule_model.specs.Match.{place_of}
use Rattle.rule_index.specs.declared.holding.Holding.{Holding}
use Rattle.rule_index.specs.Elements.{item_number}
use Rattle.rule_index.specs.Holdings.{holding_start, holding_rank, content_at, holding_of, IsSmall, HaveDistinctRanks, AreHoldings, AreHoldersOf, EndsAt}

-- if rows are sorted and no two have the same rank, their ranks increase
ranks_rise : (rows : List Holding) → IsNonDecreasingBy holding_rank rows → HaveDistinctRanks rows → (i j : ℕ) (d : Holding) → i < j → j < length rows
    → holding_rank (slice_index_or rows i d) < holding_rank (slice_index_or rows j d)
ranks_rise rows sorted once i j d less below =
    let up : holding_rank (slice_index_or rows i d) ≤ holding_rank (slice_index_or rows j d) = sorted i j d (omega (arith, less)) below in
    let other : holding_rank (slice_index_or rows i d) ≢ holding_rank (slice_index_or rows j d) = once i j d less below in
    omega (arith, up, other)

module _ (stores : List (List Element)) (rows : List Holding) (x : Item) (from to : ℕ) (are : AreHoldings stores rows)
    (starts : EndsAt (holding_start (item_number x) 0) rows from) (ends : EndsAt (holding_start (item_number x + 1) 0) rows to) where
  row_of_run : (k : ℕ) (d : Holding) → k < to - from → slice_index_or (take (to - from) (drop from rows)) k d ≡ slice_index_or rows (from + k) d
  row_of_run k d below = get_or-take (to - from) (drop from rows) k d below ∙ get_or-drop from rows k d

  run_length : length (take (to - from) (drop from rows)) ≡ to - from
  run_length = omega (arith, length-take (to - from) (drop from rows), length-drop from rows, ends.within)

  there : (k : ℕ) → k < to - from → from + k < length rows
  there k within = omega (arith, within, ends.within)

  -- each of these rows is of the item
  of_item : (k : ℕ) (d : Holding) → k < to - from → (slice_index_or rows (from + k) d).item ≡ item_number x
  of_item k d within =
      let row : Holding = slice_index_or rows (from + k) d in
      let high : holding_start (item_number x) 0 ≤ holding_rank row = starts.behind (from + k) d (omega arith) (there k within) in
      let low : holding_rank row < holding_start (item_number x + 1) 0 = ends.before (from + k) d (omega (arith, within)) in
      let small : IsSmall row = are.small (from + k) d (there k within) in
      let same : row.item ≡ item_number x = omega (arith, high, low, small.0, small.1) in
      same

  held : (k : ℕ) (d : Holding) → k < to - from
      → place_of x (content_at stores (slice_index_or rows (from + k) d).store) ≡ Some (slice_index_or rows (from + k) d).place
  held k d within = are.right (from + k) d (there k within) x (sym (of_item k d within))

  each : All (λ row. place_of x (content_at stores row.store) ≡ Some row.place) (take (to - from) (drop from rows))
  each k d below =
      let within : k < to - from = omega (arith, run_length, below) in
      subst (λ (r : Holding). place_of x (content_at stores r.store) ≡ Some r.place) (sym (row_of_run k d within)) (held k d within)

  items : All (λ row. row.item ≡ item_number x) (take (to - from) (drop from rows))
  items k d below =
      let within : k < to - from = omega (arith, run_length, below) in
      subst (λ (r : Holding). r.item ≡ item_number x) (sym (row_of_run k d within)) (of_item k d within)

  -- and their store numbers increase, since a store has one first place of the item
  stores_rise : (i j : ℕ) (d : Holding) → i < j → j < to - from → (slice_index_or rows (from + i) d).store < (slice_index_or rows (from + j) d).store
  stores_rise i j d less below =
      let one : Holding = slice_index_or rows (from + i) d in
      let other : Holding = slice_index_or rows (from + j) d in
      let early : i < to - from = omega (arith, less, below) in
      elim (cases_lt one.store other.store) [
        | inl up ↦ up
        | inr down ↦
            let ranks : holding_rank one < holding_rank other = ranks_rise rows are.sorted are.once (from + i) (from + j) d (omega (arith, less)) (there j below) in
            let small_one : IsSmall one = are.small (from + i) d (there i early) in
            let small_other : IsSmall other = are.small (from + j) d (there j below) in
            let item_one : one.item ≡ item_number x = of_item i d early in
            let item_other : other.item ≡ item_number x = of_item j d below in
            let same : one.store ≡ other.store = omega (arith, ranks, small_one.1, small_other.1, item_one, item_other, down) in
            let held_one : place_of x (content_at stores other.store) ≡ Some one.place
            = subst (λ (s : ℕ). place_of x (content_at stores s) ≡ Some one.place) same (held i d early) in
            let both : Some one.place ≡ Some other.place = sym held_one ∙ held j d below in
            let place_is : one.place ≡ other.place = cc in
            absurd (omega (arith, ranks, item_one, item_other, same, place_is))
      ]

  rise : (i j : ℕ) (d : Holding) → i < j → j < length (take (to - from) (drop from rows))
      → (slice_index_or (take (to - from) (drop from rows)) i d).store < (slice_index_or (take (to - from) (drop from rows)) j d).store
  rise i j d less below =
      let within : j < to - from = omega (arith, run_length, below) in
      let early : i < to - from = omega (arith, less, within) in
      let up : (slice_index_or rows (from + i) d).store < (slice_index_or rows (from + j) d).store = stores_rise i j d less within in
      let one : (slice_index_or (take (to - from) (drop from rows)) i d).store ≡ (slice_index_or rows (from + i) d).store = ap (λ (r : Holding). r.store) (row_of_run i d early) in
      let other : (slice_index_or (take (to - from) (drop from rows)) j d).store ≡ (slice_index_or rows (from + j) d).store = ap (λ (r : Holding). r.store) (row_of_run j d within) in
      omega (arith, up, one, other)

  not_before : (store place : ℕ) → (has : Contains rows (holding_of x store place)) → from ≤ has.0
  not_before store place has = elim (cases_lt has.0 from) [
    | inr late ↦ late
    | inl early ↦
        let less : holding_rank (slice_index_or rows has.0 (holding_of x store place)) < holding_start (item_number x) 0 = starts.before has.0 (holding_of x store place) early in
        let low : holding_rank (holding_of x store place) < holding_start (item_number x) 0
        = subst (λ (r : Holding). holding_rank r < holding_start (item_number x) 0) has.2 less in
        absurd (omega (arith, low))
  ]

  not_behind : (store place : ℕ) → (has : Contains rows (holding_of x store place)) → IsSmall (holding_of x store place) → has.0 < to
  not_behind store place has small = elim (cases_lt has.0 to) [
    | inl early ↦ early
    | inr late ↦
        let more : holding_start (item_number x + 1) 0 ≤ holding_rank (slice_index_or rows has.0 (holding_of x store place)) = ends.behind has.0 (holding_of x store place) late has.1 in
        let high : holding_start (item_number x + 1) 0 ≤ holding_rank (holding_of x store place)
        = subst (λ (r : Holding). holding_start (item_number x + 1) 0 ≤ holding_rank r) has.2 more in
        absurd (omega (arith, high, small.0, small.1))
  ]

  all : (store place : ℕ) → place_of x (content_at stores store) ≡ Some place → Any (λ row. row.store ≡ store) (take (to - from) (drop from rows))
  all store place is =
      let one : Holding = holding_of x store place in
      let has : Contains rows one = are.complete x store place is in
      let small : IsSmall one = subst IsSmall has.2 (are.small has.0 one has.1) in
      let late : from ≤ has.0 = not_before store place has in
      let below : has.0 < to = not_behind store place has small in
      let at : from + (has.0 - from) ≡ has.0 = omega (arith, late) in
      let within : has.0 - from < to - from = omega (arith, late, below) in
      (has.0 - from, one, omega (arith, run_length, within), row_of_run (has.0 - from) one within ∙ ap (λ (k : ℕ). slice_index_or rows k one) at ∙ has.2, refl)

  pub holders_found : AreHoldersOf x (content_at stores) (take (to - from) (drop from rows))
  holders_found = record { items = items; each = each; all = all; rise = rise }
