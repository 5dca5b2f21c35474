-- Iterating over the elements of a store, sorted by class, produces a row for the first place of each item.
use Rattle.std.proofs.Common.{◌≡◌, ◌≢◌, ◌+◌, ◌*◌, ◌<◌, ◌≤◌, ℕ, List, [], ◌∷◌, ◌++◌, Some, length, map, slice_index_or, inl, inr, refl, sym, ◌∙◌, ap, subst, arith}
use Rattle.std.specs.List.{All, Contains}
use Rattle.std.proofs.lemmas.Bool.{cases_lt}
use Rattle.std.proofs.lemmas.List.Elements.{All-push, All-contains, Contains-append_left, Contains-push}
use Rattle.std.proofs.lemmas.List.Quantifiers.{all_pairs_push}
use Rattle.std.proofs.lemmas.Option.{slice_get_cases}
use Rattle.kmn_base.specs.declared.items.Item.{Item}
use Rattle.kmn_base.specs.declared.items.Item.TheVariants as item
use Rattle.kmn_base.specs.declared.items.Element.{Element}
use Rattle.rule_model.specs.Match.{place_of}
use Rattle.rule_index.specs.declared.holding.Holding.{Holding}
use Rattle.rule_index.specs.declared.row.Row.{Row}
use Rattle.rule_index.specs.Elements.{element_number, item_number}
use Rattle.rule_index.specs.Holdings.{holding_rank, content_at, holding_of, IsHeld, IsSmall, HaveDistinctRanks, AreGathered}
use Rattle.rule_index.proofs.Firsts.{IsFirstOf, FirstOf}
use Rattle.rule_index.specs.Rows.{rank, IsIndexOf}
use Rattle.rule_index.proofs.Places.{first_is_place, place_has_number}

-- if rows are sorted, their classes never decrease
classes_rise : (classes : List ℕ) (places : List Row) (i k : ℕ) (d : Row) → IsIndexOf classes places → i ≤ k → k < length places
    → (slice_index_or places i d).class ≤ (slice_index_or places k d).class
classes_rise classes places i k d index up within =
    let rise : rank (slice_index_or places i d) ≤ rank (slice_index_or places k d) = index.sorted i k d up within in
    let first : (slice_index_or places i d).number < length classes = index.numbers i d (omega arith) in
    let second : (slice_index_or places k d).number < length classes = index.numbers k d within in
    omega (arith, rise, first, second, index.few)

-- the first row of a class has the first number that has the class
first_of_class : (classes : List ℕ) (places : List Row) (i : ℕ) (row : Row) → IsIndexOf classes places → i < length places → slice_index_or places i row ≡ row
    → ((k : ℕ) → k < i → (slice_index_or places k row).class ≢ row.class) → IsFirstOf row.class classes 0 (Some row.number)
first_of_class classes places i row index within here others = FirstOf row.number (omega arith) number met skipped
  where
    number : row.number < length classes
    number = subst (λ (r : Row). r.number < length classes) here (index.numbers i row within)

    met : slice_index_or classes row.number 0 ≡ row.class
    met = sym (subst (λ (r : Row). r.class ≡ slice_index_or classes r.number 0) here (index.right i row within))

    skipped : (n : ℕ) → 0 ≤ n → n < row.number → slice_index_or classes n 0 ≢ row.class
    skipped n up less is =
        let has = index.complete n (omega (arith, number)) in
        let class_is : (slice_index_or places has.place row).class ≡ row.class = has.class row ∙ is in
        elim (cases_lt has.place i) [
          | inl early ↦ absurd (others has.place early class_is)
          | inr late ↦
              let rise : rank (slice_index_or places i row) ≤ rank (slice_index_or places has.place row) = index.sorted i has.place row late has.within in
              let low : rank row ≤ rank (slice_index_or places has.place row) = subst (λ (r : Row). rank r ≤ rank (slice_index_or places has.place row)) here rise in
              absurd (omega (arith, low, class_is, has.number row, less))
        ]

-- some row is of an item and a store
record HasRowOf (rows : List Holding) (item store : ℕ) : Type 0 where
  row : Holding
  among : Contains rows row
  of_item : row.item ≡ item
  of_store : row.store ≡ store

still : (rows : List Holding) (more : Holding) (item store : ℕ) → HasRowOf rows item store → HasRowOf (rows ++ more ∷ []) item store
still rows more item store has = record {
  row = has.row;
  among = Contains-append_left rows (more ∷ []) has.row has.among;
  of_item = has.of_item;
  of_store = has.of_store;
}

-- the first `count` rows of a store's elements are passed, and the last class that was put is the greatest of them: the rows that were
-- put include one for each item among them, and no two have the same rank
pub record ArePassed (stores : List (List Element)) (store : ℕ) (places : List Row) (rows : List Holding) (count last : ℕ) : Type 0 where
  small : All IsSmall rows
  right : All (IsHeld stores) rows
  once : HaveDistinctRanks rows
  within : All (λ row. row.store < store + 1) rows
  of_store : All (λ row. row.store ≡ store → row.item ≤ last) rows
  complete : (x : Item) (other place : ℕ) → other < store → place_of x (content_at stores other) ≡ Some place → Contains rows (holding_of x other place)
  pub low : (k : ℕ) (d : Row) → k < count → k < length places → (slice_index_or places k d).class ≤ last
  pub high : (k : ℕ) (d : Row) → count ≤ k → k < length places → last ≤ (slice_index_or places k d).class
  put : (k : ℕ) (d : Row) → k < count → k < length places → 0 < (slice_index_or places k d).class → HasRowOf rows (slice_index_or places k d).class store
  put_last : 0 < last → HasRowOf rows last store

-- at first, no row is passed
pub none_passed : (stores : List (List Element)) (store : ℕ) (places : List Row) (rows : List Holding) → AreGathered stores rows store → ArePassed stores store places rows 0 0
none_passed stores store places rows gathered = record {
  small = gathered.small;
  right = gathered.right;
  once = gathered.once;
  within = λ k d there. (let earlier : (slice_index_or rows k d).store < store = gathered.within k d there in omega (arith, earlier));
  of_store = λ k d there same. (let earlier : (slice_index_or rows k d).store < store = gathered.within k d there in absurd (omega (arith, earlier, same)));
  complete = gathered.complete;
  low = λ k d below within. absurd (omega arith);
  high = λ k d up within. omega arith;
  put = λ k d below within some. absurd (omega arith);
  put_last = λ some. absurd (omega arith);
}

-- one more row is passed
module _ (stores : List (List Element)) (store : ℕ) (places : List Row) (rows : List Holding) (count last : ℕ) (row : Row)
    (index : IsIndexOf (map element_number (content_at stores store)) places) (within : count < length places)
    (at : (d : Row) → slice_index_or places count d ≡ row) (passed : ArePassed stores store places rows count last) where
  class_at : (k : ℕ) (d : Row) → k ≡ count → (slice_index_or places k d).class ≡ row.class
  class_at k d is = ap (λ (n : ℕ). (slice_index_or places n d).class) is ∙ ap (λ (r : Row). r.class) (at d)

  -- if the row has the class of the row before it, no row is put
  pub same_passed : row.class ≡ last → ArePassed stores store places rows (count + 1) last
  same_passed same = record {
    small = passed.small;
    right = passed.right;
    once = passed.once;
    within = passed.within;
    of_store = passed.of_store;
    complete = passed.complete;
    low = λ k d below there. elim (cases_lt k count) [
      | inl early ↦ passed.low k d early there
      | inr late ↦ omega (arith, class_at k d (omega arith), same)
    ];
    high = λ k d up there. passed.high k d (omega arith) there;
    put = λ k d below there some. elim (cases_lt k count) [
      | inl early ↦ passed.put k d early there some
      | inr late ↦
          let is : last ≡ (slice_index_or places k d).class = sym (class_at k d (omega arith) ∙ same) in
          subst (λ (class : ℕ). HasRowOf rows class store) is (passed.put_last (subst (λ (class : ℕ). 0 < class) (sym is) some))
    ];
    put_last = passed.put_last;
  }

  -- if the row is the first of its class, a row is put
  module _ (first : row.class ≢ last) (few : store < 65536) (small : row.number < 65536) where
    abbrev more : Holding
    more = record { item = row.class; store = store; place = row.number }

    above : last < row.class
    above = let least : last ≤ (slice_index_or places count row).class = passed.high count row (omega arith) within in omega (arith, least, class_at count row refl, first)

    held : IsHeld stores more
    held x same =
        let numbers : List ℕ = map element_number (content_at stores store) in
        let others : (k : ℕ) → k < count → (slice_index_or places k row).class ≢ row.class
        = λ k early is. (let low : (slice_index_or places k row).class ≤ last = passed.low k row early (omega arith) in absurd (omega (arith, low, is, above))) in
        let least : IsFirstOf row.class numbers 0 (Some row.number) = first_of_class numbers places count row index within (at row) others in
        sym (first_is_place x (content_at stores store) (Some row.number) (subst (λ (class : ℕ). IsFirstOf class numbers 0 (Some row.number)) (sym same) least))

    apart : (k : ℕ) (d : Holding) → k < length rows → holding_rank (slice_index_or rows k d) ≢ holding_rank more
    apart k d there same =
        let one : Holding = slice_index_or rows k d in
        let small_one : IsSmall one = passed.small k d there in
        let ranks : (one.item * 65536 + one.store) * 65536 + one.place ≡ (row.class * 65536 + store) * 65536 + row.number = same in
        let here : one.store ≡ store = omega (arith, ranks, small_one.0, small_one.1, few, small) in
        let is : one.item ≡ row.class = omega (arith, ranks, here, small_one.1, small) in
        let low : one.item ≤ last = passed.of_store k d there here in
        omega (arith, low, is, above)

    new_row : HasRowOf (rows ++ more ∷ []) row.class store
    new_row = record { row = more; among = Contains-push rows more; of_item = refl; of_store = refl }

    pub first_passed : ArePassed stores store places (rows ++ more ∷ []) (count + 1) row.class
    first_passed = record {
      small = All-push IsSmall rows more passed.small (few, small);
      right = All-push (IsHeld stores) rows more passed.right held;
      once = all_pairs_push (λ a b. holding_rank a ≢ holding_rank b) rows more passed.once apart;
      within = (let on : store < store + 1 = omega arith in All-push (λ (r : Holding). r.store < store + 1) rows more passed.within on);
      of_store = All-push (λ (r : Holding). r.store ≡ store → r.item ≤ row.class) rows more
          (λ k d there same. (let low : (slice_index_or rows k d).item ≤ last = passed.of_store k d there same in omega (arith, low, above)))
          (λ same. (let most : row.class ≤ row.class = omega arith in most));
      complete = λ x other place below is. Contains-append_left rows (more ∷ []) (holding_of x other place) (passed.complete x other place below is);
      low = λ k d below there. elim (cases_lt k count) [
        | inl early ↦ (let low : (slice_index_or places k d).class ≤ last = passed.low k d early there in omega (arith, low, above))
        | inr late ↦ omega (arith, class_at k d (omega arith))
      ];
      high = λ k d up there.
          (let rise : (slice_index_or places count d).class ≤ (slice_index_or places k d).class = classes_rise _ places count k d index (omega arith) there in
          omega (arith, rise, class_at count d refl));
      put = λ k d below there some. elim (cases_lt k count) [
        | inl early ↦ still rows more _ store (passed.put k d early there some)
        | inr late ↦ subst (λ (class : ℕ). HasRowOf (rows ++ more ∷ []) class store) (sym (class_at k d (omega arith))) new_row
      ];
      put_last = λ some. new_row;
    }

item_above : (x : Item) → 0 < item_number x
item_above (item.Char c) = omega arith
item_above (item.Mark m) = omega arith

-- if some row is of an item and of a store that has it, the rows contain the row of the item's first place in the store
row_known : (stores : List (List Element)) (rows : List Holding) (x : Item) (store place : ℕ) → All (IsHeld stores) rows → place_of x (content_at stores store) ≡ Some place
    → HasRowOf rows (item_number x) store → Contains rows (holding_of x store place)
row_known stores rows x store place right is has =
    let held : place_of x (content_at stores has.row.store) ≡ Some has.row.place = All-contains (IsHeld stores) rows has.row right has.among x (sym has.of_item) in
    let said : place_of x (content_at stores store) ≡ Some has.row.place = subst (λ (s : ℕ). place_of x (content_at stores s) ≡ Some has.row.place) has.of_store held in
    let both : Some has.row.place ≡ Some place = sym said ∙ is in
    let place_is : has.row.place ≡ place = cc in
    let same : has.row ≡ holding_of x store place = λ i. record { item = has.of_item i; store = has.of_store i; place = place_is i } in
    subst (Contains rows) same has.among

-- if all rows of its elements are passed, the store has its rows
pub all_passed : (stores : List (List Element)) (store last : ℕ) (places : List Row) (rows : List Holding) → IsIndexOf (map element_number (content_at stores store)) places
    → ArePassed stores store places rows (length places) last → AreGathered stores rows (store + 1)
all_passed stores store last places rows index passed = record {
  small = passed.small;
  right = passed.right;
  once = passed.once;
  within = passed.within;
  complete = λ x other place below is. elim (cases_lt other store) [
    | inl early ↦ passed.complete x other place early is
    | inr late ↦
        let this : other ≡ store = omega arith in
        let here : place_of x (content_at stores store) ≡ Some place = subst (λ (s : ℕ). place_of x (content_at stores s) ≡ Some place) this is in
        subst (λ (s : ℕ). Contains rows (holding_of x s place)) (sym this) (row_known stores rows x store place passed.right here (put_for x place here))
  ];
}
  where
    put_for : (x : Item) (place : ℕ) → place_of x (content_at stores store) ≡ Some place → HasRowOf rows (item_number x) store
    put_for x place is =
        let at = place_has_number x (content_at stores store) place is in
        let has = index.complete place at.0 in
        elim (slice_get_cases places has.place).1 [
          | inl found ↦
              let class_is : (slice_index_or places has.place found.0).class ≡ item_number x = has.class found.0 ∙ at.1 in
              let some : 0 < (slice_index_or places has.place found.0).class = omega (arith, class_is, item_above x) in
              subst (λ (class : ℕ). HasRowOf rows class store) class_is (passed.put has.place found.0 has.within has.within some)
          | inr past ↦ absurd (omega (arith, has.within, past.0))
        ]
