-- The marked stores are the stores that contain an item.
use Rattle.std.proofs.Common.{◌≡◌, ◌≢◌, ◌⊎◌, ℕ, ◌<◌, true, false, List, [], ◌∷◌, All, Option, Some, None, nat_eq, refl, sym, ap, subst, ◌∙◌, inl, inr}
use Rattle.std.specs.Prelude.{is_some, option_and_then}
use Rattle.std.proofs.lemmas.Bool.{cases_Bool, eqb-true, eq-eqb}
use Rattle.std.proofs.lemmas.List.Elements.{All-head, All-tail}
use Rattle.std.proofs.lemmas.List.Folds.{list_any-from_Any}
use Rattle.kmn_base.specs.declared.items.Element.{Element}
use Rattle.kmn_base.specs.declared.items.Item.{Item}
use Rattle.rule_model.specs.declared.tables.Tables.{Tables}
use Rattle.rule_model.specs.Keyboard.{Numbered}
use Rattle.rule_model.specs.Match.{Content, place_of}
use Rattle.rule_model.specs.Content.{elements_at}
use Rattle.rule_model.specs.Tab.{tab}
use Rattle.rule_index.specs.declared.holding.Holding.{Holding}
use Rattle.rule_index.specs.Holdings.{AreHoldersOf}
use Rattle.rule_matching.specs.Matching.{item_before, place_before, place_in_stated, IsMarkedRight}
use Rattle.rule_matching.specs.StoreMarks.{Marking, has_holder, is_known, is_marked, marked_len}
use Rattle.rule_matching.proofs.Remembering.{same_or_other}

-- an optional place is some place or none
some_or_none : (place : Option ℕ) → ((n : ℕ) × (place ≡ Some n)) ⊎ (place ≡ None)
some_or_none None = inr refl
some_or_none (Some n) = inl (n, refl)

-- if a store is among the holders of an item, it contains the item
holder_has : (x : Item) (contents : ℕ → List Element) (rows : List Holding) (store : ℕ) → All (λ row. place_of x (contents row.store) ≡ Some row.place) rows
    → has_holder rows store ≡ true → is_some (place_of x (contents store)) ≡ true
holder_has x contents [] store each has = absurd (cc)
holder_has x contents (row ∷ rows) store each has =
    elim (cases_Bool (nat_eq row.store store)) [
      | inl same ↦
          let here : place_of x (contents row.store) ≡ Some row.place = All-head (λ (r : Holding). place_of x (contents r.store) ≡ Some r.place) row rows each in
          ap (λ (n : ℕ). is_some (place_of x (contents n))) (sym (eqb-true row.store store same)) ∙ ap (λ (p : Option ℕ). is_some p) here
      | inr other ↦
          holder_has x contents rows store (All-tail (λ (r : Holding). place_of x (contents r.store) ≡ Some r.place) row rows each)
          (let skipped : has_holder (row ∷ rows) store ≡ has_holder rows store = cc in sym skipped ∙ has)
    ]

-- if a store is not among the holders of an item, it does not contain the item
has_none : (x : Item) (contents : ℕ → List Element) (rows : List Holding) (store : ℕ) → AreHoldersOf x contents rows
    → has_holder rows store ≡ false → is_some (place_of x (contents store)) ≡ false
has_none x contents rows store holders none = elim (some_or_none (place_of x (contents store))) [
  | inl found ↦
      let row = holders.all store found.0 found.1 in
      let has : has_holder rows store ≡ true
      = list_any-from_Any (λ (r : Holding). nat_eq r.store store) rows (row.0, row.1, row.2, row.3, eq-eqb row.1.store store row.4) in
      absurd (let both : true ≡ false = sym has ∙ none in cc)
  | inr absent ↦ ap (λ (p : Option ℕ). is_some p) absent
]

-- a store is among the holders of an item exactly where it contains the item
pub holders_are_those : (x : Item) (contents : ℕ → List Element) (rows : List Holding) (store : ℕ) → AreHoldersOf x contents rows
    → has_holder rows store ≡ is_some (place_of x (contents store))
holders_are_those x contents rows store holders = elim (cases_Bool (has_holder rows store)) [
  | inl has ↦ has ∙ sym (holder_has x contents rows store holders.each has)
  | inr none ↦ none ∙ sym (has_none x contents rows store holders none)
]

-- the elements that the stores of tables are defined with
abbrev stated_in : Tables → ℕ → List Element
stated_in tables store = elements_at (tab tables).stores (Some store)

-- if the marks are right and the stores that contain an item are newly marked, the marks are right afterwards
pub marked_right : (tables : Tables) (left : List Item) (distance : ℕ) (item : Item) (holders : List Holding) (before after : Marking)
    → Some item ≡ item_before left distance → AreHoldersOf item (stated_in tables) holders
    → ((d : ℕ) → d ≢ distance → is_known after d ≡ is_known before d)
    → ((s : ℕ) → s < marked_len before → is_marked after s distance ≡ has_holder holders s)
    → ((s d : ℕ) → d ≢ distance → is_marked after s d ≡ is_marked before s d)
    → marked_len after ≡ marked_len before
    → IsMarkedRight tables left before → IsMarkedRight tables left after
marked_right tables left distance item holders before after is are known_others here others room right =
    record {
      right = λ s d known within.
          let inside : s < marked_len before = subst (λ (n : ℕ). s < n) room within in
          elim (same_or_other d distance) [
            | inl this ↦
                ap (is_marked after s) this ∙ here s inside ∙ holders_are_those item (stated_in tables) holders s are
                ∙ ap (λ (x : Option Item). is_some (option_and_then (λ item. place_of item (stated_in tables s)) x)) is
                ∙ ap (λ (n : ℕ). is_some (place_in_stated tables left s n)) (sym this)
            | inr other ↦ others s d other ∙ right.right s d (sym (known_others d other) ∙ known) inside
          ];
    }

-- an item is in the content of a store exactly where it is in the store that is held for it
pub in_what_is_held : (content : Content) (tables : Tables) (left : List Item) (store held distance : ℕ) → content (Numbered store) ≡ elements_at (tab tables).stores (Some held)
    → is_some (place_in_stated tables left held distance) ≡ is_some (place_before content left store distance)
in_what_is_held content tables left store held distance same =
    ap (λ (elements : List Element). is_some (option_and_then (λ item. place_of item elements) (item_before left distance))) (sym same)
