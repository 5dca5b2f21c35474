-- What is known about the places of items remains right, and what a context catches item by item.
use Rattle.std.proofs.Common.{◌≡◌, ℕ, zero, suc, ◌+◌, ◌-◌, ◌<◌, ◌≤◌, ◌⊎◌, Bool, true, false, List, [], ◌∷◌, ◌++◌, length, drop, get_or, Option, Some, None, refl, sym, ◌∙◌, ap, subst, inl, inr, arith}
use Rattle.std.specs.Prelude.{if◌then◌else◌, option_and_then, slice_get}
use Rattle.std.proofs.lemmas.Bool.{le-ltb, lt-ltb}
use Rattle.std.proofs.lemmas.List.{drop_more}
use Rattle.std.proofs.lemmas.Option.{get_or_from_slice_get}
use Rattle.kmn_base.specs.declared.items.Item.{Item}
use Rattle.rule_model.specs.declared.event_state.Catch.{Catch}
use Rattle.rule_model.specs.Keyboard.{Numbered, Pattern}
use Rattle.rule_model.specs.Match.{Content, takes_item, catch_item, catches_from, matches, nothing_caught, place_for, place_of}
use Rattle.rule_matching.specs.declared.place_memory.PlaceMemory.{PlaceMemory}
use Rattle.rule_matching.specs.KnownPlaces.{known_place}
use Rattle.rule_matching.specs.Matching.{catch_of, item_before, place_before, IsMarkedRight, RemembersRight}
use Rattle.rule_matching.specs.MatchState.{MatchStateValue, content_at}

-- if a right place is remembered, what is known remains right
pub still_right : (moment : MatchStateValue) (left : List Item) (store distance : ℕ) (place : Option ℕ) (before after : PlaceMemory)
    → ((s d : ℕ) (p : Option ℕ) → known_place after.found s d ≡ Some p → (known_place before.found s d ≡ Some p) ⊎ ((s ≡ store) × (d ≡ distance) × (p ≡ place)))
    → before.marks ≡ after.marks
    → place ≡ place_before (content_at moment) left store distance → RemembersRight moment left before → RemembersRight moment left after
still_right moment left store distance place before after only same is right =
    record {
      right = λ s d p known. elim (only s d p known) [
        | inl was ↦ right.right s d p was
        | inr this ↦ this.2 ∙ (is ∙ (λ i. place_before (content_at moment) left (sym this.0 i) (sym this.1 i)))
      ];
      marks = subst (IsMarkedRight moment.tables left) same right.marks;
    }

-- if a distance is below the length of the list, there is an item at this distance; if it is not, there is none
pub item_within : (left : List Item) (distance : ℕ) → distance < length left → item_before left distance ≡ slice_get left (length left - (distance + 1))
item_within left distance within =
    ap (λ (b : Bool). if b then slice_get left (length left - (distance + 1)) else None) (lt-ltb distance (length left) within)

pub item_beyond : (left : List Item) (distance : ℕ) → length left ≤ distance → item_before left distance ≡ None
item_beyond left distance beyond =
    ap (λ (b : Bool). if b then slice_get left (length left - (distance + 1)) else None) (le-ltb distance (length left) beyond)

-- if a distance is not below the length of the list, no store has a place for an item at this distance
pub place_beyond : (content : Content) (left : List Item) (store distance : ℕ) → length left ≤ distance → None ≡ place_before content left store distance
place_beyond content left store distance beyond =
    sym (ap (option_and_then (λ (item : Item). place_of item (content (Numbered store)))) (item_beyond left distance beyond))

-- if a place is below the length of a list, the list has an element there
there : {X : Type 0} (xs : List X) (n : ℕ) → n < length xs → (x : X) × (slice_get xs n ≡ Some x)
there [] n within = absurd (omega arith)
there (x ∷ xs) zero within = (x, refl)
there (x ∷ xs) (suc n) within = there xs n (omega arith)

-- if a distance is below the length of the list, there is an item at this distance
pub item_there : (left : List Item) (distance : ℕ) → distance < length left → (x : Item) × (item_before left distance ≡ Some x)
item_there left distance within =
    let found = there left (length left - (distance + 1)) (omega (arith, within)) in
    (found.0, item_within left distance within ∙ found.1)

-- the last `distance + 1` items are the item at the distance, followed by the last `distance` items
one_ahead : (left : List Item) (distance : ℕ) (item : Item) → distance < length left → item_before left distance ≡ Some item
    → drop (length left - (distance + 1)) left ≡ item ∷ drop (length left - distance) left
one_ahead left distance item within given =
    let is : slice_get left (length left - (distance + 1)) ≡ Some item = sym (item_within left distance within) ∙ given in
    let inside : length left - (distance + 1) < length left = omega (arith, within) in
    let here : get_or left (length left - (distance + 1)) item ≡ item = get_or_from_slice_get left (length left - (distance + 1)) item item is in
    let behind : (length left - (distance + 1)) + 1 ≡ length left - distance = omega (arith, within) in
    drop_more left (length left - (distance + 1)) item inside ∙ (λ i. here i ∷ drop (behind i) left)

-- if some of the last items are left after the last pattern, nothing is caught
pub some_ahead : (content : Content) (seen : List Catch) (left : List Item) (count : ℕ) → 0 < count → count ≤ length left
    → catches_from content seen [] (drop (length left - count) left) ≡ None
some_ahead content seen left count some few =
    let inside : length left - count < length left = omega (arith, some, few) in
    let found = there left (length left - count) inside in
    ap (catches_from content seen []) (drop_more left (length left - count) found.0 inside)

-- if a pattern catches an item, the rest is caught after it; if it does not, nothing is caught
if_caught : (fits : Bool) (one catch : Catch) (rest : Catch → Option (List Catch)) → Some catch ≡ (if fits then Some one else None)
    → (if fits then rest one else None) ≡ rest catch
if_caught true one catch rest is = let same : one ≡ catch = cc in ap rest same
if_caught false one catch rest is = absurd (cc)

if_uncaught : (fits : Bool) (one : Catch) (rest : Catch → Option (List Catch)) → None ≡ (if fits then Some one else None)
    → (if fits then rest one else None) ≡ None
if_uncaught true one rest is = absurd (cc)
if_uncaught false one rest is = refl

module _ (content : Content) (seen : List Catch) (pattern : Pattern) (patterns : List Pattern) (left : List Item) (takes : takes_item pattern ≡ true) where
  abbrev rest : Catch → List Item → Option (List Catch)
  rest catch text = catches_from content (seen ++ catch ∷ []) patterns text

  abbrev one : Item → Catch
  one item = record { item = Some item; place = place_for content pattern item }

  -- if the first pattern takes an item, it takes the first of the last items
  first : (distance : ℕ) (item : Item) → distance < length left → item_before left distance ≡ Some item
      → catches_from content seen (pattern ∷ patterns) (drop (length left - (distance + 1)) left)
      ≡ (if matches content seen pattern item then rest (one item) (drop (length left - distance) left) else None)
  first distance item within is =
      ap (catches_from content seen (pattern ∷ patterns)) (one_ahead left distance item within is)
      ∙ (λ i. if takes i then catch_item content seen pattern rest (item ∷ drop (length left - distance) left)
      else rest nothing_caught (item ∷ drop (length left - distance) left))

  -- if the first pattern catches the first of the last items, the other patterns catch the items after it
  pub caught_ahead : (distance : ℕ) (catch : Catch) → distance < length left → Some catch ≡ option_and_then (catch_of content seen pattern) (item_before left distance)
      → catches_from content seen (pattern ∷ patterns) (drop (length left - (distance + 1)) left) ≡ catches_from content (seen ++ catch ∷ []) patterns (drop (length left - distance) left)
  caught_ahead distance catch within is =
      let found = there left (length left - (distance + 1)) (omega (arith, within)) in
      let here : item_before left distance ≡ Some found.0 = item_within left distance within ∙ found.1 in
      let caught : Some catch ≡ catch_of content seen pattern found.0 = is ∙ ap (option_and_then (catch_of content seen pattern)) here in
      first distance found.0 within here
      ∙ if_caught (matches content seen pattern found.0) (one found.0) catch (λ c. rest c (drop (length left - distance) left)) caught

  -- if the first pattern does not catch the first of the last items, nothing is caught
  pub uncaught_ahead : (distance : ℕ) → distance < length left → None ≡ option_and_then (catch_of content seen pattern) (item_before left distance)
      → catches_from content seen (pattern ∷ patterns) (drop (length left - (distance + 1)) left) ≡ None
  uncaught_ahead distance within is =
      let found = there left (length left - (distance + 1)) (omega (arith, within)) in
      let here : item_before left distance ≡ Some found.0 = item_within left distance within ∙ found.1 in
      let uncaught : None ≡ catch_of content seen pattern found.0 = is ∙ ap (option_and_then (catch_of content seen pattern)) here in
      first distance found.0 within here
      ∙ if_uncaught (matches content seen pattern found.0) (one found.0) (λ c. rest c (drop (length left - distance) left)) uncaught
