-- What a record catches, from what the items of its context take, item by item.
use Rattle.std.proofs.Common.{◌≡◌, ℕ, zero, suc, ◌+◌, ◌-◌, ◌<◌, ◌≤◌, Bool, true, false, List, [], ◌∷◌, ◌++◌, length, drop, get_or, map, Option, Some, None, refl, sym, ◌∙◌, ap, inl, inr, arith}
use Rattle.std.specs.Prelude.{if◌then◌else◌, is_some, nat_eq, not, option_and_then, option_map}
use Rattle.std.proofs.lemmas.Bool.{cases_Bool, eqb-true, eqb-false}
use Rattle.std.proofs.lemmas.List.{drop_all, drop_more, map-append}
use Rattle.std.proofs.lemmas.Option.{slice_get-map}
use Rattle.kmn_base.specs.declared.items.Item.{Item}
use Rattle.rule_model.specs.declared.event_state.Catch.{Catch}
use Rattle.rule_model.specs.declared.tables.Store.{Store}
use Rattle.rule_model.specs.Keyboard.{IsAny, IsNotAny, Numbered, Pattern}
use Rattle.rule_model.specs.Match.{Content, catch_at, place_caught, place_of, takes_item}
use Rattle.kmx_parts.specs.declared.context_item.ContextItem.{ContextItem}
use Rattle.kmx_parts.specs.declared.context_item.ContextItem.TheVariants.{Char}
use Rattle.kmx_parts.specs.ContextItems.{pattern_of}
use Rattle.rule_matching.specs.declared.taken.TakenItem.{TakenItem}
use Rattle.rule_matching.specs.Matching.{allowed_catches, catch_of, caught_by_taken, item_before, item_meaning, place_before, taken_at}
use Rattle.rule_matching.proofs.AllowedContexts.{allowed_catches_none, allowed_with_item}
use Rattle.rule_matching.proofs.KnownPlaces.{caught_ahead, item_there, some_ahead, uncaught_ahead}
use Rattle.rule_model.proofs.PlainContexts.{takes_same}

module _ (content : Content) (left : List Item) where
  abbrev caught : TakenItem → Catch
  caught = caught_by_taken content left

  -- the catch at an offset is the catch from what was taken at the offset
  caught_at : (taken : List TakenItem) (offset : ℕ) → catch_at (map caught taken) offset ≡ option_map caught (taken_at taken offset)
  caught_at taken zero = refl
  caught_at taken (suc before) = slice_get-map caught taken before

  place_of_one : (one : Option TakenItem) → option_and_then (λ (catch : Catch). catch.place) (option_map caught one) ≡ option_and_then (λ (t : TakenItem). (caught t).place) one
  place_of_one None = refl
  place_of_one (Some one) = refl

  -- the place caught at an offset is the place of what was taken at the offset
  pub place_is_caught : (taken : List TakenItem) (offset : ℕ)
      → option_and_then (λ (t : TakenItem). (caught t).place) (taken_at taken offset) ≡ place_caught (map caught taken) offset
  place_is_caught taken offset =
      sym (ap (option_and_then (λ (catch : Catch). catch.place)) (caught_at taken offset) ∙ place_of_one (taken_at taken offset))

  taken_if : (b : Bool) (one : TakenItem) → option_map caught (if b then Some one else None) ≡ (if b then Some (caught one) else None)
  taken_if true one = refl
  taken_if false one = refl

  module _ (seen : List Catch) (store distance : ℕ) (b : Bool) (within : distance < length left) (is : b ≡ is_some (place_before content left store distance)) where
    abbrev place : Option Item → Option ℕ
    place given = option_and_then (λ (x : Item). place_of x (content (Numbered store))) given

    -- an `any` takes the item exactly where its store contains the item, together with the store
    pub any_is_taken : option_map caught (if b then Some (record { distance = distance; store = Some store }) else None)
        ≡ option_and_then (catch_of content seen (IsAny (Numbered store))) (item_before left distance)
    any_is_taken =
        let found = item_there left distance within in
        let whole : Option Item → Catch = λ (given : Option Item). record { item = given; place = place given } in
        taken_if b (record { distance = distance; store = Some store })
        ∙ (ap (λ (c : Bool). if c then Some (whole (item_before left distance)) else None) is
        ∙ (ap (λ (given : Option Item). if is_some (place given) then Some (whole given) else None) found.1
        ∙ sym (ap (option_and_then (catch_of content seen (IsAny (Numbered store)))) found.1)))

    -- a `notany` takes the item exactly where its store does not contain the item
    pub not_any_is_taken : option_map caught (if not b then Some (record { distance = distance; store = None }) else None)
        ≡ option_and_then (catch_of content seen (IsNotAny (Numbered store))) (item_before left distance)
    not_any_is_taken =
        let found = item_there left distance within in
        let whole : Option Item → Catch = λ (given : Option Item). record { item = given; place = None } in
        taken_if (not b) (record { distance = distance; store = None })
        ∙ (ap (λ (c : Bool). if not c then Some (whole (item_before left distance)) else None) is
        ∙ (ap (λ (given : Option Item). if not (is_some (place given)) then Some (whole given) else None) found.1
        ∙ sym (ap (option_and_then (catch_of content seen (IsNotAny (Numbered store)))) found.1)))

  module _ (whole : Bool) (stores : List Store) (context : List ContextItem) (index ahead : ℕ) (taken : List TakenItem) (all : Option (List Catch))
      (few : ahead ≤ length left)
      (same : allowed_catches content whole (map caught taken) (map (item_meaning stores) (drop index context)) (drop (length left - ahead) left) ≡ all) where
    abbrev here : Pattern
    here = item_meaning stores (get_or context index (Char 0))

    abbrev behind : List Pattern
    behind = map (item_meaning stores) (drop (index + 1) context)

    -- what the pattern catches from the next item
    abbrev next : Option Catch
    next = option_and_then (catch_of content (map caught taken) here) (item_before left (ahead - 1))

    -- the pattern and the patterns after it catch what the whole context catches
    from_here : index < length context → 0 < ahead → allowed_catches content whole (map caught taken) (here ∷ behind) (drop (length left - (ahead - 1 + 1)) left) ≡ all
    from_here within some =
        let one : ahead - 1 + 1 ≡ ahead = omega (arith, some) in
        ap (λ (n : ℕ). allowed_catches content whole (map caught taken) (here ∷ behind) (drop (length left - n) left)) one
        ∙ (ap (λ (items : List ContextItem). allowed_catches content whole (map caught taken) (map (item_meaning stores) items) (drop (length left - ahead) left))
        (sym (drop_more context index (Char 0) within))
        ∙ same)

    -- if the pattern takes the next item, the patterns after it catch the items after that
    pub one_is_taken : index < length context → 0 < ahead → true ≡ takes_item (item_meaning [] (get_or context index (Char 0)))
        → (one : TakenItem) (more : List TakenItem) → Some (caught one) ≡ next → more ≡ taken ++ one ∷ []
        → allowed_catches content whole (map caught more) behind (drop (length left - (ahead - 1)) left) ≡ all
    one_is_taken within some takes one more is grown =
        let item : takes_item here ≡ true = takes_same stores (pattern_of (get_or context index (Char 0))) ∙ sym takes in
        let inside : ahead - 1 < length left = omega (arith, some, few) in
        ap (λ (seen : List Catch). allowed_catches content whole seen behind (drop (length left - (ahead - 1)) left))
        (ap (map caught) grown ∙ map-append caught taken (one ∷ []))
        ∙ (sym (allowed_with_item content whole (map caught taken) here behind (drop (length left - (ahead - 1 + 1)) left) item (caught one) (drop (length left - (ahead - 1)) left)
        (caught_ahead content (map caught taken) here behind left item (ahead - 1) (caught one) inside is))
        ∙ from_here within some)

    -- if the pattern does not take the next item, nothing is caught
    pub none_is_taken : index < length context → 0 < ahead → true ≡ takes_item (item_meaning [] (get_or context index (Char 0))) → None ≡ next → None ≡ all
    none_is_taken within some takes is =
        let item : takes_item here ≡ true = takes_same stores (pattern_of (get_or context index (Char 0))) ∙ sym takes in
        let inside : ahead - 1 < length left = omega (arith, some, few) in
        sym (allowed_catches_none content whole (map caught taken) (here ∷ behind) (drop (length left - (ahead - 1 + 1)) left)
        (uncaught_ahead content (map caught taken) here behind left item (ahead - 1) inside is))
        ∙ from_here within some

    -- after the last pattern, everything is caught if no item is left, and nothing if an item is left
    pub all_is_taken : length context ≤ index → (if nat_eq ahead 0 then Some (map caught taken) else None) ≡ all
    all_is_taken beyond =
        let text : ℕ → List Item = λ (n : ℕ). drop (length left - n) left in
        let last : allowed_catches content whole (map caught taken) [] (text ahead) ≡ all
        = ap (λ (items : List ContextItem). allowed_catches content whole (map caught taken) (map (item_meaning stores) items) (text ahead)) (sym (drop_all index context beyond))
        ∙ same in
        elim (cases_Bool (nat_eq ahead 0)) [
          | inl ended ↦
              let none : ahead ≡ 0 = eqb-true ahead 0 ended in
              let empty : text ahead ≡ [] = ap text none ∙ drop_all (length left - 0) left (omega arith) in
              ap (λ (b : Bool). if b then Some (map caught taken) else None) ended
              ∙ (ap (allowed_catches content whole (map caught taken) []) (sym empty) ∙ last)
          | inr left_over ↦
              let more : 0 < ahead = (let other = eqb-false ahead 0 left_over in omega arith) in
              ap (λ (b : Bool). if b then Some (map caught taken) else None) left_over
              ∙ (sym (some_ahead content (map caught taken) left ahead more few) ∙ last)
        ]
