-- Removing duplicates a second time does not change a list.
use Rattle.std.proofs.Common.{◌≡◌, Bool, true, false, List, [], ◌∷◌, ◌++◌, refl, sym, ap, ◌∙◌, if◌then◌else◌, append_assoc, append-nil}
use Rattle.std.specs.List.{list_any}
use Rattle.rule_model.specs.Tab.{distinct_onto}

-- each item differs from all items before it
abbrev IsFresh : {X : Type 0} → (X → X → Bool) → List X → List X → Type 0
IsFresh same seen [] = Unit {0}
IsFresh same seen (x ∷ xs) = (list_any (λ y. same y x) seen ≡ false) × IsFresh same (seen ++ x ∷ []) xs

module _ {X : Type 0} (same : X → X → Bool) where
  fresh_stays : (seen xs : List X) → IsFresh same seen xs → distinct_onto same seen xs ≡ seen ++ xs
  fresh_stays seen [] h = sym (append-nil seen)
  fresh_stays seen (x ∷ xs) h =
      (λ i. distinct_onto same (if h.0 i then seen else seen ++ x ∷ []) xs)
      ∙ (fresh_stays (seen ++ x ∷ []) xs h.1 ∙ append_assoc seen (x ∷ []) xs)

  -- the items that are appended after those seen
  record Put (seen xs : List X) : Type 0 where
    items : List X
    fresh : IsFresh same seen items
    is : distinct_onto same seen xs ≡ seen ++ items

  put_next : (b : Bool) (seen : List X) (x : X) (xs : List X) → list_any (λ y. same y x) seen ≡ b → Put (if b then seen else seen ++ x ∷ []) xs → Put seen (x ∷ xs)
  put_next true seen x xs e h = record { items = h.items; fresh = h.fresh; is = (λ i. distinct_onto same (if e i then seen else seen ++ x ∷ []) xs) ∙ h.is }
  put_next false seen x xs e h =
      record {
        items = x ∷ h.items;
        fresh = (e, h.fresh);
        is = (λ i. distinct_onto same (if e i then seen else seen ++ x ∷ []) xs) ∙ (h.is ∙ append_assoc seen (x ∷ []) h.items);
      }

  put_behind : (seen xs : List X) → Put seen xs
  put_behind seen [] = record { items = []; fresh = tt; is = sym (append-nil seen) }
  put_behind seen (x ∷ xs) = put_next (list_any (λ y. same y x) seen) seen x xs refl (put_behind (if list_any (λ y. same y x) seen then seen else seen ++ x ∷ []) xs)

  -- a list without duplicates is unchanged
  pub distinct_again : (xs : List X) → distinct_onto same [] (distinct_onto same [] xs) ≡ distinct_onto same [] xs
  distinct_again xs =
      let h = put_behind [] xs in
      ap (distinct_onto same []) h.is ∙ (fresh_stays [] h.items h.fresh ∙ sym h.is)
