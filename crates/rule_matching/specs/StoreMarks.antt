-- The stores that contain the items before the caret, by the distance of the item from the caret.
use Rattle.std.specs.Prelude.{◌≡◌, ℕ, ◌≤◌, Bool, true, false, ◌&&◌, List, length, Option, Some, None, slice_get, nat_eq}
use Rattle.std.specs.List.{list_any}
use Rattle.std.specs.Int.{bit_at}
use Rattle.rule_index.specs.declared.holding.Holding.{Holding}
use Rattle.rule_matching.specs.declared.store_marks.Marks.{Marks}

-- the number of this choice, the distances for which the stores of the item are known, and the marks of each store
pub record Marking : Type 0 where
  pub choice : ℕ
  pub known : ℕ
  pub marks : List Marks

-- whether a word has the bit of a distance
abbrev pub has_distance : ℕ → ℕ → Bool
has_distance distances distance = nat_eq (bit_at distances distance) 1

-- whether optional marks belong to a choice and have the bit of a distance
abbrev pub is_marked_by : ℕ → Option Marks → ℕ → Bool
is_marked_by choice None distance = false
is_marked_by choice (Some marks) distance = nat_eq marks.choice choice && has_distance marks.distances distance

-- whether a store among these marks is marked at a choice for a distance
abbrev pub is_marked_among : ℕ → List Marks → ℕ → ℕ → Bool
is_marked_among choice marks store distance = is_marked_by choice (slice_get marks store) distance

-- whether it is known which stores contain the item at a distance
abbrev pub is_known : Marking → ℕ → Bool
is_known marking distance = has_distance marking.known distance

-- whether a store is marked as containing the item at a distance
abbrev pub is_marked : Marking → ℕ → ℕ → Bool
is_marked marking store distance = is_marked_among marking.choice marking.marks store distance

-- the number of stores with marks
abbrev pub marked_len : Marking → ℕ
marked_len marking = length marking.marks

-- whether a store is among the holders of an item
abbrev pub has_holder : List Holding → ℕ → Bool
has_holder holders store = list_any (λ row. nat_eq row.store store) holders

-- no marks belong to a later choice
abbrev pub AreMarkedUntil : ℕ → List Marks → Type 0
AreMarkedUntil choice marks = (n : ℕ) (m : Marks) → slice_get marks n ≡ Some m → m.choice ≤ choice

-- no marks belong to a later choice, and a store is marked at this choice only for distances whose stores are known
pub record IsMarking (marking : Marking) : Type 0 where
  pub until : AreMarkedUntil marking.choice marking.marks
  pub known : (store distance : ℕ) → is_marked marking store distance ≡ true → is_known marking distance ≡ true
