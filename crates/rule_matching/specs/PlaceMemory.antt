-- The memory of the items before the caret: the numbers of stores that it has space for, and that nothing is known yet.
use Rattle.std.specs.Prelude.{◌≡◌, ℕ, false, None}
use Rattle.rule_matching.specs.declared.place_memory.PlaceMemory.{PlaceMemory}
use Rattle.rule_matching.specs.KnownPlaces.{known_place, room}
use Rattle.rule_matching.specs.StoreMarks.{is_known, marked_len}

-- the number of stores with space for known places, and the number of stores with marks
abbrev pub rooms : PlaceMemory → ℕ × ℕ
rooms memory = (room memory.found, marked_len memory.marks)

-- no place is known, and for no item is it known which stores contain it
pub record KnowsNothing (memory : PlaceMemory) : Type 0 where
  pub found : (store distance : ℕ) → known_place memory.found store distance ≡ None
  pub marks : (distance : ℕ) → is_known memory.marks distance ≡ false
