-- What is known about the items of a window: for a store and an item's distance from the caret, the first place of that item in the
-- content of the store.
use Rattle.std.specs.Prelude.{◌≡◌, ℕ, zero, suc, ◌≤◌, List, length, Option, Some, None, slice_get, eqb, ltb, cond}
use Rattle.kmn_base.specs.declared.limits.TheConstants.{STORE_ELEMENTS}
use Rattle.rule_matching.specs.declared.known_places.StorePlaces.{StorePlaces}

-- what is remembered about each store, by its number, and the number of this choice
pub record Remembered : Type 0 where
  pub choice : ℕ
  pub stores : List StorePlaces

-- what a cell means: nothing is known, the item has no place, or its place
abbrev pub said : ℕ → Option (Option ℕ)
said zero = None
said (suc zero) = Some None
said (suc (suc place)) = Some (Some place)

-- what an optional cell means
abbrev pub said_by : Option ℕ → Option (Option ℕ)
said_by None = None
said_by (Some cell) = said cell

-- what the places of a store state about a distance at a choice: nothing if the store was last written at another choice
abbrev pub known_of : ℕ → Option StorePlaces → ℕ → Option (Option ℕ)
known_of choice None distance = None
known_of choice (Some places) distance = cond (eqb places.asked choice) (said_by (slice_get places.cells distance)) None

-- what is known about the place in a store of the item at a distance from the caret: nothing, that it has none, or its place
abbrev pub known_place : Remembered → ℕ → ℕ → Option (Option ℕ)
known_place memory store distance = known_of memory.choice (slice_get memory.stores store) distance

-- the number of stores with space for known places
abbrev pub room : Remembered → ℕ
room memory = length memory.stores

-- what can be remembered about an optional place: its absence, or a place that a store can have
abbrev pub memorable : Option ℕ → Option (Option ℕ)
memorable None = Some None
memorable (Some place) = cond (ltb place STORE_ELEMENTS) (Some (Some place)) None

-- each cell means that nothing is known
abbrev pub IsBlank : StorePlaces → Type 0
IsBlank places = (distance : ℕ) → said_by (slice_get places.cells distance) ≡ None

-- no store was last written at a later choice
abbrev pub AreAskedUntil : ℕ → List StorePlaces → Type 0
AreAskedUntil choice stores = (n : ℕ) (places : StorePlaces) → slice_get stores n ≡ Some places → places.asked ≤ choice
