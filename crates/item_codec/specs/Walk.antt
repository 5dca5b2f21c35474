-- The results of reading the bytes of a string: its items, and the fault at the first position at which no item is spelled.
use Rattle.std.specs.Prelude.{◌≡◌, ℕ, zero, suc, ◌+◌, ◌*◌, ◌-◌, List, [], ◌∷◌, ◌++◌, length, Option, Some, None, Result, Ok, Err}
use Rattle.kmn_base.specs.declared.units.UnitItem.{UnitItem}
use Rattle.kmn_base.specs.declared.units.BadKind.{BadKind}
use Rattle.kmn_base.specs.declared.units.BadUnits.{BadUnits}
use Rattle.kmn_base.specs.FirstItem.{first_item}
use Rattle.kmn_base.specs.Spelling.{spelling, IsSpellable, unit_bytes, whole_units, fault_at}

-- bytes begin with the spelling of an item, followed by the rest
abbrev pub StandsFirst : List ℕ → UnitItem → List ℕ → Type 0
StandsFirst bytes item rest = IsSpellable item × (bytes ≡ unit_bytes (spelling item) ++ rest)

-- the number of bytes of an item's spelling
abbrev pub spelled_size : UnitItem → ℕ
spelled_size item = 2 * length (spelling item)

-- the results from a position on: a fault, which is the last, or an item and the results after its other bytes
abbrev pub results_at : (ℕ → List (Result UnitItem BadUnits)) → ℕ → Option (BadKind × ℕ) → Option UnitItem → List (Result UnitItem BadUnits)
results_at behind at (Some (kind, code)) item = Err (record { kind = kind; at = at; code = code }) ∷ []
results_at behind at None None = []
results_at behind at None (Some item) = Ok item ∷ behind (spelled_size item - 1)

-- the results of the bytes from a position on, if the first `passed` bytes belong to the previous item
abbrev pub results_from : ℕ → ℕ → List ℕ → List (Result UnitItem BadUnits)
results_from passed at [] = []
results_from (suc passed) at (byte ∷ bytes) = results_from passed (at + 1) bytes
results_from zero at (byte ∷ bytes) =
    results_at (λ passed. results_from passed (at + 1) bytes) at (fault_at (byte ∷ bytes)) (first_item (whole_units (byte ∷ bytes)))

-- the items before the first fault
abbrev pub items_given : List (Result UnitItem BadUnits) → List UnitItem
items_given [] = []
items_given (Ok item ∷ results) = item ∷ items_given results
items_given (Err bad ∷ results) = []

-- the results of reading bytes item by item; a fault is the last, with its position in bytes
unfoldable pub results_of : List ℕ → List (Result UnitItem BadUnits)
results_of bytes = results_from 0 0 bytes
