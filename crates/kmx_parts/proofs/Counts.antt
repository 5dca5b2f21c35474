-- A string spells at most as many parts as it has bytes.
use Rattle.std.proofs.Common.{ℕ, zero, suc, ◌+◌, ◌-◌, ◌≤◌, List, [], ◌∷◌, length, arith}
use Rattle.std.specs.Prelude.{Option, Some, None, Result, Ok, Err}
use Rattle.std.specs.List.{filter_map}
use Rattle.kmn_base.specs.declared.units.UnitItem.{UnitItem}
use Rattle.kmn_base.specs.declared.units.BadKind.{BadKind}
use Rattle.kmn_base.specs.declared.units.BadUnits.{BadUnits}
use Rattle.kmn_base.specs.Spelling.{unit_bytes, whole_units, fault_at}
use Rattle.kmn_base.specs.FirstItem.{first_item}
use Rattle.kmn_base.proofs.Elements.{length-cons_option}
use Rattle.item_codec.specs.Walk.{spelled_size, results_at, results_from, results_of, items_given}
use Rattle.kmx_format.specs.TablesOf.{items_of}

few_at : (behind : ℕ → List (Result UnitItem BadUnits)) (at most : ℕ) → ((passed : ℕ) → length (behind passed) ≤ most)
    → (fault : Option (BadKind × ℕ)) (item : Option UnitItem) → length (results_at behind at fault item) ≤ suc most
few_at behind at most few (Some (kind, code)) item = omega arith
few_at behind at most few None None = omega arith
few_at behind at most few None (Some item) = omega (arith, few (spelled_size item - 1))

few_results : (passed at : ℕ) (bytes : List ℕ) → length (results_from passed at bytes) ≤ length bytes
few_results passed at [] = omega arith
few_results (suc passed) at (byte ∷ bytes) = omega (arith, few_results passed (at + 1) bytes)
few_results zero at (byte ∷ bytes) =
    few_at (λ passed. results_from passed (at + 1) bytes) at (length bytes) (λ passed. few_results passed (at + 1) bytes)
    (fault_at (byte ∷ bytes)) (first_item (whole_units (byte ∷ bytes)))

few_given : (results : List (Result UnitItem BadUnits)) → length (items_given results) ≤ length results
few_given [] = omega arith
few_given (Ok item ∷ results) = omega (arith, few_given results)
few_given (Err bad ∷ results) = omega arith

few_mapped : {X Y : Type 0} (f : X → Option Y) (xs : List X) → length (filter_map f xs) ≤ length xs
few_mapped f [] = omega arith
few_mapped f (x ∷ xs) = omega (arith, length-cons_option (f x) (filter_map f xs), few_mapped f xs)

pub few_parts : {T : Type 0} (f : UnitItem → Option T) (units : List ℕ) → length (filter_map f (items_of units)) ≤ length (unit_bytes units)
unfolding items_of results_of
few_parts f units =
    omega (arith, few_mapped f (items_given (results_of (unit_bytes units))), few_given (results_of (unit_bytes units)), few_results 0 0 (unit_bytes units))
