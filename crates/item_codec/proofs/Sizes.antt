-- The items that are read from bytes are not longer than the bytes.
use Rattle.std.proofs.Common.{◌≡◌, ℕ, ◌+◌, ◌<◌, ◌≤◌, ◌⊎◌, List, [], ◌∷◌, ◌++◌, length, map, sym, ◌∙◌, ap, inl, inr, arith, append-nil, length-append}
use Rattle.std.specs.Prelude.{Result, Ok, Err}
use Rattle.std.specs.List.{All, flat_map}
use Rattle.kmn_base.specs.declared.units.UnitItem.{UnitItem}
use Rattle.kmn_base.specs.declared.units.BadUnits.{BadUnits}
use Rattle.kmn_base.specs.Spelling.{spelling, unit_bytes, IsSpelledThrough, IsBadAt}
use Rattle.kmn_base.proofs.UnitBytes.{unit_bytes-append}
use Rattle.kmn_base.proofs.FirstFaults.{spelled_through_or_bad}
use Rattle.item_codec.specs.Walk.{spelled_size, results_of}
use Rattle.item_codec.proofs.FirstItems.{length-spelled}
use Rattle.item_codec.proofs.Results.{spelled_gives_its_items, bad_gives_its_fault}

-- the size of the items before the first fault
abbrev pub sizes : List (Result UnitItem BadUnits) → ℕ
sizes [] = 0
sizes (Ok item ∷ results) = spelled_size item + sizes results
sizes (Err bad ∷ results) = 0

sizes-items : (items : List UnitItem) (tail : List (Result UnitItem BadUnits)) → sizes (map Ok items ++ tail) ≡ length (unit_bytes (flat_map spelling items)) + sizes tail
sizes-items [] tail = omega arith
sizes-items (item ∷ items) tail =
    let here : length (unit_bytes (flat_map spelling (item ∷ items))) ≡ spelled_size item + length (unit_bytes (flat_map spelling items))
    = ap length (unit_bytes-append (spelling item) (flat_map spelling items)) ∙ length-append (unit_bytes (spelling item)) (unit_bytes (flat_map spelling items))
    ∙ ap (λ n. n + length (unit_bytes (flat_map spelling items))) (length-spelled item) in
    omega (arith, here, sizes-items items tail)

sizes_within_of : (bytes : List ℕ) → IsSpelledThrough bytes ⊎ ((bad : BadUnits) × IsBadAt bytes bad) → sizes (results_of bytes) ≤ length bytes
sizes_within_of bytes (inl s) =
    let given : results_of bytes ≡ map Ok s.items ++ [] = ap results_of s.spelled ∙ spelled_gives_its_items s.items s.spellable ∙ sym (append-nil (map Ok s.items)) in
    omega (arith, ap sizes given, sizes-items s.items [], ap length s.spelled)
sizes_within_of bytes (inr (bad, is)) =
    omega (arith, ap sizes (bad_gives_its_fault bytes bad is), sizes-items is.items (Err bad ∷ []), ap length is.parts, length-append (unit_bytes (flat_map spelling is.items)) is.rest)

-- the items of bytes are not longer than the bytes
pub sizes_within : (bytes : List ℕ) → All (λ byte. byte < 256) bytes → sizes (results_of bytes) ≤ length bytes
sizes_within bytes h = sizes_within_of bytes (spelled_through_or_bad bytes h)
