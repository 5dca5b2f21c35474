-- If the length and the arrays have no fault, the records are within the file.
use Rattle.std.proofs.Common.{◌≡◌, ℕ, ◌+◌, ◌*◌, ◌≤◌, ◌⊎◌, false, not, ◌&&◌, List, length, None, arith}
use Rattle.std.specs.Prelude.{nat_lt}
use Rattle.kmn_base.specs.declared.limits.TheConstants.{FILE_BYTES}
use Rattle.kmn_base.proofs.Options.{option_or-none}
use Rattle.kmx_format.specs.TablesOf.{word_at}
use Rattle.kmx_verifier.specs.FaultOf.{size_fault, arrays_fault}
use Rattle.kmx_view.specs.View.{is_within, store_count, group_count}
use Rattle.kmx_verifier.proofs.Sound.{broken-none}

pub size_fits : (bytes : List ℕ) → size_fault bytes ≡ None → length bytes ≤ FILE_BYTES
unfolding size_fault
size_fits bytes h =
    let fits : nat_lt FILE_BYTES (length bytes) ≡ false = broken-none _ 0 _ (option_or-none _ _ h).0 in
    grind (arith, fits)

pub array_stands : (bytes : List ℕ) (place size count : ℕ) → (nat_lt 0 count && not (is_within bytes place (size * count))) ≡ false → (count ≡ 0) ⊎ (place + size * count ≤ length bytes)
array_stands bytes place size count h = grind (arith, h)

pub arrays_stand : (bytes : List ℕ) → arrays_fault bytes ≡ None
    → ((store_count bytes ≡ 0) ⊎ (word_at bytes 32 + 12 * store_count bytes ≤ length bytes)) × ((group_count bytes ≡ 0) ⊎ (word_at bytes 36 + 24 * group_count bytes ≤ length bytes))
unfolding arrays_fault
arrays_stand bytes h =
    let first = option_or-none _ _ h in
    let second = option_or-none _ _ first.1 in
    (array_stands bytes _ 12 _ (broken-none _ _ _ first.0), array_stands bytes _ 24 _ (broken-none _ _ _ second.0))
