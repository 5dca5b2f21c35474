-- The records of a valid file are in the file, so their places fit in four bytes.
use Rattle.std.proofs.Common.{◌≡◌, ℕ, zero, suc, ◌+◌, ◌*◌, ◌<◌, ◌≤◌, ◌^◌, ◌⊎◌, inl, inr, List, length, None, sym, subst, ap, ◌∙◌, arith}
use Rattle.kmn_base.specs.declared.limits.TheConstants.{FILE_BYTES}
use Rattle.kmn_base.proofs.SmallBytes.{AreBytes}
use Rattle.kmn_base.proofs.Options.{option_or-none}
use Rattle.rule_model.specs.declared.tables.Tables.{Tables}
use Rattle.kmx_format.specs.declared.sizes.TheConstants.{STORE_BYTES}
use Rattle.kmx_format.specs.TablesOf.{word_at, tables_of, uses_keys_at, groups_from}
use Rattle.kmx_format.proofs.SmallNumbers.{word_at-small}
use Rattle.kmx_view.specs.View.{store_count, group_count}
use Rattle.kmx_verifier.specs.FaultOf.{size_fault, header_fault, arrays_fault, stores_fault, groups_fault, group_fault, records_place_fault, fault_of, IsValid}
use Rattle.kmx_verifier.proofs.Arrays.{size_fits, array_stands, arrays_stand}
use Rattle.kmx_verifier.proofs.Playing.{length-stores_from, length-rules_from}
use Rattle.kmx_verifier.proofs.Sound.{broken-none}
use Rattle.kmx_decompiler.specs.RecordPlaces.{HaveNearRecords}

near-stores : (place count file : ℕ) → place < 2 ^ 32 → file ≤ FILE_BYTES → (count ≡ 0) ⊎ (place + 12 * count ≤ file) → place + 12 * count < 2 ^ 32
near-stores place count file small fits (inl none) = omega (arith, small, none)
near-stores place count file small fits (inr within) = omega (arith, fits, within)

near-rules : (place count file : ℕ) → place < 2 ^ 32 → file ≤ FILE_BYTES → (count ≡ 0) ⊎ (place + 20 * count ≤ file) → place + 20 * count < 2 ^ 32
near-rules place count file small fits (inl none) = omega (arith, small, none)
near-rules place count file small fits (inr within) = omega (arith, fits, within)

some-within : (place count file : ℕ) → (suc count ≡ 0) ⊎ (place + 24 * suc count ≤ file) → place + 24 + 24 * count ≤ file
some-within place count file (inl none) = absurd (omega (arith, none))
some-within place count file (inr within) = omega (arith, within)

-- if groups have no fault, their records and key records end at places that fit in four bytes
groups-near : (bytes : List ℕ) (before place count : ℕ) → AreBytes bytes → length bytes ≤ FILE_BYTES → (count ≡ 0) ⊎ (place + 24 * count ≤ length bytes)
    → groups_fault bytes before place count ≡ None → HaveNearRecords bytes place (groups_from bytes place count)
groups-near bytes before place zero small fits stand h = tt
groups-near bytes before place (suc count) small fits stand h =
    let rules : ℕ = word_at bytes (place + 16) in
    let at : ℕ = word_at bytes (place + 4) in
    let within = some-within place count (length bytes) stand in
    let parts = option_or-none (group_fault bytes before place) _ h in
    let first = option_or-none (records_place_fault bytes before place) _ parts.0 in
    let second = option_or-none _ _ (option_or-none _ _ first.0).1 in
    let near = near-rules at rules (length bytes) (word_at-small bytes (place + 4) small) fits (array_stands bytes at 20 rules (broken-none _ (place + 4) _ second.0)) in
    let all = length-rules_from bytes (uses_keys_at bytes place) at rules in (
      (omega (arith, within, fits)),
      (omega (arith, near, all)),
      groups-near bytes (before + rules) (place + 24) count small fits (inr within) parts.1,
    )

-- the records of all stores and groups of a valid file end at places that fit in four bytes
pub stores_near : (bytes : List ℕ) (tables : Tables) → AreBytes bytes → IsValid bytes → tables ≡ tables_of bytes → word_at bytes 32 + STORE_BYTES * length tables.stores < 2 ^ 32
unfolding fault_of tables_of
stores_near bytes tables small valid of_bytes =
    let size = option_or-none (size_fault bytes) _ valid in
    let head = option_or-none (header_fault bytes) _ size.1 in
    let arrays = option_or-none (arrays_fault bytes) _ head.1 in
    let near = near-stores (word_at bytes 32) (store_count bytes) (length bytes) (word_at-small bytes 32 small) (size_fits bytes size.0) (arrays_stand bytes arrays.0).0 in
    let count : length tables.stores ≡ store_count bytes = ap (λ (t : Tables). length t.stores) of_bytes ∙ length-stores_from bytes (word_at bytes 32) (store_count bytes) in
    omega (arith, near, count)

pub groups_near : (bytes : List ℕ) (tables : Tables) → AreBytes bytes → IsValid bytes → tables ≡ tables_of bytes → HaveNearRecords bytes (word_at bytes 36) tables.groups
unfolding fault_of tables_of
groups_near bytes tables small valid of_bytes =
    let size = option_or-none (size_fault bytes) _ valid in
    let head = option_or-none (header_fault bytes) _ size.1 in
    let arrays = option_or-none (arrays_fault bytes) _ head.1 in
    let stores = option_or-none (stores_fault bytes 0 (word_at bytes 32) (store_count bytes)) _ arrays.1 in
    let groups = option_or-none _ _ stores.1 in
    subst (λ (t : Tables). HaveNearRecords bytes (word_at bytes 36) t.groups) (sym of_bytes)
    (groups-near bytes 0 (word_at bytes 36) (group_count bytes) small (size_fits bytes size.0) (arrays_stand bytes arrays.0).1 groups.0)
