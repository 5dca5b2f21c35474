-- If the written file says the same, it is an export of the file.
use Rattle.std.proofs.Common.{◌≡◌, ℕ, ◌^◌, ◌<◌, ◌≤◌, false, nat_lt, ltb-false, List, length, Some, sym, subst, ap, ◌∙◌, arith}
use Rattle.kmn_base.proofs.Options.{option_or-none}
use Rattle.kmx_format.specs.declared.places.TheConstants.{CHECKSUM_AT, GROUPS_AT, STORES_AT, VERSION_AT}
use Rattle.kmx_format.specs.TablesOf.{word_at}
use Rattle.kmx_view.specs.View.{store_count, group_count}
use Rattle.kmx_verifier.specs.FaultOf.{size_fault, fault_of, IsValid}
use Rattle.kmx_verifier.proofs.Sound.{broken-none}
use Rattle.file_conversions.specs.Words.{with_word}
use Rattle.core_export.specs.Checksum.{checksum}
use Rattle.core_export.specs.Export.{zero_unit, pointed_stores, pointed_groups, played_version, replaced, exported, SaysTheSame, OnlyReplaced, IsExport}
use Rattle.core_export.proofs.Replaced.{version_stands}
use Rattle.core_export.proofs.Elsewhere.{only_replaced}

-- if a file is valid, it has a header
pub has_header : (bytes : List ℕ) → IsValid bytes → 64 ≤ length bytes
unfolding fault_of size_fault
has_header bytes h =
    let size = option_or-none (size_fault bytes) _ h in
    let long : nat_lt (length bytes) 64 ≡ false = broken-none _ _ _ (option_or-none _ _ (option_or-none _ _ size.0).1).0 in
    ltb-false (length bytes) 64 long

played_small : (version : ℕ) → played_version version < 2 ^ 32
played_small version = omega arith

pub version_made : (bytes out : List ℕ) (unit : ℕ) → out ≡ exported bytes unit → 12 ≤ length out → word_at out VERSION_AT ≡ played_version (word_at bytes VERSION_AT)
unfolding replaced
version_made bytes out unit is long =
    let pointed : List ℕ = pointed_groups bytes unit (word_at bytes GROUPS_AT) (group_count bytes) (pointed_stores bytes unit (word_at bytes STORES_AT) (store_count bytes) bytes) in
    version_stands pointed out (played_version (word_at bytes VERSION_AT)) (checksum (with_word CHECKSUM_AT 0 (with_word VERSION_AT (played_version (word_at bytes VERSION_AT)) pointed)))
    (played_small (word_at bytes VERSION_AT)) is long

-- the result of the exporter meets its specification
pub is_made : (file bytes out written : List ℕ) (unit : ℕ) → bytes ≡ file → Some unit ≡ zero_unit bytes → out ≡ exported bytes unit
    → (12 ≤ length out → word_at out CHECKSUM_AT ≡ checksum (with_word CHECKSUM_AT 0 out)) → written ≡ out → SaysTheSame file written
    → (u : ℕ) × (zero_unit file ≡ Some u) × (out ≡ exported file u) × OnlyReplaced file out × IsExport file out
is_made file bytes out written unit is found made right same_bytes same =
    let of_file : out ≡ exported file unit = made ∙ ap (λ (xs : List ℕ). exported xs unit) is in
    let says : SaysTheSame file out = subst (SaysTheSame file) same_bytes same in
    let long : 12 ≤ length out = omega (arith, has_header out says.valid) in (
      unit,
      sym (found ∙ ap zero_unit is),
      of_file,
      subst (OnlyReplaced file) (sym of_file) (only_replaced file unit),
      record { same = says; version = version_made file out unit of_file long; checksum = right long },
    )
