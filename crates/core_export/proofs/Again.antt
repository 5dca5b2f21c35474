-- If an exported file is exported again, it does not change.
use Rattle.std.proofs.Common.{◌≡◌, ℕ, zero, suc, ◌+◌, ◌<◌, ◌≤◌, Bool, true, false, not, nat_eq, leb, le-leb, List, ◌++◌, length, take, drop, refl, sym, ap, ap₂, ◌∙◌, length-drop, arith}
use Rattle.std.specs.Prelude.{if◌then◌else◌}
use Rattle.std.specs.Int.{w32, from_le_bytes}
use Rattle.std.proofs.lemmas.Bool.{and_parts}
use Rattle.std.proofs.lemmas.List.{drop-drop, take-append-drop, length-take-le}
use Rattle.std.proofs.lemmas.List.Elements.{All-take, All-drop}
use Rattle.std.proofs.lemmas.Nat.{le_bytes_4}
use Rattle.kmn_base.proofs.SmallBytes.{AreBytes, byte_small}
use Rattle.kmx_format.specs.declared.places.TheConstants.{CHECKSUM_AT, GROUPS_AT, STORES_AT, VERSION_AT}
use Rattle.kmx_format.specs.File.{word}
use Rattle.kmx_format.specs.TablesOf.{word_at}
use Rattle.kmx_view.specs.View.{store_count, group_count}
use Rattle.file_conversions.specs.Words.{with_word}
use Rattle.file_conversions.proofs.ReplacedWords.{is_replaced, overwritten}
use Rattle.core_export.specs.Checksum.{checksum}
use Rattle.core_export.specs.Readable.{is_pointed, is_record_pointed, are_contents_pointed, are_records_pointed, are_groups_pointed}
use Rattle.core_export.specs.Export.{pointed, pointed_stores, pointed_record, pointed_records, pointed_groups, played_version, replaced}
use Rattle.core_export.specs.ExportLaws.{ExportedFilesStay}
use Rattle.core_export.proofs.Made.{has_header}

-- ---- a word replaced by itself

word_spelled : (bytes : List ℕ) (place : ℕ) → AreBytes bytes → place + 4 ≤ length bytes → word (word_at bytes place) ≡ take 4 (drop place bytes)
unfolding word word_at
word_spelled bytes place h within =
    let four : List ℕ = take 4 (drop place bytes) in
    let size : length four ≡ 4 = length-take-le 4 (drop place bytes) (omega (arith, within, length-drop place bytes)) in
    let small : AreBytes four = All-take (λ b. b < 256) 4 (drop place bytes) (All-drop (λ b. b < 256) place bytes h) in
    let read : (if leb (place + 4) (length bytes) then from_le_bytes w32 four else 0) ≡ from_le_bytes w32 four = ap (λ b. if b then from_le_bytes w32 four else 0) (le-leb _ _ within) in
    le_bytes_4 four _ size (byte_small four small) read

word_again : (bytes : List ℕ) (place : ℕ) → AreBytes bytes → place + 4 ≤ length bytes → with_word place (word_at bytes place) bytes ≡ bytes
word_again bytes place h within =
    is_replaced place (word_at bytes place) bytes within
    ∙ ap₂ (λ (xs ys : List ℕ). take place bytes ++ (xs ++ ys)) (word_spelled bytes place h within) (sym (drop-drop 4 place bytes))
    ∙ ap (λ (xs : List ℕ). take place bytes ++ xs) (take-append-drop 4 (drop place bytes))
    ∙ take-append-drop place bytes

-- ---- if no offset 0 is left, no offset is replaced

module _ (bytes : List ℕ) (unit : ℕ) where
  point_stays : (place : ℕ) (out : List ℕ) → is_pointed bytes place ≡ true → pointed bytes unit place out ≡ out
  point_stays place out h = by_test (nat_eq (word_at bytes place) 0) h
    where
      by_test : (b : Bool) → not b ≡ true → (if b then with_word place unit out else out) ≡ out
      by_test true e = absurd (cc)
      by_test false e = refl

  stores_stay : (place count : ℕ) (out : List ℕ) → are_contents_pointed bytes place count ≡ true → pointed_stores bytes unit place count out ≡ out
  stores_stay place zero out h = refl
  stores_stay place (suc count) out h =
      let parts = and_parts (is_pointed bytes (place + 8)) (are_contents_pointed bytes (place + 12) count) h in
      stores_stay (place + 12) count (pointed bytes unit (place + 8) out) parts.1 ∙ point_stays (place + 8) out parts.0

  record_stays : (place : ℕ) (out : List ℕ) → is_record_pointed bytes place ≡ true → pointed_record bytes unit place out ≡ out
  record_stays place out h =
      let parts = and_parts (is_pointed bytes (place + 12)) (is_pointed bytes (place + 16)) h in
      point_stays (place + 16) (pointed bytes unit (place + 12) out) parts.1 ∙ point_stays (place + 12) out parts.0

  records_stay : (place count : ℕ) (out : List ℕ) → are_records_pointed bytes place count ≡ true → pointed_records bytes unit place count out ≡ out
  records_stay place zero out h = refl
  records_stay place (suc count) out h =
      let parts = and_parts (is_record_pointed bytes place) (are_records_pointed bytes (place + 20) count) h in
      records_stay (place + 20) count (pointed_record bytes unit place out) parts.1 ∙ record_stays place out parts.0

  groups_stay : (place count : ℕ) (out : List ℕ) → are_groups_pointed bytes place count ≡ true → pointed_groups bytes unit place count out ≡ out
  groups_stay place zero out h = refl
  groups_stay place (suc count) out h =
      let parts = and_parts (are_records_pointed bytes (word_at bytes (place + 4)) (word_at bytes (place + 16))) (are_groups_pointed bytes (place + 24) count) h in
      groups_stay (place + 24) count (pointed_records bytes unit (word_at bytes (place + 4)) (word_at bytes (place + 16)) out) parts.1
      ∙ records_stay (word_at bytes (place + 4)) (word_at bytes (place + 16)) out parts.0

played_twice : (version word : ℕ) → word ≡ played_version version → played_version word ≡ word
played_twice version word is = omega (arith, is)

pub exported_files_stay : ExportedFilesStay
unfolding replaced
exported_files_stay bytes out unit small export =
    let long : 64 ≤ length out = has_header out export.same.valid in
    let version : ℕ = played_version (word_at out VERSION_AT) in
    let one : pointed_stores out unit (word_at out STORES_AT) (store_count out) out ≡ out = stores_stay out unit (word_at out STORES_AT) (store_count out) out export.same.contents in
    let two : pointed_groups out unit (word_at out GROUPS_AT) (group_count out) out ≡ out = groups_stay out unit (word_at out GROUPS_AT) (group_count out) out export.same.records in
    let three : with_word VERSION_AT version out ≡ out =
    ap (λ v. with_word VERSION_AT v out) (played_twice (word_at bytes VERSION_AT) (word_at out VERSION_AT) export.version) ∙ word_again out VERSION_AT small (omega (arith, long)) in
    let all : with_word VERSION_AT version (pointed_groups out unit (word_at out GROUPS_AT) (group_count out) (pointed_stores out unit (word_at out STORES_AT) (store_count out) out)) ≡ out =
    ap (λ (xs : List ℕ). with_word VERSION_AT version (pointed_groups out unit (word_at out GROUPS_AT) (group_count out) xs)) one ∙ ap (with_word VERSION_AT version) two ∙ three in
    ap (λ (xs : List ℕ). with_word CHECKSUM_AT (checksum (with_word CHECKSUM_AT 0 xs)) (with_word CHECKSUM_AT 0 xs)) all
    ∙ overwritten CHECKSUM_AT 0 (checksum (with_word CHECKSUM_AT 0 out)) out (omega (arith, long))
    ∙ ap (λ n. with_word CHECKSUM_AT n out) (sym export.checksum)
    ∙ word_again out CHECKSUM_AT small (omega (arith, long))
