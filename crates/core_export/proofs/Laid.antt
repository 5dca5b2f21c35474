-- If the arrays of a file follow one another and all strings come after them, the file says the same with its words replaced.
use Rattle.std.proofs.Common.{◌≡◌, ℕ, ◌+◌, ◌*◌, ◌^◌, ◌<◌, ◌≤◌, ◌⊎◌, true, not, ◌&&◌, ◌||◌, nat_eq, nat_lt, List, [], length, drop, min, None, refl, sym, ap, ap₂, subst, ◌∙◌, inl, inr, arith}
use Rattle.std.specs.Prelude.{nat_le}
use Rattle.std.specs.Option.{option_or}
use Rattle.std.proofs.lemmas.Bool.{cases_lt, not-false}
use Rattle.kmn_base.specs.declared.codes.Code.TheVariants.{V01, V02, V03, V04, V05, V06, V07, V08, V15, V16}
use Rattle.kmn_base.specs.declared.limits.TheConstants.{STORES, GROUPS, PICTURE_BYTES, FILE_BYTES}
use Rattle.kmn_base.proofs.Options.{option_or-none}
use Rattle.kmx_format.specs.declared.places.TheConstants.{FLAGS_AT, GROUPS_AT, GROUP_COUNT_AT, IDENTIFIER_AT, PICTURE_AT, PICTURE_SIZE_AT, START_ANSI_AT, START_UNICODE_AT, STORES_AT, STORE_COUNT_AT, VERSION_AT}
use Rattle.kmx_format.specs.TablesOf.{half_at, word_at, string_at, stores_from, groups_from, tables_of}
use Rattle.kmx_format.specs.Versions.{is_version}
use Rattle.kmx_view.specs.View.{is_ended, store_count, group_count}
use Rattle.kmx_verifier.specs.FaultOf.{broken, size_fault, header_fault, arrays_fault, stores_fault, groups_fault, fault_of, IsValid, no_group}
use Rattle.kmx_verifier.proofs.Sound.{broken-none}
use Rattle.kmx_verifier.proofs.Clean.{both, unbroken_not}
use Rattle.core_export.specs.Readable.{are_contents_pointed, are_groups_pointed}
use Rattle.core_export.specs.Export.{pointed_stores, pointed_groups, played_version, SaysTheSame}
use Rattle.core_export.proofs.Outside.{Outside, SameWithin, unchanged, wider, later, back_same, front_same, joined, narrower, stores_outside, groups_outside, GroupsLaid, StoresKept, GroupsKept, stores_kept, groups_kept}
use Rattle.core_export.proofs.Kept.{StoresClear, GroupsClear, stores_same, groups_same}

-- header, stores, groups and key records follow one another, and all strings come at or after a place that is after these
pub record Laid (bytes : List ℕ) (unit high : ℕ) : Type 0 where
  pub first : ℕ
  pub second : ℕ
  pub header : 64 ≤ first
  pub stores : (store_count bytes ≡ 0) ⊎ ((64 ≤ word_at bytes STORES_AT) × (word_at bytes STORES_AT + 12 * store_count bytes ≤ first))
  pub groups : (first ≤ word_at bytes GROUPS_AT) × (word_at bytes GROUPS_AT + 24 * group_count bytes ≤ second)
  pub order : second ≤ high
  pub records : GroupsLaid bytes unit high second (word_at bytes GROUPS_AT) (group_count bytes)
  pub within : high ≤ length bytes
  pub store_strings : StoresClear bytes high (word_at bytes STORES_AT) (store_count bytes)
  pub group_strings : GroupsClear bytes high (word_at bytes GROUPS_AT) (group_count bytes)

-- if a version is one of the format, the version that the engine plays for it is too
played_is_version : (version : ℕ) → is_version version ≡ true → is_version (played_version version) ≡ true
played_is_version version known =
    elim (cases_lt version 0x0F00) [
      | inl low ↦ let is : min version 0x0F00 ≡ version = omega (arith, low) in ap is_version is ∙ known
      | inr high ↦ let is : min version 0x0F00 ≡ 0x0F00 = omega (arith, high) in ap is_version is
    ]

module _ (bytes fin : List ℕ) (unit high : ℕ) (laid : Laid bytes unit high) (small : unit < 2 ^ 32) (positive : 0 < unit) (behind : high ≤ unit) (blank : string_at bytes unit ≡ []) (ends : is_ended bytes unit ≡ true) where
  abbrev pub first_out : List ℕ
  first_out = pointed_stores bytes unit (word_at bytes STORES_AT) (store_count bytes) bytes

  abbrev pub second_out : List ℕ
  second_out = pointed_groups bytes unit (word_at bytes GROUPS_AT) (group_count bytes) first_out

  stores_part : (place count first : ℕ) → 64 ≤ first → (count ≡ 0) ⊎ ((64 ≤ place) × (place + 12 * count ≤ first)) → Outside 64 first bytes (pointed_stores bytes unit place count bytes)
  stores_part place count first h (inl none) = subst (λ (n : ℕ). Outside 64 first bytes (pointed_stores bytes unit place n bytes)) (sym none) (unchanged 64 first bytes)
  stores_part place count first h (inr there) = wider place (place + 12 * count) 64 first bytes (pointed_stores bytes unit place count bytes) there.0 there.1 (stores_outside bytes unit place count bytes)

  few_stores_kept : (place count first : ℕ) → first ≤ length bytes → (count ≡ 0) ⊎ ((64 ≤ place) × (place + 12 * count ≤ first))
      → SameWithin 64 first (pointed_stores bytes unit place count bytes) fin → StoresKept bytes unit fin small place count
  few_stores_kept place count first within (inl none) h = subst (StoresKept bytes unit fin small place) (sym none) tt
  few_stores_kept place count first within (inr there) h =
      stores_kept bytes unit fin small place count bytes refl refl (omega (arith, within, there.1))
      (narrower 64 first place (place + 12 * count) (pointed_stores bytes unit place count bytes) fin there.0 there.1 h)

  pub says_same : IsValid bytes → half_at fin VERSION_AT ≡ played_version (half_at bytes VERSION_AT) → word_at fin VERSION_AT ≡ played_version (word_at bytes VERSION_AT)
      → Outside 4 12 second_out fin → SaysTheSame bytes fin
  unfolding fault_of size_fault header_fault arrays_fault tables_of
  says_same valid version_half version_word header =
      let first : ℕ = laid.first in
      let second : ℕ = laid.second in
      let behind_header : first ≤ second = omega (arith, laid.groups.0, laid.groups.1) in
      let one : Outside 64 first bytes first_out = stores_part (word_at bytes STORES_AT) (store_count bytes) first laid.header laid.stores in
      let two : Outside second high first_out second_out = groups_outside bytes unit high second (word_at bytes GROUPS_AT) (group_count bytes) first_out laid.records in
      let sizes : length bytes ≡ length fin = one.size ∙ two.size ∙ header.size in
      let tail : drop high bytes ≡ drop high fin =
      later first high bytes first_out (omega (arith, behind_header, laid.order)) one.behind ∙ two.behind ∙ later 12 high second_out fin (omega (arith, laid.header, behind_header, laid.order)) header.behind in
      let to_second : SameWithin 0 second first_out second_out = front_same second high first_out second_out two in
      let from_header : SameWithin 12 high second_out fin = back_same 4 12 high second_out fin header in
      let end : SameWithin 12 second first_out fin =
      joined 12 second first_out second_out fin (narrower 0 second 12 second first_out second_out (omega arith) (omega arith) to_second) (narrower 12 high 12 second second_out fin (omega arith) laid.order from_header) in
      let w : (at : ℕ) → 12 ≤ at → at + 4 ≤ 64 → word_at bytes at ≡ word_at fin at =
      λ at a b. (front_same 64 first bytes first_out one).words at (omega arith) b ∙ end.words at a (omega (arith, b, laid.header, behind_header)) in
      let w0 : word_at bytes IDENTIFIER_AT ≡ word_at fin IDENTIFIER_AT =
      (front_same 64 first bytes first_out one).words IDENTIFIER_AT (omega arith) (omega arith) ∙ to_second.words IDENTIFIER_AT (omega arith) (omega (arith, laid.header, behind_header))
      ∙ (front_same 4 12 second_out fin header).words IDENTIFIER_AT (omega arith) (omega arith) in
      let w24 : word_at bytes STORE_COUNT_AT ≡ word_at fin STORE_COUNT_AT = w STORE_COUNT_AT (omega arith) (omega arith) in
      let w28 : word_at bytes GROUP_COUNT_AT ≡ word_at fin GROUP_COUNT_AT = w GROUP_COUNT_AT (omega arith) (omega arith) in
      let w32 : word_at bytes STORES_AT ≡ word_at fin STORES_AT = w STORES_AT (omega arith) (omega arith) in
      let w36 : word_at bytes GROUPS_AT ≡ word_at fin GROUPS_AT = w GROUPS_AT (omega arith) (omega arith) in
      let w40 : word_at bytes START_ANSI_AT ≡ word_at fin START_ANSI_AT = w START_ANSI_AT (omega arith) (omega arith) in
      let w44 : word_at bytes START_UNICODE_AT ≡ word_at fin START_UNICODE_AT = w START_UNICODE_AT (omega arith) (omega arith) in
      let w48 : word_at bytes FLAGS_AT ≡ word_at fin FLAGS_AT = w FLAGS_AT (omega arith) (omega arith) in
      let w56 : word_at bytes PICTURE_AT ≡ word_at fin PICTURE_AT = w PICTURE_AT (omega arith) (omega arith) in
      let w60 : word_at bytes PICTURE_SIZE_AT ≡ word_at fin PICTURE_SIZE_AT = w PICTURE_SIZE_AT (omega arith) (omega arith) in
      let stores : StoresKept bytes unit fin small (word_at bytes STORES_AT) (store_count bytes) =
      few_stores_kept (word_at bytes STORES_AT) (store_count bytes) first (omega (arith, behind_header, laid.order, laid.within)) laid.stores
      (narrower 12 second 64 first first_out fin (omega arith) behind_header end) in
      let array : SameWithin (word_at bytes GROUPS_AT) (word_at bytes GROUPS_AT + 24 * group_count bytes) bytes fin =
      narrower first second (word_at bytes GROUPS_AT) (word_at bytes GROUPS_AT + 24 * group_count bytes) bytes fin laid.groups.0 laid.groups.1
      (joined first second bytes first_out fin (back_same 64 first second bytes first_out one) (narrower 12 second first second first_out fin (omega (arith, laid.header)) (omega arith) end)) in
      let groups : GroupsKept bytes unit fin small (word_at bytes GROUPS_AT) (group_count bytes) =
      groups_kept bytes unit fin small high second (word_at bytes GROUPS_AT) (group_count bytes) first_out laid.records laid.within (sym one.size)
      (sym (later first second bytes first_out behind_header one.behind)) array
      (narrower 12 high second high second_out fin (omega (arith, laid.header, behind_header)) (omega arith) from_header) in
      let of_stores = stores_same bytes fin unit high sizes small tail positive behind blank ends w24 w28 0 (word_at bytes STORES_AT) (store_count bytes) stores laid.store_strings in
      let of_groups = groups_same bytes fin unit high sizes small tail positive behind blank ends w24 w28 0 (word_at bytes GROUPS_AT) (group_count bytes) groups laid.group_strings in
      let size = option_or-none (size_fault bytes) _ valid in
      let head = option_or-none (header_fault bytes) _ size.1 in
      let arrays = option_or-none (arrays_fault bytes) _ head.1 in
      let store_faults = option_or-none (stores_fault bytes 0 (word_at bytes STORES_AT) (store_count bytes)) _ arrays.1 in
      let group_faults = option_or-none _ _ store_faults.1 in
      let identifier = option_or-none _ _ head.0 in
      let version = option_or-none _ _ identifier.1 in
      let known : is_version (word_at bytes VERSION_AT) ≡ true = not-false _ (broken-none _ VERSION_AT _ version.0) in
      let size_clean : size_fault fin ≡ None =
      ap (λ n. option_or (broken V15 0 (nat_lt FILE_BYTES n)) (option_or (broken V01 n (nat_lt n 64)) None)) (sym sizes) ∙ size.0 in
      let counts_same : _ =
      (λ i. option_or (broken V04 FLAGS_AT (nat_lt 0x1F (w48 i)))
      (option_or (broken V15 STORE_COUNT_AT (nat_lt STORES (w24 i))) (option_or (broken V15 GROUP_COUNT_AT (nat_lt GROUPS (w28 i))) (option_or (broken V05 START_UNICODE_AT (nat_eq (w44 i) no_group))
      (option_or (broken V06 START_ANSI_AT (not (nat_eq (w40 i) no_group) && not (nat_lt (w40 i) (w28 i)))) (option_or (broken V06 START_UNICODE_AT (not (nat_lt (w44 i) (w28 i)))) None)))))) in
      let head_clean : header_fault fin ≡ None =
      both _ _ (ap (λ n. broken V02 IDENTIFIER_AT (not (nat_eq n 0x5354_584B))) (sym w0) ∙ identifier.0)
      (both _ _ (unbroken_not V03 VERSION_AT _ (ap is_version version_word ∙ played_is_version (word_at bytes VERSION_AT) known)) (sym counts_same ∙ version.1)) in
      let arrays_same : arrays_fault bytes ≡ arrays_fault fin =
      λ i. option_or (broken V07 STORES_AT (nat_lt 0 (w24 i) && not (nat_le (w32 i + 12 * w24 i) (sizes i))))
      (option_or (broken V08 GROUPS_AT (nat_lt 0 (w28 i) && not (nat_le (w36 i + 24 * w28 i) (sizes i))))
      (option_or (broken V16 PICTURE_AT (nat_lt 0 (w60 i) && (not (nat_le (w56 i + w60 i) (sizes i)) || nat_lt PICTURE_BYTES (w60 i)))) None)) in
      record {
        valid = both _ _ size_clean (both _ _ head_clean (both _ _ (sym arrays_same ∙ arrays.0)
            (both _ _ (sym (of_stores.0 ∙ ap₂ (stores_fault fin 0) w32 w24) ∙ store_faults.0)
            (both _ _ (sym (of_groups.0 ∙ ap₂ (groups_fault fin 0) w36 w28) ∙ group_faults.0) refl))));
        tables = λ i. record {
          version = version_half i;
          start_ansi = sym w40 i;
          start_unicode = sym w44 i;
          stores = sym (of_stores.1 ∙ ap₂ (stores_from fin) w32 w24) i;
          groups = sym (of_groups.1 ∙ ap₂ (groups_from fin) w36 w28) i;
        };
        contents = ap₂ (are_contents_pointed fin) (sym w32) (sym w24) ∙ of_stores.2;
        records = ap₂ (are_groups_pointed fin) (sym w36) (sym w28) ∙ of_groups.2;
      }
