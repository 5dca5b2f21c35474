-- If two files have the same bytes wherever a step reads, they have the same first fault.
use Rattle.std.proofs.Common.{◌≡◌, ℕ, zero, suc, ◌+◌, ◌*◌, ◌-◌, ◌≤◌, Bool, true, false, not, ◌&&◌, ◌||◌, nat_eq, nat_lt, List, [], ◌∷◌, ◌++◌, length, map, take, drop, get_or, length-drop, bit_and, None, refl, sym, ap, ap₂, ◌∙◌, subst, arith}
use Rattle.std.specs.Prelude.{Ok, Err, nat_le, if◌then◌else◌}
use Rattle.std.specs.List.{All, list_any}
use Rattle.std.specs.Int.{w32, from_le_bytes}
use Rattle.std.specs.Option.{option_or}
use Rattle.std.proofs.lemmas.List.{drop-drop, drop-take, take-take}
use Rattle.std.proofs.lemmas.List.Elements.{All-head, All-tail}
use Rattle.kmn_base.specs.Spelling.{unit_bytes, whole_units}
use Rattle.kmn_base.specs.declared.codes.Code.TheVariants.{V01, V02, V03, V04, V05, V06, V07, V08, V09, V10, V12, V13, V15, V16}
use Rattle.kmn_base.specs.declared.keys.TheConstants.{SHIFT_FLAGS}
use Rattle.kmn_base.specs.declared.limits.TheConstants.{FILE_NAME_UNITS, CONTEXT_ITEMS, OUTPUT_ITEMS, STORES, GROUPS, RECORDS, PICTURE_BYTES, FILE_BYTES}
use Rattle.kmn_base.specs.declared.units.UnitItem.{UnitItem}
use Rattle.kmn_base.proofs.Elements.{All-append_parts}
use Rattle.item_codec.specs.Walk.{spelled_size, results_of}
use Rattle.kmx_format.specs.TablesOf.{word_at, before_zero, string_at, items_of, uses_keys_at}
use Rattle.kmx_format.specs.Versions.{is_version}
use Rattle.item_codec.proofs.Results.{Results}
use Rattle.kmx_view.specs.View.{has_zero, is_ended, store_count, group_count}
use Rattle.kmx_verifier.specs.declared.faults.StringKind.{StringKind}
use Rattle.kmx_verifier.specs.declared.faults.StringKind.TheVariants as of
use Rattle.kmx_verifier.specs.declared.faults.Target.{Target}
use Rattle.kmx_verifier.specs.Items.{target_of, is_permitted, code_of, stores_named, groups_named, points_right}
use Rattle.kmx_verifier.specs.FaultOf.{broken, broken_by, item_fault, walk_fault, context_fault, read_at, item_count, string_fault, context_string_fault, name_fault, too_many_elements, store_fault, elements_in, stores_fault, context_targets, flags_fault, record_fault, records_fault, records_place_fault, group_strings_fault, group_fault, groups_fault, size_fault, header_fault, arrays_fault, fault_of, no_group}
use Rattle.kmx_verifier.specs.Looked.{Range, string_range, header_looked, stores_looked, records_looked, groups_looked, IsSameAt, OtherBytesChangeNothing}

-- ---- bytes that are the same

module _ (bytes other : List ℕ) (same_length : length bytes ≡ length other) where
  -- if two files have the same bytes in a range, they have the same bytes in each part of it
  same_part : (range : Range) (d n : ℕ) → d + n ≤ range.size → IsSameAt bytes other range
      → take n (drop (range.place + d) bytes) ≡ take n (drop (range.place + d) other)
  same_part range d n within same =
      let part : (xs : List ℕ) → take n (drop (range.place + d) xs) ≡ take n (drop d (take range.size (drop range.place xs))) =
      λ xs.
      ap (take n) (sym (drop-drop d range.place xs))
      ∙ sym (drop-take d n (drop range.place xs))
      ∙ ap (drop d) (sym (take-take (d + n) range.size (drop range.place xs) within))
      ∙ drop-take d n (take range.size (drop range.place xs)) in
      part bytes ∙ ap (λ (ys : List ℕ). take n (drop d ys)) same ∙ sym (part other)

  same_word : (range : Range) (d : ℕ) → d + 4 ≤ range.size → IsSameAt bytes other range → word_at bytes (range.place + d) ≡ word_at other (range.place + d)
  unfolding word_at
  same_word range d within same =
      ap₂ (λ (size : ℕ) (ys : List ℕ). if nat_le (range.place + d + 4) size then from_le_bytes w32 ys else 0) same_length (same_part range d 4 within same)

  -- if two files have the same bytes in a range, they have the same word at each place within it
  word_same : (range : Range) (d place : ℕ) → range.place + d ≡ place → d + 4 ≤ range.size → IsSameAt bytes other range → word_at bytes place ≡ word_at other place
  word_same range d place at within same = subst (λ (p : ℕ). word_at bytes p ≡ word_at other p) at (same_word range d within same)

-- ---- strings that are the same

-- if two lists have the same beginning of two bytes or more, their first two bytes are equal, and so are the others
two_same : (a b c d k : ℕ) (xs ys : List ℕ) → take (suc (suc k)) (a ∷ b ∷ xs) ≡ take (suc (suc k)) (c ∷ d ∷ ys) → (a ≡ c) × (b ≡ d) × (take k xs ≡ take k ys)
two_same a b c d k xs ys h = (ap (λ (l : List ℕ). get_or l 0 0) h, ap (λ (l : List ℕ). get_or l 1 0) h, ap (drop 2) h)

-- the units up to the first zero unit are the same, and so is whether there is one
abbrev SameUnits : List ℕ → List ℕ → Type 0
SameUnits xs ys = (before_zero xs ≡ before_zero ys) × (has_zero xs ≡ has_zero ys)

unit_same : (u v : ℕ) (us vs : List ℕ) → u ≡ v → (nat_eq u 0 ≡ false → SameUnits us vs) → SameUnits (u ∷ us) (v ∷ vs)
unit_same u v us vs is others =
    subst (λ (w : ℕ). SameUnits (u ∷ us) (w ∷ vs)) is (by_test (nat_eq u 0) others)
  where
    by_test : (b : Bool) → (b ≡ false → SameUnits us vs)
        → ((if b then [] else u ∷ before_zero us) ≡ (if b then [] else u ∷ before_zero vs)) × ((b || has_zero us) ≡ (b || has_zero vs))
    by_test true h = (refl, refl)
    by_test false h = (ap (λ (ws : List ℕ). u ∷ ws) (h refl).0, (h refl).1)

not_zero : (b : Bool) (u : ℕ) (units : List ℕ) → b ≡ false → 2 * length (if b then [] else u ∷ units) + 2 ≡ suc (suc (2 * length units + 2))
not_zero true u units h = absurd (cc)
not_zero false u units h = omega arith

some_size : (n : ℕ) → (k : ℕ) × (2 * n + 2 ≡ suc (suc k))
some_size n = (2 * n, omega arith)

units_same : (xs ys : List ℕ) → length xs ≡ length ys → take (2 * length (before_zero (whole_units xs)) + 2) xs ≡ take (2 * length (before_zero (whole_units xs)) + 2) ys
    → SameUnits (whole_units xs) (whole_units ys)
units_same [] [] l h = (refl, refl)
units_same [] (y ∷ ys) l h = absurd (omega (arith, l))
units_same (x ∷ []) [] l h = absurd (omega (arith, l))
units_same (x ∷ []) (y ∷ []) l h = (refl, refl)
units_same (x ∷ []) (y ∷ z ∷ ys) l h = absurd (omega (arith, l))
units_same (a ∷ b ∷ xs) [] l h = absurd (omega (arith, l))
units_same (a ∷ b ∷ xs) (c ∷ []) l h = absurd (omega (arith, l))
units_same (a ∷ b ∷ xs) (c ∷ d ∷ ys) l h =
    let u : ℕ = a + 256 * b in
    let n : ℕ = length (before_zero (whole_units (a ∷ b ∷ xs))) in
    let size = some_size n in
    let first = two_same a b c d size.0 xs ys (subst (λ (k : ℕ). take k (a ∷ b ∷ xs) ≡ take k (c ∷ d ∷ ys)) size.1 h) in
    unit_same u (c + 256 * d) (whole_units xs) (whole_units ys) (ap₂ (λ p q. p + 256 * q) first.0 first.1)
    (λ some.
    let longer : 2 * n + 2 ≡ suc (suc (2 * length (before_zero (whole_units xs)) + 2)) = not_zero (nat_eq u 0) u (before_zero (whole_units xs)) some in
    units_same xs ys (omega (arith, l)) (two_same a b c d _ xs ys (subst (λ (k : ℕ). take k (a ∷ b ∷ xs) ≡ take k (c ∷ d ∷ ys)) longer h)).2)

string_same : (bytes other : List ℕ) (offset : ℕ) → length bytes ≡ length other → IsSameAt bytes other (string_range bytes offset)
    → (string_at bytes offset ≡ string_at other offset) × (is_ended bytes offset ≡ is_ended other offset)
unfolding string_at
string_same bytes other offset same_length same = by_test (nat_eq offset 0) same
  where
    by_test : (b : Bool) → take (2 * length (if b then [] else before_zero (whole_units (drop offset bytes))) + 2) (drop offset bytes)
        ≡ take (2 * length (if b then [] else before_zero (whole_units (drop offset bytes))) + 2) (drop offset other)
        → ((if b then [] else before_zero (whole_units (drop offset bytes))) ≡ (if b then [] else before_zero (whole_units (drop offset other))))
        × ((b || has_zero (whole_units (drop offset bytes))) ≡ (b || has_zero (whole_units (drop offset other))))
    by_test true h = (refl, refl)
    by_test false h =
        units_same (drop offset bytes) (drop offset other) (length-drop offset bytes ∙ ap (λ n. n - offset) same_length ∙ sym (length-drop offset other)) h

-- ---- walks with the same counts

module _ (bytes other : List ℕ) (stores : store_count bytes ≡ store_count other) (groups : group_count bytes ≡ group_count other) where
  pub item_same : (kind : StringKind) (targets : List Target) (item : UnitItem) (at : ℕ) → item_fault bytes kind targets item at ≡ item_fault other kind targets item at
  item_same kind targets item at =
      ap₂ (λ n g. option_or (broken_by (code_of item) at (not (is_permitted kind item)))
      (option_or (broken V12 at (list_any (nat_lt n) (stores_named item) || list_any (nat_lt g) (groups_named item))) (option_or (broken V13 at (not (points_right targets item))) None))) stores groups

  pub walk_same : (kind : StringKind) (targets : List Target) (at : ℕ) (results : Results) → walk_fault bytes kind targets at results ≡ walk_fault other kind targets at results
  walk_same kind targets at [] = refl
  walk_same kind targets at (Err bad ∷ results) = refl
  walk_same kind targets at (Ok item ∷ results) = ap₂ option_or (item_same kind targets item at) (walk_same kind targets (at + spelled_size item) results)

  pub context_same : (before : List Target) (at : ℕ) (results : Results) → context_fault bytes before at results ≡ context_fault other before at results
  context_same before at [] = refl
  context_same before at (Err bad ∷ results) = refl
  context_same before at (Ok item ∷ results) = ap₂ option_or (item_same of.Context before item at) (context_same (before ++ target_of item ∷ []) (at + spelled_size item) results)

  module _ (same_length : length bytes ≡ length other) where
    module _ (place : ℕ) (word_is : word_at bytes place ≡ word_at other place) (same : IsSameAt bytes other (string_range bytes (word_at bytes place))) where
      read_same : string_at bytes (word_at bytes place) ≡ string_at other (word_at other place)
      read_same = (string_same bytes other (word_at bytes place) same_length same).0 ∙ ap (string_at other) word_is

      ended_same : is_ended bytes (word_at bytes place) ≡ is_ended other (word_at other place)
      ended_same = (string_same bytes other (word_at bytes place) same_length same).1 ∙ ap (is_ended other) word_is

      name_same : name_fault bytes place ≡ name_fault other place
      name_same = ap₂ (λ e (s : List ℕ). option_or (broken V10 place (not e)) (option_or (broken V15 place (nat_lt FILE_NAME_UNITS (length s))) None)) ended_same read_same

      count_same : item_count bytes (word_at bytes place) ≡ item_count other (word_at other place)
      count_same = ap (λ (s : List ℕ). length (items_of s)) read_same

      targets_same : context_targets bytes (word_at bytes place) ≡ context_targets other (word_at other place)
      targets_same = ap (λ (s : List ℕ). map target_of (items_of s)) read_same

      string_fault-same : (kind : StringKind) (targets : List Target) (too_many : ℕ → Bool) → string_fault bytes kind targets place too_many ≡ string_fault other kind targets place too_many
      string_fault-same kind targets too_many =
          ap₂ option_or
          (ap₂ option_or (ap (λ e. broken V10 place (not e)) ended_same)
          (walk_same kind targets (word_at bytes place) (read_at bytes (word_at bytes place))
          ∙ ap₂ (λ at (s : List ℕ). walk_fault other kind targets at (results_of (unit_bytes s))) word_is read_same))
          (ap (λ n. broken V15 place (too_many n)) count_same)

      context_string-same : context_string_fault bytes place ≡ context_string_fault other place
      context_string-same =
          ap₂ option_or
          (ap₂ option_or (ap (λ e. broken V10 place (not e)) ended_same)
          (context_same [] (word_at bytes place) (read_at bytes (word_at bytes place))
          ∙ ap₂ (λ at (s : List ℕ). context_fault other [] at (results_of (unit_bytes s))) word_is read_same))
          (ap (λ n. broken V15 place (nat_lt CONTEXT_ITEMS n)) count_same)

    -- ---- records

    abbrev AllSame : List Range → Type 0
    AllSame ranges = All (IsSameAt bytes other) ranges

    first_same : (range : Range) (ranges : List Range) → AllSame (range ∷ ranges) → IsSameAt bytes other range
    first_same range ranges h = All-head (IsSameAt bytes other) range ranges h

    others_same : (range : Range) (ranges : List Range) → AllSame (range ∷ ranges) → AllSame ranges
    others_same range ranges h = All-tail (IsSameAt bytes other) range ranges h

    stores_same : (before place count : ℕ) → AllSame (stores_looked bytes place count) → stores_fault bytes before place count ≡ stores_fault other before place count
    stores_same before place zero h = refl
    stores_same before place (suc count) h =
        let fields : Range = record { place = place + 4; size = 8 } in
        let name : Range = string_range bytes (word_at bytes (place + 4)) in
        let content : Range = string_range bytes (word_at bytes (place + 8)) in
        let rest : List Range = stores_looked bytes (place + 12) count in
        let h1 : AllSame (name ∷ content ∷ rest) = others_same fields (name ∷ content ∷ rest) h in
        let h2 : AllSame (content ∷ rest) = others_same name (content ∷ rest) h1 in
        let at : IsSameAt bytes other fields = first_same fields (name ∷ content ∷ rest) h in
        let name_is : word_at bytes (place + 4) ≡ word_at other (place + 4) =
        word_same bytes other same_length fields 0 (place + 4) (omega arith) (omega arith) at in
        let content_is : word_at bytes (place + 8) ≡ word_at other (place + 8) =
        word_same bytes other same_length fields 4 (place + 8) (omega arith) (omega arith) at in
        let content_at : IsSameAt bytes other content = first_same content rest h2 in
        let store : store_fault bytes before place ≡ store_fault other before place =
        ap₂ option_or (name_same (place + 4) name_is (first_same name (content ∷ rest) h1))
        (ap (λ f. option_or f None) (string_fault-same (place + 8) content_is content_at of.Store [] (too_many_elements before))) in
        ap₂ option_or store
        (stores_same (before + elements_in bytes place) (place + 12) count (others_same content rest h2)
        ∙ ap (λ n. stores_fault other (before + n) (place + 12) count) (count_same (place + 8) content_is content_at))

    flags_same : (using_keys : Bool) (place : ℕ) → IsSameAt bytes other (if using_keys then record { place = place + 8; size = 12 } else record { place = place + 12; size = 8 })
        → flags_fault bytes using_keys (place + 8) ≡ flags_fault other using_keys (place + 8)
    flags_same false place h = refl
    flags_same true place h =
        let fields : Range = record { place = place + 8; size = 12 } in
        let flags_are : word_at bytes (place + 8) ≡ word_at other (place + 8) =
        word_same bytes other same_length fields 0 (place + 8) (omega arith) (omega arith) h in
        ap (λ n. broken_by 0x0A (place + 8) (true && not (nat_eq (bit_and n SHIFT_FLAGS) n))) flags_are

    offsets_same : (using_keys : Bool) (place : ℕ) → IsSameAt bytes other (if using_keys then record { place = place + 8; size = 12 } else record { place = place + 12; size = 8 })
        → (word_at bytes (place + 12) ≡ word_at other (place + 12)) × (word_at bytes (place + 16) ≡ word_at other (place + 16))
    offsets_same true place h =
        let fields : Range = record { place = place + 8; size = 12 } in (
          word_same bytes other same_length fields 4 (place + 12) (omega arith) (omega arith) h,
          word_same bytes other same_length fields 8 (place + 16) (omega arith) (omega arith) h,
        )
    offsets_same false place h =
        let fields : Range = record { place = place + 12; size = 8 } in (
          word_same bytes other same_length fields 0 (place + 12) (omega arith) (omega arith) h,
          word_same bytes other same_length fields 4 (place + 16) (omega arith) (omega arith) h,
        )

    records_same : (using_keys : Bool) (place count : ℕ) → AllSame (records_looked bytes using_keys place count) → records_fault bytes using_keys place count ≡ records_fault other using_keys place count
    records_same using_keys place zero h = refl
    records_same using_keys place (suc count) h =
        let fields : Range = if using_keys then record { place = place + 8; size = 12 } else record { place = place + 12; size = 8 } in
        let context : Range = string_range bytes (word_at bytes (place + 16)) in
        let output : Range = string_range bytes (word_at bytes (place + 12)) in
        let rest : List Range = records_looked bytes using_keys (place + 20) count in
        let h1 : AllSame (context ∷ output ∷ rest) = others_same fields (context ∷ output ∷ rest) h in
        let h2 : AllSame (output ∷ rest) = others_same context (output ∷ rest) h1 in
        let at : IsSameAt bytes other fields = first_same fields (context ∷ output ∷ rest) h in
        let offsets = offsets_same using_keys place at in
        let context_at : IsSameAt bytes other context = first_same context (output ∷ rest) h1 in
        let same_record : record_fault bytes using_keys place ≡ record_fault other using_keys place =
        ap₂ option_or (flags_same using_keys place at)
        (ap₂ option_or (context_string-same (place + 16) offsets.1 context_at)
        (ap (λ f. option_or f None)
        (ap (λ (ts : List Target). string_fault bytes of.Output ts (place + 12) (nat_lt OUTPUT_ITEMS)) (targets_same (place + 16) offsets.1 context_at)
        ∙ string_fault-same (place + 12) offsets.0 (first_same output rest h2) of.Output (context_targets other (word_at other (place + 16))) (nat_lt OUTPUT_ITEMS)))) in
        ap₂ option_or same_record (records_same using_keys (place + 20) count (others_same output rest h2))

    groups_same : (before place count : ℕ) → AllSame (groups_looked bytes place count) → groups_fault bytes before place count ≡ groups_fault other before place count
    groups_same before place zero h = refl
    groups_same before place (suc count) h =
        let fields : Range = record { place = place; size = 24 } in
        let name : Range = string_range bytes (word_at bytes place) in
        let on_match : Range = string_range bytes (word_at bytes (place + 8)) in
        let on_nomatch : Range = string_range bytes (word_at bytes (place + 12)) in
        let records : List Range = records_looked bytes (uses_keys_at bytes place) (word_at bytes (place + 4)) (word_at bytes (place + 16)) in
        let rest : List Range = groups_looked bytes (place + 24) count in
        let h1 : AllSame (name ∷ on_match ∷ on_nomatch ∷ (records ++ rest)) = others_same fields (name ∷ on_match ∷ on_nomatch ∷ (records ++ rest)) h in
        let h2 : AllSame (on_match ∷ on_nomatch ∷ (records ++ rest)) = others_same name (on_match ∷ on_nomatch ∷ (records ++ rest)) h1 in
        let h3 : AllSame (on_nomatch ∷ (records ++ rest)) = others_same on_match (on_nomatch ∷ (records ++ rest)) h2 in
        let both : AllSame records × AllSame rest = All-append_parts (IsSameAt bytes other) records rest (others_same on_nomatch (records ++ rest) h3) in
        let at : IsSameAt bytes other fields = first_same fields (name ∷ on_match ∷ on_nomatch ∷ (records ++ rest)) h in
        let name_is : word_at bytes place ≡ word_at other place =
        word_same bytes other same_length fields 0 place (omega arith) (omega arith) at in
        let keys_are : word_at bytes (place + 4) ≡ word_at other (place + 4) = same_word bytes other same_length fields 4 (omega arith) at in
        let match_is : word_at bytes (place + 8) ≡ word_at other (place + 8) = same_word bytes other same_length fields 8 (omega arith) at in
        let nomatch_is : word_at bytes (place + 12) ≡ word_at other (place + 12) = same_word bytes other same_length fields 12 (omega arith) at in
        let count_is : word_at bytes (place + 16) ≡ word_at other (place + 16) = same_word bytes other same_length fields 16 (omega arith) at in
        let using_is : word_at bytes (place + 20) ≡ word_at other (place + 20) = same_word bytes other same_length fields 20 (omega arith) at in
        let in_place : records_place_fault bytes before place ≡ records_place_fault other before place =
        λ i. option_or (broken V15 (place + 16) (nat_lt RECORDS (before + count_is i)))
        (option_or (broken V09 (place + 4) (nat_lt 0 (count_is i) && not (nat_le (keys_are i + 20 * count_is i) (same_length i)))) None) in
        let strings : group_strings_fault bytes place ≡ group_strings_fault other place =
        ap₂ option_or (name_same place name_is (first_same name (on_match ∷ on_nomatch ∷ (records ++ rest)) h1))
        (ap₂ option_or (string_fault-same (place + 8) match_is (first_same on_match (on_nomatch ∷ (records ++ rest)) h2) of.Match [] (nat_lt OUTPUT_ITEMS))
        (ap (λ f. option_or f None) (string_fault-same (place + 12) nomatch_is (first_same on_nomatch (records ++ rest) h3) of.Match [] (nat_lt OUTPUT_ITEMS)))) in
        let by_fields : records_fault other (uses_keys_at bytes place) (word_at bytes (place + 4)) (word_at bytes (place + 16))
        ≡ records_fault other (uses_keys_at other place) (word_at other (place + 4)) (word_at other (place + 16)) =
        λ i. records_fault other (not (nat_eq (using_is i) 0)) (keys_are i) (count_is i) in
        let all_records : records_fault bytes (uses_keys_at bytes place) (word_at bytes (place + 4)) (word_at bytes (place + 16))
        ≡ records_fault other (uses_keys_at other place) (word_at other (place + 4)) (word_at other (place + 16)) =
        records_same (uses_keys_at bytes place) (word_at bytes (place + 4)) (word_at bytes (place + 16)) both.0 ∙ by_fields in
        let group : group_fault bytes before place ≡ group_fault other before place =
        ap₂ option_or in_place (ap₂ option_or strings (ap (λ f. option_or f None) all_records)) in
        ap₂ option_or group
        (groups_same (before + word_at bytes (place + 16)) (place + 24) count both.1
        ∙ ap (λ n. groups_fault other (before + n) (place + 24) count) count_is)

pub other_bytes_change_nothing : OtherBytesChangeNothing
unfolding fault_of size_fault header_fault arrays_fault
other_bytes_change_nothing bytes other same_length h =
    let first : Range = record { place = 0; size = 8 } in
    let second : Range = record { place = 24; size = 28 } in
    let third : Range = record { place = 56; size = 8 } in
    let stores : List Range = stores_looked bytes (word_at bytes 32) (store_count bytes) in
    let groups : List Range = groups_looked bytes (word_at bytes 36) (group_count bytes) in
    let parts = All-append_parts (IsSameAt bytes other) header_looked (stores ++ groups) h in
    let arrays = All-append_parts (IsSameAt bytes other) stores groups parts.1 in
    let head : All (IsSameAt bytes other) (first ∷ second ∷ third ∷ []) = parts.0 in
    let more : All (IsSameAt bytes other) (second ∷ third ∷ []) = All-tail (IsSameAt bytes other) first (second ∷ third ∷ []) head in
    let last : All (IsSameAt bytes other) (third ∷ []) = All-tail (IsSameAt bytes other) second (third ∷ []) more in
    let at0 : IsSameAt bytes other first = All-head (IsSameAt bytes other) first (second ∷ third ∷ []) head in
    let at24 : IsSameAt bytes other second = All-head (IsSameAt bytes other) second (third ∷ []) more in
    let at56 : IsSameAt bytes other third = All-head (IsSameAt bytes other) third [] last in
    let w0 : word_at bytes 0 ≡ word_at other 0 = same_word bytes other same_length first 0 (omega arith) at0 in
    let w4 : word_at bytes 4 ≡ word_at other 4 = same_word bytes other same_length first 4 (omega arith) at0 in
    let w24 : word_at bytes 24 ≡ word_at other 24 = same_word bytes other same_length second 0 (omega arith) at24 in
    let w28 : word_at bytes 28 ≡ word_at other 28 = same_word bytes other same_length second 4 (omega arith) at24 in
    let w32 : word_at bytes 32 ≡ word_at other 32 = same_word bytes other same_length second 8 (omega arith) at24 in
    let w36 : word_at bytes 36 ≡ word_at other 36 = same_word bytes other same_length second 12 (omega arith) at24 in
    let w40 : word_at bytes 40 ≡ word_at other 40 = same_word bytes other same_length second 16 (omega arith) at24 in
    let w44 : word_at bytes 44 ≡ word_at other 44 = same_word bytes other same_length second 20 (omega arith) at24 in
    let w48 : word_at bytes 48 ≡ word_at other 48 = same_word bytes other same_length second 24 (omega arith) at24 in
    let w56 : word_at bytes 56 ≡ word_at other 56 = same_word bytes other same_length third 0 (omega arith) at56 in
    let w60 : word_at bytes 60 ≡ word_at other 60 = same_word bytes other same_length third 4 (omega arith) at56 in
    let size_is : size_fault bytes ≡ size_fault other =
    ap (λ n. option_or (broken V15 0 (nat_lt FILE_BYTES n)) (option_or (broken V01 n (nat_lt n 64)) None)) same_length in
    let head_is : header_fault bytes ≡ header_fault other =
    λ i. option_or (broken V02 0 (not (nat_eq (w0 i) 0x5354_584B))) (option_or (broken V03 4 (not (is_version (w4 i)))) (option_or (broken V04 48 (nat_lt 0x1F (w48 i)))
    (option_or (broken V15 24 (nat_lt STORES (w24 i))) (option_or (broken V15 28 (nat_lt GROUPS (w28 i))) (option_or (broken V05 44 (nat_eq (w44 i) no_group))
    (option_or (broken V06 40 (not (nat_eq (w40 i) no_group) && not (nat_lt (w40 i) (w28 i)))) (option_or (broken V06 44 (not (nat_lt (w44 i) (w28 i)))) None))))))) in
    let arrays_are : arrays_fault bytes ≡ arrays_fault other =
    λ i. option_or (broken V07 32 (nat_lt 0 (w24 i) && not (nat_le (w32 i + 12 * w24 i) (same_length i))))
    (option_or (broken V08 36 (nat_lt 0 (w28 i) && not (nat_le (w36 i + 24 * w28 i) (same_length i))))
    (option_or (broken V16 56 (nat_lt 0 (w60 i) && (not (nat_le (w56 i + w60 i) (same_length i)) || nat_lt PICTURE_BYTES (w60 i)))) None)) in
    ap₂ option_or size_is (ap₂ option_or head_is (ap₂ option_or arrays_are
    (ap₂ option_or
    (stores_same bytes other w24 w28 same_length 0 (word_at bytes 32) (store_count bytes) arrays.0 ∙ ap₂ (stores_fault other 0) w32 w24)
    (ap (λ f. option_or f None)
    (groups_same bytes other w24 w28 same_length 0 (word_at bytes 36) (group_count bytes) arrays.1 ∙ ap₂ (groups_fault other 0) w36 w28)))))
