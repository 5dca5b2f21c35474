-- The zero unit of a valid file: an empty string is there, after all replaced words.
use Rattle.std.proofs.Common.{◌≡◌, ◌≢◌, ℕ, zero, suc, ◌+◌, ◌-◌, ◌*◌, ◌≤◌, ◌<◌, ◌⊎◌, Bool, true, false, ◌||◌, nat_eq, nat_lt, List, [], ◌∷◌, length, drop, length-drop, Option, Some, None, refl, sym, ap, subst, ◌∙◌, inl, inr, arith, ne_eqb}
use Rattle.std.specs.Prelude.{if◌then◌else◌}
use Rattle.std.specs.Option.{option_or}
use Rattle.std.proofs.lemmas.Bool.{not-false}
use Rattle.std.proofs.lemmas.Bool.Decides.{eqb_tells}
use Rattle.std.proofs.lemmas.List.{drop-drop}
use Rattle.kmn_base.specs.Spelling.{whole_units}
use Rattle.kmx_format.specs.declared.places.TheConstants.{GROUPS_AT, STORES_AT}
use Rattle.kmx_format.specs.TablesOf.{word_at, before_zero, string_at, uses_keys_at}
use Rattle.kmx_view.specs.View.{has_zero, is_ended, store_count, group_count}
use Rattle.kmx_verifier.specs.declared.faults.StringKind.{StringKind}
use Rattle.kmx_verifier.specs.declared.faults.StringKind.TheVariants as of
use Rattle.kmx_verifier.specs.declared.faults.Target.{Target}
use Rattle.kmn_base.specs.declared.limits.TheConstants.{OUTPUT_ITEMS}
use Rattle.kmn_base.proofs.Options.{option_or-none}
use Rattle.kmx_verifier.specs.FaultOf.{name_fault, string_fault, context_string_fault, too_many_elements, elements_in, context_targets, flags_fault, store_fault, stores_fault, record_fault, records_fault, records_place_fault, group_strings_fault, group_fault, groups_fault, size_fault, header_fault, arrays_fault, fault_of, IsValid}
use Rattle.kmx_verifier.proofs.Sound.{broken-none}
use Rattle.core_export.specs.Export.{end_of, end_in_records, end_in_groups, end_in_stores, zero_unit}
use Rattle.core_export.proofs.Kept.{IsClear, StoresClear, RecordsClear, GroupsClear}

-- ---- where a string ends

-- after a number of units of bytes there is a zero unit
record EndsAt (xs : List ℕ) (count : ℕ) : Type 0 where
  blank : before_zero (whole_units (drop (2 * count) xs)) ≡ []
  ended : has_zero (whole_units (drop (2 * count) xs)) ≡ true
  within : 2 * count + 2 ≤ length xs

-- if a string ends, it also ends with one more unit in front
unit_ends : (a b : ℕ) (xs : List ℕ) (t : Bool) → nat_eq (a + 256 * b) 0 ≡ t → (t ≡ false → EndsAt xs (length (before_zero (whole_units xs))))
    → EndsAt (a ∷ b ∷ xs) (length (if nat_eq (a + 256 * b) 0 then [] else (a + 256 * b) ∷ before_zero (whole_units xs)))
unit_ends a b xs true is others =
    let here : EndsAt (a ∷ b ∷ xs) 0 = record {
      blank = ap (λ t. if t then [] else (a + 256 * b) ∷ before_zero (whole_units xs)) is;
      ended = ap (λ t. t || has_zero (whole_units xs)) is;
      within = omega arith;
    } in
    subst (EndsAt (a ∷ b ∷ xs)) (sym (ap (λ t. length (if t then [] else (a + 256 * b) ∷ before_zero (whole_units xs))) is)) here
unit_ends a b xs false is others =
    let n : ℕ = length (before_zero (whole_units xs)) in
    let behind : EndsAt xs n = others refl in
    let twice : 2 * suc n ≡ suc (suc (2 * n)) = omega arith in
    let over : drop (2 * suc n) (a ∷ b ∷ xs) ≡ drop (2 * n) xs = ap (λ k. drop k (a ∷ b ∷ xs)) twice in
    let here : EndsAt (a ∷ b ∷ xs) (suc n) = record {
      blank = ap (λ (ys : List ℕ). before_zero (whole_units ys)) over ∙ behind.blank;
      ended = ap (λ (ys : List ℕ). has_zero (whole_units ys)) over ∙ behind.ended;
      within = omega (arith, behind.within);
    } in
    subst (EndsAt (a ∷ b ∷ xs)) (sym (ap (λ t. length (if t then [] else (a + 256 * b) ∷ before_zero (whole_units xs))) is)) here

ends_at : (xs : List ℕ) → has_zero (whole_units xs) ≡ true → EndsAt xs (length (before_zero (whole_units xs)))
ends_at [] h = absurd (cc)
ends_at (a ∷ []) h = absurd (cc)
ends_at (a ∷ b ∷ xs) h =
    unit_ends a b xs (nat_eq (a + 256 * b) 0) refl (λ is. ends_at xs (sym (ap (λ t. t || has_zero (whole_units xs)) is) ∙ h))

-- the properties of a zero unit that an offset can point to
pub record IsBlank (bytes : List ℕ) (high unit : ℕ) : Type 0 where
  pub behind : high ≤ unit
  pub blank : string_at bytes unit ≡ []
  pub ended : is_ended bytes unit ≡ true
  pub within : unit + 2 ≤ length bytes

module _ (bytes : List ℕ) (high : ℕ) (positive : 0 < high) where
  -- the place is the one after a string that ends in the file
  pub record IsEnd (unit : ℕ) : Type 0 where
    pub offset : ℕ
    pub some : offset ≢ 0
    pub clear : IsClear high offset
    pub ended : is_ended bytes offset ≡ true
    pub is : offset + 2 * length (string_at bytes offset) ≡ unit

  behind_clear : (offset : ℕ) → offset ≢ 0 → IsClear high offset → high ≤ offset
  behind_clear offset some (inl none) = absurd (some none)
  behind_clear offset some (inr there) = there

  string_there : (offset : ℕ) → offset ≢ 0 → string_at bytes offset ≡ before_zero (whole_units (drop offset bytes))
  unfolding string_at
  string_there offset some = ap (λ b. if b then [] else before_zero (whole_units (drop offset bytes))) (ne_eqb offset 0 some)

  ended_there : (offset : ℕ) → offset ≢ 0 → is_ended bytes offset ≡ has_zero (whole_units (drop offset bytes))
  ended_there offset some = ap (λ b. b || has_zero (whole_units (drop offset bytes))) (ne_eqb offset 0 some)

  length_left : (offset size : ℕ) → 2 ≤ size → size ≤ length (drop offset bytes) → offset + size ≤ length bytes
  length_left offset size some h = let left : length (drop offset bytes) ≡ length bytes - offset = length-drop offset bytes in omega (arith, some, h, left)

  pub end_blank : (unit : ℕ) → IsEnd unit → IsBlank bytes high unit
  end_blank unit h =
      let n : ℕ = length (before_zero (whole_units (drop h.offset bytes))) in
      let at : EndsAt (drop h.offset bytes) n = ends_at (drop h.offset bytes) (sym (ended_there h.offset h.some) ∙ h.ended) in
      let place : h.offset + 2 * n ≡ unit = ap (λ (s : List ℕ). h.offset + 2 * length s) (sym (string_there h.offset h.some)) ∙ h.is in
      let there : high ≤ h.offset = behind_clear h.offset h.some h.clear in
      let nonzero : unit ≢ 0 = λ e. omega (arith, e, place, there, positive) in
      let rest : drop unit bytes ≡ drop (2 * n) (drop h.offset bytes) = ap (λ k. drop k bytes) (sym place) ∙ sym (drop-drop (2 * n) h.offset bytes) in
      let room : h.offset + (2 * n + 2) ≤ length bytes = length_left h.offset (2 * n + 2) (omega arith) at.within in
      record {
        behind = omega (arith, there, place);
        blank = string_there unit nonzero ∙ ap (λ (xs : List ℕ). before_zero (whole_units xs)) rest ∙ at.blank;
        ended = ended_there unit nonzero ∙ ap (λ (xs : List ℕ). has_zero (whole_units xs)) rest ∙ at.ended;
        within = omega (arith, room, place);
      }

  -- ---- the strings of a valid file end in it

  end_found : (offset unit : ℕ) → IsClear high offset → is_ended bytes offset ≡ true → end_of bytes offset ≡ Some unit → IsEnd unit
  end_found offset unit clear ended h = by_test (eqb_tells offset 0)
    where
      by_test : ((nat_eq offset 0 ≡ true) × (offset ≡ 0)) ⊎ ((nat_eq offset 0 ≡ false) × (offset ≢ 0)) → IsEnd unit
      by_test (inl none) =
          let apart : None ≡ Some unit = sym (ap (λ b. if b then None else Some (offset + 2 * length (string_at bytes offset))) none.0) ∙ h in absurd (cc)
      by_test (inr found) =
          let is : Some (offset + 2 * length (string_at bytes offset)) ≡ Some unit = sym (ap (λ b. if b then None else Some (offset + 2 * length (string_at bytes offset))) found.0) ∙ h in
          record { offset = offset; some = found.1; clear = clear; ended = ended; is = cc }

  first_found : (unit : ℕ) (a b : Option ℕ) → (a ≡ Some unit → IsEnd unit) → (b ≡ Some unit → IsEnd unit) → option_or a b ≡ Some unit → IsEnd unit
  first_found unit None b h g e = g e
  first_found unit (Some x) b h g e = h e

  name_ended : (place : ℕ) → name_fault bytes place ≡ None → is_ended bytes (word_at bytes place) ≡ true
  name_ended place h = not-false _ (broken-none _ place _ (option_or-none _ _ h).0)

  string_ended : (kind : StringKind) (targets : List Target) (place : ℕ) (too_many : ℕ → Bool) → string_fault bytes kind targets place too_many ≡ None → is_ended bytes (word_at bytes place) ≡ true
  string_ended kind targets place too_many h = not-false _ (broken-none _ place _ (option_or-none _ _ (option_or-none _ _ h).0).0)

  context_ended : (place : ℕ) → context_string_fault bytes place ≡ None → is_ended bytes (word_at bytes place) ≡ true
  context_ended place h = not-false _ (broken-none _ place _ (option_or-none _ _ (option_or-none _ _ h).0).0)

  in_stores : (unit before place count : ℕ) → stores_fault bytes before place count ≡ None → StoresClear bytes high place count → end_in_stores bytes place count ≡ Some unit → IsEnd unit
  in_stores unit before place zero clean clear h = absurd (cc)
  in_stores unit before place (suc count) clean clear h =
      let parts = option_or-none (store_fault bytes before place) _ clean in
      let name = option_or-none _ _ parts.0 in
      let content = option_or-none _ _ name.1 in
      first_found unit _ _
      (first_found unit _ _ (end_found (word_at bytes (place + 4)) unit clear.0 (name_ended (place + 4) name.0))
      (end_found (word_at bytes (place + 8)) unit clear.1 (string_ended of.Store [] (place + 8) (too_many_elements before) content.0)))
      (in_stores unit (before + elements_in bytes place) (place + 12) count parts.1 clear.2) h

  in_records : (unit : ℕ) (using_keys : Bool) (place count : ℕ) → records_fault bytes using_keys place count ≡ None → RecordsClear bytes high place count
      → end_in_records bytes place count ≡ Some unit → IsEnd unit
  in_records unit using_keys place zero clean clear h = absurd (cc)
  in_records unit using_keys place (suc count) clean clear h =
      let parts = option_or-none (record_fault bytes using_keys place) _ clean in
      let flags = option_or-none (flags_fault bytes using_keys (place + 8)) _ parts.0 in
      let context = option_or-none (context_string_fault bytes (place + 16)) _ flags.1 in
      let output = option_or-none (string_fault bytes of.Output (context_targets bytes (word_at bytes (place + 16))) (place + 12) (nat_lt OUTPUT_ITEMS)) _ context.1 in
      first_found unit _ _
      (first_found unit _ _ (end_found (word_at bytes (place + 12)) unit clear.0 (string_ended of.Output (context_targets bytes (word_at bytes (place + 16))) (place + 12) (nat_lt OUTPUT_ITEMS) output.0))
      (end_found (word_at bytes (place + 16)) unit clear.1 (context_ended (place + 16) context.0)))
      (in_records unit using_keys (place + 20) count parts.1 clear.2) h

  in_groups : (unit before place count : ℕ) → groups_fault bytes before place count ≡ None → GroupsClear bytes high place count → end_in_groups bytes place count ≡ Some unit → IsEnd unit
  in_groups unit before place zero clean clear h = absurd (cc)
  in_groups unit before place (suc count) clean clear h =
      let parts = option_or-none (group_fault bytes before place) _ clean in
      let first = option_or-none (records_place_fault bytes before place) _ parts.0 in
      let second = option_or-none (group_strings_fault bytes place) _ first.1 in
      let records = option_or-none _ _ second.1 in
      let name = option_or-none _ _ second.0 in
      let on_match = option_or-none _ _ name.1 in
      let on_nomatch = option_or-none _ _ on_match.1 in
      first_found unit _ _
      (first_found unit _ _
      (first_found unit _ _ (end_found (word_at bytes place) unit clear.0 (name_ended place name.0))
      (first_found unit _ _ (end_found (word_at bytes (place + 8)) unit clear.1 (string_ended of.Match [] (place + 8) (nat_lt OUTPUT_ITEMS) on_match.0))
      (end_found (word_at bytes (place + 12)) unit clear.2 (string_ended of.Match [] (place + 12) (nat_lt OUTPUT_ITEMS) on_nomatch.0))))
      (in_records unit (uses_keys_at bytes place) (word_at bytes (place + 4)) (word_at bytes (place + 16)) records.0 clear.3))
      (in_groups unit (before + word_at bytes (place + 16)) (place + 24) count parts.1 clear.4) h

  pub zero_unit_blank : (unit : ℕ) → IsValid bytes → StoresClear bytes high (word_at bytes STORES_AT) (store_count bytes) → GroupsClear bytes high (word_at bytes GROUPS_AT) (group_count bytes)
      → zero_unit bytes ≡ Some unit → IsBlank bytes high unit
  unfolding fault_of zero_unit
  zero_unit_blank unit valid stores groups h =
      let size = option_or-none (size_fault bytes) _ valid in
      let head = option_or-none (header_fault bytes) _ size.1 in
      let arrays = option_or-none (arrays_fault bytes) _ head.1 in
      let store_faults = option_or-none (stores_fault bytes 0 (word_at bytes STORES_AT) (store_count bytes)) _ arrays.1 in
      let group_faults = option_or-none _ _ store_faults.1 in
      end_blank unit (first_found unit _ _ (in_groups unit 0 (word_at bytes GROUPS_AT) (group_count bytes) group_faults.0 groups) (in_stores unit 0 (word_at bytes STORES_AT) (store_count bytes) store_faults.0 stores) h)
