-- The names that bytes have are UTF-8.
use Rattle.std.proofs.Common.{◌≡◌, ℕ, zero, suc, ◌+◌, ◌<◌, ◌≤◌, Bool, true, false, ◌&&◌, List, [], ◌∷◌, refl, ◌∙◌, ap, arith, inl, inr, lt-ltb, le-ltb, le-leb, if◌then◌else◌}
use Rattle.std.specs.Prelude.{All, Some, map, unwrap_or}
use Rattle.std.specs.List.{AllByRecursion}
use Rattle.std.specs.Str.{is_utf8}
use Rattle.std.specs.Char.Utf16.{is_high_surrogate, is_low_surrogate, surrogate_pair_char, lone_unit_char, utf16_chars, utf16_lossy_chars}
use Rattle.std.proofs.str.Utf16.{lone_unit_char_low, lone_unit_char_high, lone_unit_char_surrogate}
use Rattle.std.proofs.lemmas.Bool.{cases_lt, and_parts, leb-true, ltb-true, and_from}
use Rattle.std.proofs.lemmas.List.Elements.{All-nil, All-cons, recursion_from_All}
use Rattle.std.proofs.lemmas.Str.{is_utf8-from_IsUtf8}
use lib.Utf8.{scalar, scalars, low_scalar}
use Rattle.kmn_base.proofs.SmallBytes.{AreBytes}
use Rattle.rule_model.specs.declared.tables.Store.{Store}
use Rattle.rule_model.specs.declared.tables.Group.{Group}
use Rattle.kmx_format.specs.declared.sizes.TheConstants.{STORE_BYTES, GROUP_BYTES}
use Rattle.kmx_format.specs.TablesOf.{string_at, name_at, word_at, store_at, stores_from, group_at, groups_from, tables_of}
use Rattle.kmx_format.proofs.SmallNumbers.{string_at-small}
use Rattle.kmx_decompiler.specs.Laws.{NamesAreText}

high_scalar : (c : ℕ) → 0xE000 ≤ c → c < 0x11_0000 → scalar c ≡ true
high_scalar c from below = rw (le-ltb c 0xD800 (omega arith), le-leb 0xE000 c from, lt-ltb c 0x11_0000 below)

-- a unit that is not part of a surrogate pair is a character, or U+FFFD replaces it
lone-scalar : (u : ℕ) → u < 65536 → scalar (unwrap_or (lone_unit_char u) 0xFFFD) ≡ true
lone-scalar u small = elim (cases_lt u 0xD800) [
  | inl low ↦ ap (λ o. scalar (unwrap_or o 0xFFFD)) (lone_unit_char_low u low) ∙ low_scalar u low
  | inr from ↦ elim (cases_lt u 0xE000) [
    | inl below ↦ ap (λ o. scalar (unwrap_or o 0xFFFD)) (lone_unit_char_surrogate u from below)
    | inr high ↦ ap (λ o. scalar (unwrap_or o 0xFFFD)) (lone_unit_char_high u high) ∙ high_scalar u high (omega (arith, small))
  ]
]

pair-scalar : (u v : ℕ) → (is_high_surrogate u && is_low_surrogate v) ≡ true → scalar (surrogate_pair_char u v) ≡ true
pair-scalar u v h =
    let both = and_parts (is_high_surrogate u) (is_low_surrogate v) h in
    let high = and_parts _ _ both.0 in
    let low = and_parts _ _ both.1 in
    let from : 0xD800 ≤ u = leb-true _ _ high.0 in
    let below : u < 0xDC00 = ltb-true _ _ high.1 in
    let from2 : 0xDC00 ≤ v = leb-true _ _ low.0 in
    let below2 : v < 0xE000 = ltb-true _ _ low.1 in
    high_scalar (surrogate_pair_char u v) (omega (arith, from, below, from2, below2)) (omega (arith, from, below, from2, below2))

-- units of 16 bits represent characters
units-scalar : (units : List ℕ) → AllByRecursion (λ unit. unit < 65536) units → scalars (utf16_lossy_chars units) ≡ true
unfolding utf16_chars
units-scalar [] h = refl
units-scalar (u ∷ []) h = and_from (scalar (unwrap_or (lone_unit_char u) 0xFFFD)) true (lone-scalar u h.0) refl
units-scalar (u ∷ v ∷ us) h = by (is_high_surrogate u && is_low_surrogate v) refl (units-scalar us h.1.1) (units-scalar (v ∷ us) h.1)
  where
    by : (t : Bool) → (is_high_surrogate u && is_low_surrogate v) ≡ t → scalars (utf16_lossy_chars us) ≡ true → scalars (utf16_lossy_chars (v ∷ us)) ≡ true
        → scalars (map (λ o. unwrap_or o 0xFFFD) (if t then Some (surrogate_pair_char u v) ∷ utf16_chars us else lone_unit_char u ∷ utf16_chars (v ∷ us))) ≡ true
    by true is rest next = and_from (scalar (surrogate_pair_char u v)) (scalars (utf16_lossy_chars us)) (pair-scalar u v is) rest
    by false is rest next = and_from (scalar (unwrap_or (lone_unit_char u) 0xFFFD)) (scalars (utf16_lossy_chars (v ∷ us))) (lone-scalar u h.0) next

module _ (bytes : List ℕ) (small : AreBytes bytes) where
  name-text : (offset : ℕ) → is_utf8 (name_at bytes offset) ≡ true
  unfolding name_at
  name-text offset =
      let cs : List ℕ = utf16_lossy_chars (string_at bytes offset) in
      is_utf8-from_IsUtf8 (name_at bytes offset) (cs, (units-scalar (string_at bytes offset) (recursion_from_All (λ unit. unit < 65536) (string_at bytes offset) (string_at-small bytes offset small)), refl))

  stores-text : (place count : ℕ) → All (λ (store : Store). is_utf8 store.name ≡ true) (stores_from bytes place count)
  stores-text place zero = All-nil (λ (store : Store). is_utf8 store.name ≡ true)
  stores-text place (suc count) =
      All-cons (λ (store : Store). is_utf8 store.name ≡ true) (store_at bytes place) (stores_from bytes (place + STORE_BYTES) count)
      (name-text (word_at bytes (place + 4))) (stores-text (place + STORE_BYTES) count)

  groups-text : (place count : ℕ) → All (λ (group : Group). is_utf8 group.name ≡ true) (groups_from bytes place count)
  groups-text place zero = All-nil (λ (group : Group). is_utf8 group.name ≡ true)
  groups-text place (suc count) =
      All-cons (λ (group : Group). is_utf8 group.name ≡ true) (group_at bytes place) (groups_from bytes (place + GROUP_BYTES) count)
      (name-text (word_at bytes place)) (groups-text (place + GROUP_BYTES) count)

pub names_are_text : NamesAreText
unfolding tables_of
names_are_text bytes small = record {
  stores = stores-text bytes small (word_at bytes 32) (word_at bytes 24);
  groups = groups-text bytes small (word_at bytes 36) (word_at bytes 28);
}
