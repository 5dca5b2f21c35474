-- Lemmas on units as bytes.
use Rattle.std.proofs.Common.{◌≡◌, ℕ, zero, suc, ◌+◌, ◌*◌, ◌/◌, ◌%◌, ◌^◌, ◌<◌, ◌≤◌, List, [], ◌∷◌, ◌++◌, length, take, refl, sym, ◌∙◌, ap, arith}
use Rattle.std.specs.List.{All}
use Rattle.std.proofs.Math.Nat.{mod-add-div}
use Rattle.std.proofs.lemmas.List.Concat.{flat_map-append}
use Rattle.std.proofs.lemmas.List.Elements.{All-nil, All-cons, All-head, All-tail}
use Rattle.kmn_base.specs.Spelling.{unit_bytes, whole_units}

pub unit_bytes-append : (us vs : List ℕ) → unit_bytes (us ++ vs) ≡ unit_bytes us ++ unit_bytes vs
unit_bytes-append us vs = flat_map-append (λ unit. (unit % 256) ∷ (unit / 256) ∷ []) us vs

pub whole_units-unit_bytes : (us bytes : List ℕ) → whole_units (unit_bytes us ++ bytes) ≡ us ++ whole_units bytes
whole_units-unit_bytes [] bytes = refl
whole_units-unit_bytes (u ∷ us) bytes =
    let joined : u % 256 + 256 * (u / 256) ≡ u = mod-add-div u 256 in
    let others = whole_units-unit_bytes us bytes in
    cc

pub length-unit_bytes : (us bytes : List ℕ) → length (unit_bytes us ++ bytes) ≡ 2 * length us + length bytes
length-unit_bytes [] bytes = omega arith
length-unit_bytes (u ∷ us) bytes = omega (arith, length-unit_bytes us bytes)

pub unit_low : (low high : ℕ) → low < 256 → (low + 256 * high) % 256 ≡ low
unit_low low high h = omega arith

pub unit_high : (low high : ℕ) → low < 256 → (low + 256 * high) / 256 ≡ high
unit_high low high h = omega arith

-- the bytes of a unit that is joined from two bytes
pub unit_bytes_joined : (low high : ℕ) (us : List ℕ) → low < 256 → unit_bytes ((low + 256 * high) ∷ us) ≡ low ∷ high ∷ unit_bytes us
unit_bytes_joined low high us h =
    let first = unit_low low high h in
    let second = unit_high low high h in
    cc

-- the bytes begin with n whole units
pub record BeginsWithUnits (n : ℕ) (bytes : List ℕ) : Type 0 where
  pub rest : List ℕ
  pub parts : bytes ≡ unit_bytes (take n (whole_units bytes)) ++ rest
  pub count : length (take n (whole_units bytes)) ≡ n
  pub small : All (λ unit. unit < 2 ^ 16) (take n (whole_units bytes))

pub begins_with_units : (n : ℕ) (bytes : List ℕ) → All (λ byte. byte < 256) bytes → 2 * n ≤ length bytes → BeginsWithUnits n bytes
begins_with_units zero bytes h l = record { rest = bytes; parts = refl; count = refl; small = All-nil (λ unit. unit < 2 ^ 16) }
begins_with_units (suc n) [] h l = absurd (omega arith)
begins_with_units (suc n) (low ∷ []) h l = absurd (omega arith)
begins_with_units (suc n) (low ∷ high ∷ bytes) h l =
    let is_byte : ℕ → Type 0 = λ byte. byte < 256 in
    let low_byte : low < 256 = All-head is_byte low (high ∷ bytes) h in
    let high_byte : high < 256 = All-head is_byte high bytes (All-tail is_byte low (high ∷ bytes) h) in
    let others : BeginsWithUnits n bytes
    = begins_with_units n bytes (All-tail is_byte high bytes (All-tail is_byte low (high ∷ bytes) h)) (omega arith) in
    record {
      rest = others.rest;
      parts = ap (λ bs. low ∷ high ∷ bs) others.parts
          ∙ ap (λ bs. bs ++ others.rest) (sym (unit_bytes_joined low high (take n (whole_units bytes)) low_byte));
      count = ap suc others.count;
      small = All-cons (λ unit. unit < 2 ^ 16) (low + 256 * high) (take n (whole_units bytes)) (omega arith) others.small;
    }
