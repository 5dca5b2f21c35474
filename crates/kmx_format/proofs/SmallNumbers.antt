-- Numbers and units that are read from bytes are small.
use Rattle.std.proofs.Common.{◌≡◌, ℕ, ◌+◌, ◌^◌, ◌<◌, ◌≤◌, Bool, true, false, leb, List, [], ◌∷◌, length, take, drop, refl, sym, ap, ◌∙◌, arith, le-leb, lit<}
use Rattle.std.specs.Prelude.{nat_eq, nat_le, if◌then◌else◌}
use Rattle.std.specs.Int.{w16, w32, from_le_bytes}
use Rattle.std.proofs.lemmas.List.Elements.{All-nil, All-cons, All-head, All-tail, All-take, All-drop, recursion_from_All}
use Rattle.kmn_base.specs.Spelling.{whole_units}
use Rattle.kmn_base.proofs.SmallBytes.{AreBytes, AreUnits, byte_small, whole_units-small}
use Rattle.kmx_format.specs.TablesOf.{half_at, word_at, before_zero, string_at}

word_of_small : (bytes : List ℕ) → AreBytes bytes → from_le_bytes w32 bytes < 2 ^ 32
word_of_small bytes h = omega (arith, byte_small bytes h 0, byte_small bytes h 1, byte_small bytes h 2, byte_small bytes h 3)

half_of_small : (bytes : List ℕ) → AreBytes bytes → from_le_bytes w16 bytes < 2 ^ 16
half_of_small bytes h = omega (arith, byte_small bytes h 0, byte_small bytes h 1)

number_small : (b : Bool) (n limit : ℕ) → 0 < limit → n < limit → (if b then n else 0) < limit
number_small true n limit positive h = h
number_small false n limit positive h = positive

pub word_at-small : (bytes : List ℕ) (place : ℕ) → AreBytes bytes → word_at bytes place < 2 ^ 32
unfolding word_at
word_at-small bytes place h =
    number_small (nat_le (place + 4) (length bytes)) (from_le_bytes w32 (take 4 (drop place bytes))) (2 ^ 32) (lit< tt)
    (word_of_small (take 4 (drop place bytes)) (All-take (λ b. b < 256) 4 (drop place bytes) (All-drop (λ b. b < 256) place bytes h)))

pub half_at-small : (bytes : List ℕ) (place : ℕ) → AreBytes bytes → half_at bytes place < 2 ^ 16
unfolding half_at
half_at-small bytes place h =
    number_small (nat_le (place + 2) (length bytes)) (from_le_bytes w16 (take 2 (drop place bytes))) (2 ^ 16) (lit< tt)
    (half_of_small (take 2 (drop place bytes)) (All-take (λ b. b < 256) 2 (drop place bytes) (All-drop (λ b. b < 256) place bytes h)))

low_half : (bytes : List ℕ) → AreBytes bytes → from_le_bytes w32 (take 4 bytes) < 2 ^ 16 → from_le_bytes w16 (take 2 bytes) ≡ from_le_bytes w32 (take 4 bytes)
low_half [] h small = refl
low_half (a ∷ []) h small = omega arith
low_half (a ∷ b ∷ []) h small = omega arith
low_half (a ∷ b ∷ c ∷ []) h small = omega (arith, small)
low_half (a ∷ b ∷ c ∷ d ∷ bytes) h small = omega (arith, small)

-- a word below 2 ^ 16 is its lower half
pub half_at-word : (bytes : List ℕ) (place : ℕ) → AreBytes bytes → place + 4 ≤ length bytes → word_at bytes place < 2 ^ 16 → half_at bytes place ≡ word_at bytes place
unfolding half_at word_at
half_at-word bytes place h within small =
    let word_inside : leb (place + 4) (length bytes) ≡ true = le-leb _ _ within in
    let half_inside : leb (place + 2) (length bytes) ≡ true = le-leb _ _ (omega (arith, within)) in
    let number : ℕ = from_le_bytes w32 (take 4 (drop place bytes)) in
    let is : (if leb (place + 4) (length bytes) then number else 0) ≡ number = ap (λ b. if b then number else 0) word_inside in
    ap (λ b. if b then from_le_bytes w16 (take 2 (drop place bytes)) else 0) half_inside
    ∙ low_half (drop place bytes) (All-drop (λ b. b < 256) place bytes h) (omega (arith, is, small)) ∙ sym is

unit_more : (b : Bool) (unit : ℕ) (units : List ℕ) → unit < 65536 → AreUnits units → AreUnits (if b then [] else unit ∷ units)
unit_more true unit units h others = All-nil (λ u. u < 65536)
unit_more false unit units h others = All-cons (λ u. u < 65536) unit units h others

before_zero-small : (units : List ℕ) → AreUnits units → AreUnits (before_zero units)
before_zero-small [] h = h
before_zero-small (unit ∷ units) h =
    unit_more (nat_eq unit 0) unit (before_zero units) (All-head (λ u. u < 65536) unit units h) (before_zero-small units (All-tail (λ u. u < 65536) unit units h))

no_units : (b : Bool) (units : List ℕ) → AreUnits units → AreUnits (if b then [] else units)
no_units true units h = All-nil (λ u. u < 65536)
no_units false units h = h

pub string_at-small : (bytes : List ℕ) (offset : ℕ) → AreBytes bytes → AreUnits (string_at bytes offset)
unfolding string_at
string_at-small bytes offset h =
    no_units (nat_eq offset 0) (before_zero (whole_units (drop offset bytes)))
    (before_zero-small (whole_units (drop offset bytes)) (whole_units-small (drop offset bytes) (recursion_from_All (λ b. b < 256) (drop offset bytes) (All-drop (λ b. b < 256) offset bytes h))))
