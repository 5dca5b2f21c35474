-- Bytes are below 256, and units below 65,536.
use Rattle.std.proofs.Common.{Fits, w8, slice_index_or, ℕ, zero, suc, ◌+◌, ◌*◌, ◌/◌, ◌%◌, ◌<◌, List, [], ◌∷◌, get_or, arith, lit<}
use Rattle.std.specs.List.{All, AllByRecursion}
use Rattle.std.proofs.lemmas.List.Elements.{All-nil, All-cons, All-head, All-tail, All-from_get_or}
use Rattle.kmn_base.specs.Spelling.{unit_bytes, whole_units}

-- all numbers of a list are bytes
abbrev pub AreBytes : List ℕ → Type 0
AreBytes = All (λ byte. byte < 256)

-- the bytes of a slice are bytes
pub bytes_small : (xs : List ℕ) → ((i : ℕ) → Fits w8 (slice_index_or xs i 0)) → AreBytes xs
bytes_small xs h = All-from_get_or (λ byte. byte < 256) xs 0 (λ i _. omega (arith, h i))

pub byte_small : (bytes : List ℕ) → AreBytes bytes → (i : ℕ) → get_or bytes i 0 < 256
byte_small [] h i = lit< tt
byte_small (byte ∷ bytes) h zero = All-head (λ b. b < 256) byte bytes h
byte_small (byte ∷ bytes) h (suc i) = byte_small bytes (All-tail (λ b. b < 256) byte bytes h) i

-- all numbers of a list are UTF-16 units
abbrev pub AreUnits : List ℕ → Type 0
AreUnits = All (λ unit. unit < 65536)

pub whole_units-small : (bytes : List ℕ) → AllByRecursion (λ byte. byte < 256) bytes → AreUnits (whole_units bytes)
whole_units-small [] h = All-nil (λ unit. unit < 65536)
whole_units-small (low ∷ []) h = All-nil (λ unit. unit < 65536)
whole_units-small (low ∷ high ∷ bytes) h = All-cons (λ unit. unit < 65536) (low + 256 * high) (whole_units bytes) (omega (arith, h.0, h.1.0)) (whole_units-small bytes h.1.1)

pub unit_bytes-small : (units : List ℕ) → AreUnits units → AreBytes (unit_bytes units)
unit_bytes-small [] h = All-nil (λ b. b < 256)
unit_bytes-small (unit ∷ units) h =
    let small : unit < 65536 = All-head (λ u. u < 65536) unit units h in
    All-cons (λ b. b < 256) (unit % 256) (unit / 256 ∷ unit_bytes units) (omega arith)
    (All-cons (λ b. b < 256) (unit / 256) (unit_bytes units) (omega (arith, small)) (unit_bytes-small units (All-tail (λ u. u < 65536) unit units h)))
