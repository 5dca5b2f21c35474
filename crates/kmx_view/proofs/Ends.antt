-- A string ends in the file exactly where its units and two more bytes fit.
use Rattle.std.proofs.Common.{◌≡◌, ◌≢◌, ne_eqb, ℕ, suc, ◌+◌, ◌*◌, ◌-◌, ◌<◌, ◌≤◌, Bool, true, false, List, [], ◌∷◌, length, drop, refl, sym, ◌∙◌, ap, arith, length-drop}
use Rattle.std.specs.Prelude.{nat_eq, nat_le, ◌||◌, if◌then◌else◌}
use Rattle.kmn_base.specs.Spelling.{unit_bytes, whole_units}
use Rattle.kmx_format.specs.TablesOf.{before_zero, string_at}
use Rattle.kmx_format.proofs.FileSize.{length-unit_bytes}
use Rattle.kmx_view.specs.View.{has_zero, is_ended}

-- another unit at the front
unit_more : (b : Bool) (unit : ℕ) (units : List ℕ) (size : ℕ) → has_zero units ≡ nat_le (2 * length (before_zero units) + 2) size
    → (b || has_zero units) ≡ nat_le (2 * length (if b then [] else unit ∷ before_zero units) + 2) (suc (suc size))
unit_more true unit units size h = grind arith
unit_more false unit units size h = h ∙ grind arith

has_zero-fits : (bytes : List ℕ) → has_zero (whole_units bytes) ≡ nat_le (2 * length (before_zero (whole_units bytes)) + 2) (length bytes)
has_zero-fits [] = refl
has_zero-fits (low ∷ []) = refl
has_zero-fits (low ∷ high ∷ bytes) = unit_more (nat_eq (low + 256 * high) 0) (low + 256 * high) (whole_units bytes) (length bytes) (has_zero-fits bytes)

shifted : (size place whole : ℕ) → 0 < size → nat_le size (whole - place) ≡ nat_le (place + size) whole
shifted size place whole positive = grind (arith, positive)

ended_at : (b : Bool) (bytes string : List ℕ) (offset : ℕ) → b ≡ false → string ≡ unit_bytes (if b then [] else before_zero (whole_units (drop offset bytes)))
    → (b || has_zero (whole_units (drop offset bytes))) ≡ nat_le (offset + (length string + 2)) (length bytes)
ended_at true bytes string offset some is = absurd (cc)
ended_at false bytes string offset some is =
    let units : List ℕ = before_zero (whole_units (drop offset bytes)) in
    let size : length string ≡ 2 * length units = ap length is ∙ length-unit_bytes units in
    has_zero-fits (drop offset bytes) ∙ ap (λ n. nat_le (2 * length units + 2) n) (length-drop offset bytes)
    ∙ shifted (2 * length units + 2) offset (length bytes) (omega arith) ∙ ap (λ n. nat_le (offset + (n + 2)) (length bytes)) (sym size)

ended_fits : (bytes string : List ℕ) (offset : ℕ) → offset ≢ 0 → string ≡ unit_bytes (string_at bytes offset)
    → is_ended bytes offset ≡ nat_le (offset + (length string + 2)) (length bytes)
unfolding string_at
ended_fits bytes string offset some is = ended_at (nat_eq offset 0) bytes string offset (ne_eqb offset 0 some) is

pub ended_where_it_fits : (bytes string : List ℕ) (offset : ℕ) → offset ≢ 0 → string ≡ unit_bytes (string_at bytes offset) → offset + length string + 2 ≤ length bytes
    → is_ended bytes offset ≡ true
ended_where_it_fits bytes string offset some is fits = ended_fits bytes string offset some is ∙ grind (arith, fits)

pub unended : (bytes string : List ℕ) (offset : ℕ) → offset ≢ 0 → string ≡ unit_bytes (string_at bytes offset) → length bytes < offset + length string + 2
    → is_ended bytes offset ≡ false
unended bytes string offset some is short = ended_fits bytes string offset some is ∙ grind (arith, short)
