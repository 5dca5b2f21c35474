-- A string in a file is read as its units.
use Rattle.std.proofs.Common.{◌≡◌, ◌≢◌, ℕ, ◌+◌, ◌<◌, false, eqb, List, [], ◌∷◌, ◌++◌, drop, refl, ap, ◌∙◌, append_assoc, arith, ne_eqb}
use Rattle.std.specs.List.{All}
use Rattle.std.proofs.lemmas.List.Elements.{All-head, All-tail}
use Rattle.kmn_base.specs.Spelling.{unit_bytes, whole_units}
use Rattle.kmn_base.proofs.UnitBytes.{whole_units-unit_bytes}
use Rattle.kmx_format.specs.File.{string, offset_of}
use Rattle.kmx_format.specs.TablesOf.{before_zero, string_at}
use Rattle.kmx_format.proofs.FileStands.{StandsAt}

pub before_zero-append : (units rest : List ℕ) → All (λ unit. unit ≢ 0) units → before_zero (units ++ 0 ∷ rest) ≡ units
before_zero-append [] rest h = refl
before_zero-append (unit ∷ units) rest h =
    let test : eqb unit 0 ≡ false = ne_eqb unit 0 (All-head (λ u. u ≢ 0) unit units h) in
    rw test (ap (λ us. unit ∷ us) (before_zero-append units rest (All-tail (λ u. u ≢ 0) unit units h)))

pub string_at-stands : (bytes : List ℕ) (place : ℕ) (units : List ℕ) → 0 < place → All (λ unit. unit ≢ 0) units
    → StandsAt bytes place (string units) → string_at bytes (offset_of units place) ≡ units
unfolding string string_at
string_at-stands bytes place [] positive nonzero h = refl
string_at-stands bytes place (unit ∷ units) positive nonzero h =
    let test : eqb place 0 ≡ false = ne_eqb place 0 (omega arith) in
    let parts : drop place bytes ≡ unit_bytes (unit ∷ units) ++ (unit_bytes (0 ∷ []) ++ h.rest) =
    h.is ∙ append_assoc (unit_bytes (unit ∷ units)) (unit_bytes (0 ∷ [])) h.rest in
    let read : before_zero (whole_units (drop place bytes)) ≡ unit ∷ units =
    ap (λ bs. before_zero (whole_units bs)) parts
    ∙ ap before_zero (whole_units-unit_bytes (unit ∷ units) (unit_bytes (0 ∷ []) ++ h.rest))
    ∙ before_zero-append (unit ∷ units) (whole_units h.rest) nonzero in
    rw test read
