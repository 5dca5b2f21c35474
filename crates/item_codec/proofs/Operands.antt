-- The fault of operands at the beginning of bytes, and joining units.
use Rattle.std.proofs.Common.{◌≡◌, ℕ, ◌*◌, ◌<◌, false, List, [], ◌∷◌, ◌++◌, length, take, refl, ◌∙◌, ap, arith}
use Rattle.std.specs.Prelude.{nat_lt, Some}
use Rattle.std.proofs.Math.Nat.{mod-add-div}
use Rattle.std.proofs.lemmas.Bool.{cond-false, cond-true, le-ltb, lt-ltb}
use Rattle.std.proofs.lemmas.List.{take_at}
use Rattle.kmn_base.specs.Spelling.{unit_bytes, whole_units, operand_count, operand_fault, end_fault, operands_fault, code_fault, sentinel_fault, unit_fault, fault_at}
use Rattle.kmn_base.proofs.UnitBytes.{whole_units-unit_bytes, length-unit_bytes}

-- the fault of operands at the beginning of bytes is the fault of the operands
pub operands_stand : (code : ℕ) (operands bytes behind : List ℕ) → bytes ≡ unit_bytes operands ++ behind
    → operands_fault code (length operands) bytes ≡ operand_fault code operands
operands_stand code operands bytes behind is =
    let enough : nat_lt (length (unit_bytes operands ++ behind)) (2 * length operands) ≡ false
    = le-ltb _ _ (omega (arith, length-unit_bytes operands behind)) in
    let front : take (length operands) (whole_units (unit_bytes operands ++ behind)) ≡ operands
    = ap (take (length operands)) (whole_units-unit_bytes operands behind) ∙ take_at operands (whole_units behind) (length operands) refl in
    ap (operands_fault code (length operands)) is ∙ cond-false _ _ _ enough ∙ ap (operand_fault code) front

-- if bytes end before the operands, this is the fault
pub operands_end : (code count : ℕ) (bytes : List ℕ) → length bytes < 2 * count → operands_fault code count bytes ≡ Some (end_fault bytes)
operands_end code count bytes ends = cond-true _ _ _ (lt-ltb _ _ ends)

-- a unit at the beginning of bytes is read as this unit
pub fault_at_unit : (unit : ℕ) (bytes behind : List ℕ) → bytes ≡ unit_bytes (unit ∷ []) ++ behind → fault_at bytes ≡ unit_fault unit behind
fault_at_unit unit bytes behind is = ap fault_at is ∙ ap (λ u. unit_fault u behind) (mod-add-div unit 256)

pub sentinel_fault_unit : (code : ℕ) (bytes behind : List ℕ) → bytes ≡ unit_bytes (code ∷ []) ++ behind → sentinel_fault bytes ≡ code_fault code behind (operand_count code)
sentinel_fault_unit code bytes behind is = ap sentinel_fault is ∙ ap (λ u. code_fault u behind (operand_count u)) (mod-add-div code 256)
