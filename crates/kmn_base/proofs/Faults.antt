-- At each position of bytes there is exactly one of: the end, an item, a fault.
use Rattle.std.proofs.Common.{◌≡◌, ℕ, ◌+◌, ◌*◌, ◌/◌, ◌%◌, true, false, Some, None, List, [], ◌∷◌, ◌++◌, length, take, refl, ◌∙◌, ap, inl, inr, arith, lit<}
use Rattle.std.specs.Prelude.{nat_eq, nat_lt}
use Rattle.std.specs.List.{AllByRecursion, list_any}
use Rattle.std.proofs.Math.Nat.{mod-add-div}
use Rattle.std.proofs.lemmas.Bool.{cond-false, le-ltb, ne_eqb}
use Rattle.std.proofs.lemmas.Bool.Decides.{nat_tests}
use Rattle.std.proofs.lemmas.List.{take_at}
use Rattle.kmn_base.specs.declared.units.UnitItem.TheVariants.{Char, Any, Index, Context, Nul, Enter, Stop, Beep, Dead, Key, ContextAt, NotAny, Set, Test, Save, Reset, SystemTest, SetSystem}
use Rattle.kmn_base.specs.Laws.{SpelledItemIsNoFault}
use Rattle.kmn_base.specs.Spelling.{char_units, IsOperand, IsSpellable, unit_bytes, whole_units, is_high_surrogate, is_low_surrogate, operand_count, operand_fault, operands_fault, without_code, code_fault, unit_fault, fault_at, is_comparing}
use Rattle.kmn_base.proofs.UnitBytes.{whole_units-unit_bytes, length-unit_bytes}
use Rattle.kmn_base.proofs.Spelling.{IsNarrow, IsWide, character_cases, comparison_is_operand}

-- the bytes of a unit are read as that unit
fault_at-unit : (unit : ℕ) (bytes : List ℕ) → fault_at (unit_bytes (unit ∷ []) ++ bytes) ≡ unit_fault unit bytes
fault_at-unit unit bytes = ap (λ u. unit_fault u bytes) (mod-add-div unit 256)

fault_at-sentinel : (code : ℕ) (bytes : List ℕ) → fault_at (unit_bytes (0xFFFF ∷ code ∷ []) ++ bytes) ≡ code_fault code bytes (operand_count code)
fault_at-sentinel code bytes = ap (λ u. code_fault u bytes (operand_count u)) (mod-add-div code 256)

operands_fault-units : (code : ℕ) (operands bytes : List ℕ) → operands_fault code (length operands) (unit_bytes operands ++ bytes) ≡ operand_fault code operands
operands_fault-units code operands bytes =
    let enough : nat_lt (length (unit_bytes operands ++ bytes)) (2 * length operands) ≡ false
    = le-ltb _ _ (omega (arith, length-unit_bytes operands bytes)) in
    let front : take (length operands) (whole_units (unit_bytes operands ++ bytes)) ≡ operands
    = ap (take (length operands)) (whole_units-unit_bytes operands bytes) ∙ take_at operands (whole_units bytes) (length operands) refl in
    cond-false _ _ _ enough ∙ ap (operand_fault code) front

-- an item with a sentinel is not a fault if it has as many operands as its code requires and they have the required form
fault_at-coded : (code : ℕ) (operands rest : List ℕ) → operand_count code ≡ Some (length operands) → operand_fault code operands ≡ None
    → fault_at (unit_bytes (0xFFFF ∷ code ∷ operands) ++ rest) ≡ None
fault_at-coded code operands rest count form =
    fault_at-sentinel code (unit_bytes operands ++ rest)
    ∙ ap (code_fault code (unit_bytes operands ++ rest)) count
    ∙ ap without_code (operands_fault-units code operands rest ∙ form)

none_is_zero : (operands : List ℕ) → AllByRecursion IsOperand operands → list_any (nat_eq 0) operands ≡ false
none_is_zero [] h = refl
none_is_zero (a ∷ operands) h =
    let first : nat_eq 0 a ≡ false = ne_eqb 0 a (λ e. omega (arith, h.0.0)) in
    let others = none_is_zero operands h.1 in
    rw (first, others)

-- operands that are not 0 have the required form, except the operands of a virtual key and of a comparison
operand_fault-plain : (code : ℕ) (operands : List ℕ) → AllByRecursion IsOperand operands → nat_eq code 0x0A ≡ false → is_comparing code ≡ false → operand_fault code operands ≡ None
operand_fault-plain code operands h no_key no_test = rw (none_is_zero operands h, no_key, no_test)

fault_at-plain : (code : ℕ) (operands rest : List ℕ) → operand_count code ≡ Some (length operands) → nat_eq code 0x0A ≡ false → is_comparing code ≡ false
    → AllByRecursion IsOperand operands → fault_at (unit_bytes (0xFFFF ∷ code ∷ operands) ++ rest) ≡ None
fault_at-plain code operands rest count no_key no_test h = fault_at-coded code operands rest count (operand_fault-plain code operands h no_key no_test)

fault_at-key : (flags code : ℕ) (rest : List ℕ) → IsOperand flags × IsOperand code → fault_at (unit_bytes (0xFFFF ∷ 0x0A ∷ flags ∷ code ∷ 0x10 ∷ []) ++ rest) ≡ None
fault_at-key flags code rest h =
    fault_at-coded 0x0A (flags ∷ code ∷ 0x10 ∷ []) rest refl (rw (none_is_zero (flags ∷ code ∷ 0x10 ∷ []) (h.0, (h.1, ((lit< tt, lit< tt), tt)))) refl)

fault_at-test : (store comparison value : ℕ) (rest : List ℕ) → IsSpellable (Test store comparison value)
    → fault_at (unit_bytes (0xFFFF ∷ 0x14 ∷ store ∷ comparison ∷ value ∷ []) ++ rest) ≡ None
fault_at-test store comparison value rest h =
    let operands : List ℕ = store ∷ comparison ∷ value ∷ [] in
    let no_zero : list_any (nat_eq 0) operands ≡ false = none_is_zero operands (h.0, (comparison_is_operand comparison h.1, (h.2, tt))) in
    fault_at-coded 0x14 operands rest refl (elim h.1 [ inl unequal ↦ rw (no_zero, unequal) refl | inr equal ↦ rw (no_zero, equal) refl ])

fault_at-system_test : (system comparison value : ℕ) (rest : List ℕ) → IsSpellable (SystemTest system comparison value)
    → fault_at (unit_bytes (0xFFFF ∷ 0x17 ∷ system ∷ comparison ∷ value ∷ []) ++ rest) ≡ None
fault_at-system_test system comparison value rest h =
    let operands : List ℕ = system ∷ comparison ∷ value ∷ [] in
    let no_zero : list_any (nat_eq 0) operands ≡ false = none_is_zero operands (h.0, (comparison_is_operand comparison h.1, (h.2, tt))) in
    fault_at-coded 0x17 operands rest refl (elim h.1 [ inl unequal ↦ rw (no_zero, unequal) refl | inr equal ↦ rw (no_zero, equal) refl ])

fault_at-narrow : (c : ℕ) (rest : List ℕ) → IsNarrow c → fault_at (unit_bytes (char_units c) ++ rest) ≡ None
fault_at-narrow c rest narrow =
    ap (λ units. fault_at (unit_bytes units ++ rest)) narrow.units
    ∙ fault_at-unit c rest
    ∙ rw (narrow.no_sentinel, narrow.no_zero, narrow.no_high, narrow.no_low) refl

fault_at-wide : (c : ℕ) (rest : List ℕ) → IsWide c → fault_at (unit_bytes (char_units c) ++ rest) ≡ None
fault_at-wide c rest wide =
    let no_sentinel : nat_eq wide.high 0xFFFF ≡ false = ne_eqb wide.high 0xFFFF (λ e. omega (arith, e, wide.high_to)) in
    let no_zero : nat_eq wide.high 0 ≡ false = ne_eqb wide.high 0 (λ e. omega (arith, e, wide.high_from)) in
    let is_high : is_high_surrogate wide.high ≡ true = grind (arith, nat_tests, wide.high_from, wide.high_to) in
    let is_low : is_low_surrogate wide.low ≡ true = grind (arith, nat_tests, wide.low_from, wide.low_to) in
    let low_unit : wide.low % 256 + 256 * (wide.low / 256) ≡ wide.low = mod-add-div wide.low 256 in
    ap (λ units. fault_at (unit_bytes units ++ rest)) wide.units
    ∙ fault_at-unit wide.high (unit_bytes (wide.low ∷ []) ++ rest)
    ∙ rw (no_sentinel, no_zero, is_high, low_unit, is_low) refl

fault_at-char : (c : ℕ) (rest : List ℕ) → IsSpellable (Char c) → fault_at (unit_bytes (char_units c) ++ rest) ≡ None
fault_at-char c rest h = elim (character_cases c h) [ inl narrow ↦ fault_at-narrow c rest narrow | inr wide ↦ fault_at-wide c rest wide ]

pub spelled_item_is_no_fault : SpelledItemIsNoFault
spelled_item_is_no_fault (Char c) rest h = fault_at-char c rest h
spelled_item_is_no_fault (Any store) rest h = fault_at-plain 0x01 (store ∷ []) rest refl refl refl (h, tt)
spelled_item_is_no_fault (Index store offset) rest h = fault_at-plain 0x02 (store ∷ offset ∷ []) rest refl refl refl (h.0, (h.1, tt))
spelled_item_is_no_fault Context rest h = fault_at-plain 0x03 [] rest refl refl refl tt
spelled_item_is_no_fault Nul rest h = fault_at-plain 0x04 [] rest refl refl refl tt
spelled_item_is_no_fault (Enter group) rest h = fault_at-plain 0x05 (group ∷ []) rest refl refl refl (h, tt)
spelled_item_is_no_fault Stop rest h = fault_at-plain 0x06 [] rest refl refl refl tt
spelled_item_is_no_fault Beep rest h = fault_at-plain 0x07 [] rest refl refl refl tt
spelled_item_is_no_fault (Dead mark) rest h = fault_at-plain 0x08 (mark ∷ []) rest refl refl refl (h, tt)
spelled_item_is_no_fault (Key flags code) rest h = fault_at-key flags code rest h
spelled_item_is_no_fault (ContextAt offset) rest h = fault_at-plain 0x11 (offset ∷ []) rest refl refl refl (h, tt)
spelled_item_is_no_fault (NotAny store) rest h = fault_at-plain 0x12 (store ∷ []) rest refl refl refl (h, tt)
spelled_item_is_no_fault (Set store value) rest h = fault_at-plain 0x13 (store ∷ value ∷ []) rest refl refl refl (h.0, (h.1, tt))
spelled_item_is_no_fault (Test store comparison value) rest h = fault_at-test store comparison value rest h
spelled_item_is_no_fault (Save store) rest h = fault_at-plain 0x15 (store ∷ []) rest refl refl refl (h, tt)
spelled_item_is_no_fault (Reset store) rest h = fault_at-plain 0x16 (store ∷ []) rest refl refl refl (h, tt)
spelled_item_is_no_fault (SystemTest system comparison value) rest h = fault_at-system_test system comparison value rest h
spelled_item_is_no_fault (SetSystem system value) rest h = fault_at-plain 0x18 (system ∷ value ∷ []) rest refl refl refl (h.0, (h.1, tt))
