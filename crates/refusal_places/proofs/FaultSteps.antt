-- One step of a search for a token with a fault: the token at the beginning of the bytes, and the rest after it.
use Rattle.std.proofs.Common.{◌≡◌, ℕ, zero, suc, ◌+◌, ◌-◌, ◌<◌, ◌≤◌, true, false, if◌then◌else◌, List, [], ◌∷◌, length, take, drop, get_or, Option, Some, Ok, refl, sym, ◌∙◌, ap, subst, arith}
use Rattle.std.proofs.lemmas.Bool.{cond-true, cond-false}
use Rattle.kmn_base.specs.Bytes.{is_blank}
use Rattle.kmn_lines.specs.Tokens.{token_size}
use Rattle.refusal_places.specs.declared.spot.Spot.{Spot}
use Rattle.refusal_places.specs.Spots.{Steps, fault_spot, has_fault, spot_at}

-- the bytes of the previous token are skipped
fault_skip : (line n at : ℕ) (bytes : List ℕ) → fault_spot line n at bytes ≡ fault_spot line 0 (at + n) (drop n bytes)
fault_skip line zero at bytes = ap (λ (k : ℕ). fault_spot line 0 k bytes) (omega arith)
fault_skip line (suc n) at [] = refl
fault_skip line (suc n) at (byte ∷ bytes) = fault_skip line n (at + 1) bytes ∙ ap (λ (k : ℕ). fault_spot line 0 k (drop n bytes)) (omega arith)

drop_behind : (byte : ℕ) (bytes : List ℕ) (size : ℕ) → 0 < size → drop (size - 1) bytes ≡ drop size (byte ∷ bytes)
drop_behind byte bytes zero h = absurd (omega arith)
drop_behind byte bytes (suc n) h = ap (λ (k : ℕ). drop k bytes) (omega arith)

-- what is found at a byte that is not a blank, for a size of the token there
abbrev found_at : ℕ → ℕ → ℕ → List ℕ → ℕ → Option Spot
found_at line at byte bytes size =
    if has_fault (take size (byte ∷ bytes)) then Some (spot_at line at) else fault_spot line (size - 1) (at + 1) bytes

found_here : (line at byte : ℕ) (bytes : List ℕ) (size : ℕ) → is_blank byte ≡ false → size ≡ token_size (byte ∷ bytes)
    → fault_spot line 0 at (byte ∷ bytes) ≡ found_at line at byte bytes size
found_here line at byte bytes size blank e = cond-false (is_blank byte) _ _ blank ∙ ap (found_at line at byte bytes) (sym e)

-- a token with a fault
found_fault : (line at byte : ℕ) (bytes : List ℕ) (size : ℕ) → is_blank byte ≡ false → size ≡ token_size (byte ∷ bytes)
    → has_fault (take size (byte ∷ bytes)) ≡ true → fault_spot line 0 at (byte ∷ bytes) ≡ Some (spot_at line at)
found_fault line at byte bytes size blank e fault =
    found_here line at byte bytes size blank e ∙ cond-true (has_fault (take size (byte ∷ bytes))) _ _ fault

-- a token without a fault is followed by the rest
found_behind : (line at byte : ℕ) (bytes : List ℕ) (size : ℕ) → is_blank byte ≡ false → size ≡ token_size (byte ∷ bytes) → 0 < size
    → has_fault (take size (byte ∷ bytes)) ≡ false → fault_spot line 0 at (byte ∷ bytes) ≡ fault_spot line 0 (at + size) (drop size (byte ∷ bytes))
found_behind line at byte bytes size blank e some fine =
    found_here line at byte bytes size blank e
    ∙ cond-false (has_fault (take size (byte ∷ bytes))) _ _ fine
    ∙ fault_skip line (size - 1) (at + 1) bytes
    ∙ ap (λ (k : ℕ). fault_spot line 0 k (drop (size - 1) bytes)) (omega arith)
    ∙ ap (λ (bs : List ℕ). fault_spot line 0 (at + size) bs) (drop_behind byte bytes size some)

-- a step at a token with a fault
pub step_at : (line at : ℕ) (bytes text : List ℕ) (size : ℕ) → 0 < length bytes → is_blank (get_or bytes 0 0) ≡ false → size ≡ token_size bytes → 0 < size
    → text ≡ take size bytes → has_fault text ≡ true → fault_spot line 0 at bytes ≡ Some (spot_at line at)
step_at line at [] text size long blank e some f fault = absurd (omega arith)
step_at line at (byte ∷ bytes) text size long blank e some f fault =
    found_fault line at byte bytes size blank e (ap has_fault (sym f) ∙ fault)

-- a step over a token without a fault
pub step_over : (line at : ℕ) (bytes text : List ℕ) (size : ℕ) → 0 < length bytes → is_blank (get_or bytes 0 0) ≡ false → size ≡ token_size bytes
    → size ≤ length bytes → 0 < size → text ≡ take size bytes → has_fault text ≡ false → Steps line at bytes (Ok size)
step_over line at [] text size long blank e within some f fine = absurd (omega arith)
step_over line at (byte ∷ bytes) text size long blank e within some f fine =
    (some, within, sym (found_behind line at byte bytes size blank e some (ap has_fault (sym f) ∙ fine)))
