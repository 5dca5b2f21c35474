-- The positions in a state stay between the line's start and the current position.
use Rattle.std.proofs.Common.{◌≡◌, ℕ, ◌+◌, ◌<◌, ◌≤◌, Bool, true, false, if◌then◌else◌, ◌==◌, List, ◌∷◌, length, drop, get_or, Option, None, Some, is_some, arith, add-one, drop-cons, subst, sym}
use Rattle.std.proofs.lemmas.Bool.{cond-false}
use Rattle.std.specs.Prelude.{IfSome}
use Rattle.kmn_lines.specs.declared.line_state.LineState.{LineState}
use Rattle.kmn_base.specs.Bytes.{is_blank}
use Rattle.kmn_lines.specs.Bytes.{first_or_end}
use Rattle.kmn_lines.specs.Lines.{starts_comment, outside, in_line, after_byte, ends_line, physical_lines}

-- the positions in a state are between two others
pub record IsBetween (from to : ℕ) (r : LineState) : Type 0 where
  pub slash : IfSome r.slash (λ at. (from ≤ at) × (at ≤ to))
  pub stop : IfSome r.stop (λ at. (from ≤ at) × (at ≤ to))

between-if : (from to : ℕ) (b : Bool) (r s : LineState) → IsBetween from to r → IsBetween from to s → IsBetween from to (if b then r else s)
between-if from to true r s g h = g
between-if from to false r s g h = h

wider : (from to : ℕ) (o : Option ℕ) → IfSome o (λ at. (from ≤ at) × (at ≤ to)) → IfSome o (λ at. (from ≤ at) × (at ≤ to + 1))
wider from to None h = tt
wider from to (Some at) (g, h) = (g, omega arith)

between-wider : (from to : ℕ) (r : LineState) → IsBetween from to r → IsBetween from (to + 1) r
between-wider from to r h = record { slash = wider from to r.slash h.slash; stop = wider from to r.stop h.stop }

between-outside : (from at : ℕ) (r : LineState) (byte next : ℕ) → from ≤ at → IsBetween from (at + 1) r → IsBetween from (at + 1) (outside r at byte next)
between-outside from at r byte next g h =
    between-if from (at + 1) (is_blank byte) _ _ (record { slash = h.slash; stop = h.stop })
    (between-if from (at + 1) (starts_comment r.after_blank byte next) _ _ (record { slash = tt; stop = (g, omega arith) })
    (between-if from (at + 1) (byte == 92) _ _ (record { slash = (g, omega arith); stop = h.stop })
    (record { slash = tt; stop = h.stop })))

between-in_line : (from at : ℕ) (quote : Option ℕ) (r : LineState) (byte next : ℕ) → from ≤ at → IsBetween from (at + 1) r → IsBetween from (at + 1) (in_line quote r at byte next)
between-in_line from at None r byte next g h = between-outside from at r byte next g h
between-in_line from at (Some quote) r byte next g h = between-if from (at + 1) (byte == quote) _ _ (record { slash = h.slash; stop = h.stop }) h

pub between_after_byte : (from at : ℕ) (r : LineState) (byte next : ℕ) → from ≤ at → IsBetween from at r → IsBetween from (at + 1) (after_byte r at byte next)
between_after_byte from at r byte next g h =
    let k : IsBetween from (at + 1) r = between-wider from at r h in
    between-if from (at + 1) (is_some r.stop) _ _ k
    (between-if from (at + 1) (byte == 13) _ _ (record { slash = k.slash; stop = (g, omega arith) })
    (between-in_line from at r.quote r byte next g k))

physical_lines-step_head : (line from : ℕ) (r : LineState) (at byte : ℕ) (bytes : List ℕ) (next : ℕ) → next ≡ first_or_end bytes → ends_line byte next ≡ false → physical_lines line from (after_byte r at byte next) (at + 1) bytes ≡ physical_lines line from r at (byte ∷ bytes)
physical_lines-step_head line from r at byte bytes next e f =
    let g : ends_line byte (first_or_end bytes) ≡ false = subst (λ (n : ℕ). ends_line byte n ≡ false) e f in
    subst (λ (n : ℕ). physical_lines line from (after_byte r at byte n) (at + 1) bytes ≡ physical_lines line from r at (byte ∷ bytes)) (sym e)
    (sym (cond-false (ends_line byte (first_or_end bytes)) _ _ g))

-- the rest of a physical line after a byte that does not end it
pub physical_lines_step : (line from : ℕ) (r : LineState) (at : ℕ) (bytes : List ℕ) (next : ℕ) → at < length bytes → next ≡ first_or_end (drop (at + 1) bytes) → ends_line (get_or bytes at 0) next ≡ false → physical_lines line from (after_byte r at (get_or bytes at 0) next) (at + 1) (drop (at + 1) bytes) ≡ physical_lines line from r at (drop at bytes)
physical_lines_step line from r at bytes next h e f =
    let cons : drop at bytes ≡ get_or bytes at 0 ∷ drop (at + 1) bytes = rw (add-one at) (drop-cons bytes at 0 h) in
    subst (λ (xs : List ℕ). physical_lines line from (after_byte r at (get_or bytes at 0) next) (at + 1) (drop (at + 1) bytes) ≡ physical_lines line from r at xs) (sym cons)
    (physical_lines-step_head line from r at (get_or bytes at 0) (drop (at + 1) bytes) next e f)
