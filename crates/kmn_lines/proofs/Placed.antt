-- The positions of the physical lines and the logical lines of a source.
use Rattle.std.proofs.Common.{◌≡◌, ℕ, ◌+◌, ◌≤◌, Bool, true, false, if◌then◌else◌, ◌==◌, List, [], ◌∷◌, length, drop, Option, None, Some, refl, arith, length-drop}
use Rattle.std.specs.Prelude.{All, IfSome, unwrap_or}
use Rattle.std.proofs.lemmas.Bool.{eqb-true}
use Rattle.std.proofs.lemmas.List.Elements.{All-cons, All-nil}
use Rattle.kmn_lines.specs.declared.line_state.LineState.{LineState}
use Rattle.kmn_lines.specs.declared.line_state.PhysicalLine.{PhysicalLine}
use Rattle.kmn_lines.specs.declared.logical.Logical.{Logical}
use Rattle.kmn_lines.specs.Bytes.{first_or_end}
use Rattle.kmn_lines.specs.Lines.{ends_line, line_start, after_byte, physical_lines, physical_lines_at, extended, gather}
use Rattle.kmn_lines.specs.Places.{IsPlaced}
use Rattle.kmn_lines.proofs.LineStates.{IsBetween}
use Rattle.kmn_lines.proofs.LineStates.{between_after_byte}
use Rattle.kmn_lines.proofs.TextSizes.{all-if}

-- physical lines follow one another from a position to a size, and the number of each fits its position
abbrev pub InRow : ℕ → ℕ → List PhysicalLine → Type 0
InRow at size [] = at ≡ size
InRow at size (p ∷ ps) = (p.from ≡ at) × (at ≤ p.to) × (p.to ≤ p.next) × (p.next ≤ size) × (p.line ≤ at + 1) × InRow p.next size ps

in_row-if : (at size : ℕ) (b : Bool) (ps qs : List PhysicalLine) → (b ≡ true → InRow at size ps) → InRow at size qs → InRow at size (if b then ps else qs)
in_row-if at size true ps qs g h = g refl
in_row-if at size false ps qs g h = h

known-between : (from at : ℕ) (o : Option ℕ) (n : ℕ) → IfSome o (λ k. (from ≤ k) × (k ≤ at)) → (from ≤ n) × (n ≤ at) → (from ≤ unwrap_or o n) × (unwrap_or o n ≤ at)
known-between from at None n h k = k
known-between from at (Some m) n h k = h

pub physical_lines-in_row : (line from : ℕ) (r : LineState) (at size : ℕ) (bytes : List ℕ) → from ≤ at → line ≤ from + 1 → at + length bytes ≡ size → IsBetween from at r → InRow from size (physical_lines line from r at bytes)
physical_lines-in_row line from r at size [] h g e between =
    let to = known-between from at r.slash _ between.slash (known-between from at r.stop at between.stop (h, omega arith)) in
    in_row-if from size (from == at) [] _ (λ same. let s : from ≡ at = eqb-true from at same in omega arith) (refl, to.0, to.1, omega arith, g, omega arith)
physical_lines-in_row line from r at size (byte ∷ bytes) h g e between =
    let to = known-between from at r.slash _ between.slash (known-between from at r.stop at between.stop (h, omega arith)) in
    in_row-if from size (ends_line byte (first_or_end bytes)) _ _
    (λ ends. (
      refl,
      to.0,
      omega arith,
      omega arith,
      g,
      physical_lines-in_row (line + 1) (at + 1) line_start (at + 1) size bytes (omega arith) (omega arith) (omega arith) (record { slash = tt; stop = tt }),
    ))
    (physical_lines-in_row line from (after_byte r at byte (first_or_end bytes)) (at + 1) size bytes (omega arith) g (omega arith)
    (between_after_byte from at r byte (first_or_end bytes) h between))

-- the physical lines from a position in a text on follow one another up to its end
pub physical_lines_at-in_row : (line at : ℕ) (text : List ℕ) → at ≤ length text → line ≤ at + 1 → InRow at (length text) (physical_lines_at line at text)
physical_lines_at-in_row line at text h g =
    physical_lines-in_row line at line_start at (length text) (drop at text) (omega arith) g (omega (arith, length-drop at text)) (record { slash = tt; stop = tt })

-- the logical line that was begun is before a position
abbrev pub IsBegun : List ℕ → ℕ → Option Logical → Type 0
IsBegun source at None = Unit {0}
IsBegun source at (Some l) = IsPlaced source l × (l.to ≡ at)

extended-placed : (source : List ℕ) (begun : Option Logical) (at : ℕ) (p : PhysicalLine) → IsBegun source at begun → p.from ≡ at → at ≤ p.next → p.next ≤ length source → p.line ≤ at + 1 → IsPlaced source (extended begun p)
extended-placed source None at p b e f g h = record { forward = omega arith; within = g; counted = omega arith }
extended-placed source (Some l) at p (b, c) e f g h = record { forward = omega (arith, b.forward); within = g; counted = b.counted }

pub gather-placed : (source : List ℕ) (begun : Option Logical) (at : ℕ) (ps : List PhysicalLine) → IsBegun source at begun → InRow at (length source) ps → All (IsPlaced source) (gather begun ps)
gather-placed source None at [] b row = All-nil (IsPlaced source)
gather-placed source (Some l) at [] b row = All-cons (IsPlaced source) l [] b.0 (All-nil (IsPlaced source))
gather-placed source None at (p ∷ ps) b (e, f, g, h, i, row) =
    let here = extended-placed source None at p b e (omega arith) h i in
    all-if (IsPlaced source) p.joined _ _
    (gather-placed source (Some (extended None p)) p.next ps (here, refl) row)
    (All-cons (IsPlaced source) _ _ here (gather-placed source None p.next ps tt row))
gather-placed source (Some l) at (p ∷ ps) b (e, f, g, h, i, row) =
    let here = extended-placed source (Some l) at p b e (omega arith) h i in
    all-if (IsPlaced source) p.joined _ _
    (gather-placed source (Some (extended (Some l) p)) p.next ps (here, refl) row)
    (All-cons (IsPlaced source) _ _ here (gather-placed source None p.next ps tt row))

pub lines_placed : (source : List ℕ) (line at : ℕ) → at ≤ length source → line ≤ at + 1 → All (IsPlaced source) (gather None (physical_lines_at line at source))
lines_placed source line at h g = gather-placed source None at (physical_lines_at line at source) tt (physical_lines_at-in_row line at source h g)
