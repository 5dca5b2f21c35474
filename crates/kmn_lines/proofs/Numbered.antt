-- The number of a line is determined by the line ends before it.
use Rattle.std.proofs.Common.{◌≡◌, ℕ, zero, suc, ◌+◌, ◌<◌, Bool, true, false, ◌&&◌, ◌||◌, if◌then◌else◌, ◌==◌, List, [], ◌∷◌, ◌++◌, length, take, drop, Option, None, Some, refl, sym, ◌∙◌, ap, subst, arith, add-one}
use Rattle.std.specs.Prelude.{All}
use Rattle.std.specs.List.{starts_with}
use Rattle.std.proofs.lemmas.List.Elements.{All-cons, All-nil, All-head, All-tail}
use Rattle.std.proofs.lemmas.Bool.{cond_both}
use Rattle.kmn_lines.specs.declared.line_state.LineState.{LineState}
use Rattle.kmn_lines.specs.declared.line_state.PhysicalLine.{PhysicalLine}
use Rattle.kmn_lines.specs.declared.logical.Logical.{Logical}
use Rattle.kmn_lines.specs.Bytes.{first_or_end}
use Rattle.kmn_base.specs.Texts.{bom_size}
use Rattle.kmn_lines.specs.Lines.{ends_line, line_start, after_byte, physical_line, physical_lines, physical_lines_at, extended, gather, logicals}
use Rattle.kmn_lines.specs.Laws.{is_line_end, line_ends, LinesAreNumbered}
use Rattle.kmn_lines.proofs.Whole.{mark-is}
use Rattle.kmn_lines.proofs.TextSizes.{all-if}

drop-suc : (at : ℕ) (text : List ℕ) (byte : ℕ) (bytes : List ℕ) → drop at text ≡ byte ∷ bytes → drop (suc at) text ≡ bytes
drop-suc zero text byte bytes e = subst (λ (xs : List ℕ). drop 1 xs ≡ bytes) (sym e) refl
drop-suc (suc n) [] byte bytes e = absurd cc
drop-suc (suc n) (x ∷ xs) byte bytes e = drop-suc n xs byte bytes e

pub drop-next : (at : ℕ) (text : List ℕ) (byte : ℕ) (bytes : List ℕ) → drop at text ≡ byte ∷ bytes → drop (at + 1) text ≡ bytes
drop-next at text byte bytes e = ap (λ (n : ℕ). drop n text) (add-one at) ∙ drop-suc at text byte bytes e

abbrev one_if : Bool → ℕ
one_if b = if b then 1 else 0

line_ends-next : (at : ℕ) (text : List ℕ) (byte : ℕ) (bytes : List ℕ) → drop at text ≡ byte ∷ bytes → line_ends (suc at) text ≡ line_ends at text + one_if (is_line_end byte bytes)
line_ends-next zero text byte bytes e = subst (λ (xs : List ℕ). line_ends 1 xs ≡ 0 + one_if (is_line_end byte bytes)) (sym e) (omega arith)
line_ends-next (suc n) [] byte bytes e = absurd cc
line_ends-next (suc n) (x ∷ xs) byte bytes e = let rest = line_ends-next n xs byte bytes e in omega arith

cr-last : (a b : Bool) → (a || (b && false)) ≡ true → (a || b) ≡ true
cr-last true b e = refl
cr-last false true e = absurd cc
cr-last false false e = e

ends-is : (byte : ℕ) (bytes : List ℕ) → ends_line byte (first_or_end bytes) ≡ true → is_line_end byte bytes ≡ true
ends-is byte [] e = cr-last (byte == 10) (byte == 13) e
ends-is byte (next ∷ bytes) e = e

ends-not : (byte : ℕ) (bytes : List ℕ) → 0 < length bytes → ends_line byte (first_or_end bytes) ≡ false → is_line_end byte bytes ≡ false
ends-not byte [] l e = absurd (omega arith)
ends-not byte (next ∷ bytes) l e = e

abbrev IsNumbered : List ℕ → PhysicalLine → Type 0
IsNumbered text p = p.line ≡ 1 + line_ends p.from text

physical_lines-numbered : (text : List ℕ) (line from : ℕ) (r : LineState) (at : ℕ) (bytes : List ℕ) → drop at text ≡ bytes → line ≡ 1 + line_ends from text → (0 < length bytes → line_ends at text ≡ line_ends from text) → All (IsNumbered text) (physical_lines line from r at bytes)
physical_lines-numbered text line from r at [] e f g =
    cond_both (from == at) [] _ (All (IsNumbered text)) (λ same. All-nil (IsNumbered text)) (λ other. All-cons (IsNumbered text) (physical_line line from at at r) [] f (All-nil (IsNumbered text)))
physical_lines-numbered text line from r at (byte ∷ bytes) e f g =
    let next : drop (at + 1) text ≡ bytes = drop-next at text byte bytes e in
    let count : line_ends (at + 1) text ≡ line_ends at text + one_if (is_line_end byte bytes) = ap (λ (k : ℕ). line_ends k text) (add-one at) ∙ line_ends-next at text byte bytes e in
    let same : line_ends at text ≡ line_ends from text = g (omega arith) in
    cond_both (ends_line byte (first_or_end bytes)) _ _ (All (IsNumbered text))
    (λ ends.
    let one : one_if (is_line_end byte bytes) ≡ 1 = ap one_if (ends-is byte bytes ends) in
    All-cons (IsNumbered text) (physical_line line from at (at + 1) r) _ f
    (physical_lines-numbered text (line + 1) (at + 1) line_start (at + 1) bytes next (omega arith) (λ l. refl)))
    (λ goes.
    physical_lines-numbered text line from (after_byte r at byte (first_or_end bytes)) (at + 1) bytes next f
    (λ l. let none : one_if (is_line_end byte bytes) ≡ 0 = ap one_if (ends-not byte bytes l goes) in omega arith))

abbrev HasNumber : List ℕ → Logical → Type 0
HasNumber text l = l.first_line ≡ 1 + line_ends l.from text

abbrev HasBegun : List ℕ → Option Logical → Type 0
HasBegun text None = Unit {0}
HasBegun text (Some l) = HasNumber text l

gather-numbered : (text : List ℕ) (begun : Option Logical) (ps : List PhysicalLine) → HasBegun text begun → All (IsNumbered text) ps → All (HasNumber text) (gather begun ps)
gather-numbered text None [] b h = All-nil (HasNumber text)
gather-numbered text (Some l) [] b h = All-cons (HasNumber text) l [] b (All-nil (HasNumber text))
gather-numbered text None (p ∷ ps) b h =
    let here : IsNumbered text p = All-head (IsNumbered text) p ps h in
    let rest = All-tail (IsNumbered text) p ps h in
    all-if (HasNumber text) p.joined _ _ (gather-numbered text (Some (extended None p)) ps here rest)
    (All-cons (HasNumber text) (extended None p) _ here (gather-numbered text None ps tt rest))
gather-numbered text (Some l) (p ∷ ps) b h =
    let rest = All-tail (IsNumbered text) p ps h in
    all-if (HasNumber text) p.joined _ _ (gather-numbered text (Some (extended (Some l) p)) ps b rest)
    (All-cons (HasNumber text) (extended (Some l) p) _ b (gather-numbered text None ps tt rest))

mark-line : (rest : List ℕ) → line_ends 3 (0xEF ∷ 0xBB ∷ 0xBF ∷ rest) ≡ 0
mark-line [] = refl
mark-line (byte ∷ bytes) = refl

mark-lines : (source : List ℕ) → 0xEF ∷ 0xBB ∷ 0xBF ∷ [] ≡ take 3 source → line_ends 3 source ≡ 0
mark-lines [] e = absurd cc
mark-lines (a ∷ []) e = absurd cc
mark-lines (a ∷ b ∷ []) e = absurd cc
mark-lines (a ∷ b ∷ c ∷ rest) e = subst (λ (xs : List ℕ). line_ends 3 (xs ++ rest) ≡ 0) e (mark-line rest)

none-before : (b : Bool) (source : List ℕ) → (b ≡ true → line_ends 3 source ≡ 0) → line_ends (if b then 3 else 0) source ≡ 0
none-before true source h = h refl
none-before false source h = refl

pub lines_are_numbered : LinesAreNumbered
unfolding logicals
lines_are_numbered source =
    let none : line_ends (bom_size source) source ≡ 0 =
    none-before (starts_with (λ a b. a == b) source (0xEF ∷ 0xBB ∷ 0xBF ∷ [])) source (λ h. mark-lines source (mark-is source h)) in
    gather-numbered source None (physical_lines_at 1 (bom_size source) source) tt
    (physical_lines-numbered source 1 (bom_size source) line_start (bom_size source) (drop (bom_size source) source) refl (omega arith) (λ l. refl))
