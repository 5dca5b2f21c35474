-- The ends of bytes and of physical lines, as loops find them.
use Rattle.std.proofs.Common.{◌≡◌, ℕ, ◌==◌, Bool, true, false, not, ◌&&◌, List, [], ◌∷◌, Option, None, Some, length, take, drop, refl, sym, ap, ◌∙◌, arith, eq-eqb}
use Rattle.std.specs.Prelude.{nat_eq}
use Rattle.std.specs.Bool.{beq}
use Rattle.std.proofs.lemmas.List.{take-append-drop, length-take, take_all}
use Rattle.kmn_lines.specs.Lines.{physical_lines_at, physical_lines_in}
use Rattle.kmn_lines.specs.Places.{IsPlaced}
use Rattle.kmn_lines.specs.declared.line_state.PhysicalLine.{PhysicalLine}
use Rattle.kmn_lines.specs.declared.logical.Logical.{Logical}
use Rattle.line_laws.proofs.Alone.{joints_stand_alone}
use Rattle.import_lines.specs.Written.{inner_ends, begins_lf, ends_cr, ends_whole, ends_joined, is_empty, has_same_ends, line_bytes}

-- a physical line that was read before others, if there is one
abbrev pub pending : Option PhysicalLine → List PhysicalLine → List PhysicalLine
pending None ps = ps
pending (Some p) ps = p ∷ ps

-- whether bytes after others end with a CR, given whether the others do
abbrev pub cr_after : Bool → List ℕ → Bool
cr_after before [] = before
cr_after before (b ∷ bs) = ends_cr (b ∷ bs)

pub cr_step : (b : ℕ) (bs : List ℕ) → ends_cr (b ∷ bs) ≡ cr_after (b == 13) bs
cr_step b [] = refl
cr_step b (c ∷ bs) = refl

pub cr_first : (bs : List ℕ) → cr_after false bs ≡ ends_cr bs
cr_first [] = refl
cr_first (b ∷ bs) = refl

-- whether the last of physical lines after another one is joined with the next line, given whether that one is
abbrev pub joined_after : Bool → List PhysicalLine → Bool
joined_after before [] = before
joined_after before (p ∷ ps) = ends_joined (p ∷ ps)

pub joined_step : (p : PhysicalLine) (ps : List PhysicalLine) → ends_joined (p ∷ ps) ≡ joined_after p.joined ps
joined_step p [] = refl
joined_step p (q ∷ ps) = refl

pub joined_first : (ps : List PhysicalLine) → joined_after false ps ≡ ends_joined ps
joined_first [] = refl
joined_first (p ∷ ps) = refl

-- whether a line of a source is joined with the next depends on its bytes only
pub joined_alone : (source : List ℕ) (l : Logical) → IsPlaced source l → ends_joined (physical_lines_in source l) ≡ ends_joined (physical_lines_at 1 0 (line_bytes source l))
joined_alone source l placed =
    let bytes : List ℕ = take l.to source in
    let forward = placed.forward in
    let within = placed.within in
    let size : length (take l.from bytes) ≡ l.from = omega (arith, length-take l.from bytes, length-take l.to source) in
    ap (λ (at : ℕ). ends_joined (physical_lines_at l.first_line at bytes)) (sym size)
    ∙ ap (λ (xs : List ℕ). ends_joined (physical_lines_at l.first_line (length (take l.from bytes)) xs)) (sym (take-append-drop l.from bytes))
    ∙ joints_stand_alone l.first_line (take l.from bytes) (drop l.from bytes)

-- a whole text as one line
pub whole_text : (text : List ℕ) → take (length text) text ≡ text
whole_text text = take_all (length text) text (omega arith)

five_pass : (a b c d e rest : Bool) → a ≡ true → b ≡ true → c ≡ true → d ≡ true → e ≡ true → rest ≡ (a && (b && (c && (d && (e && rest)))))
five_pass a b c d e rest p q r s t = λ i. sym p i && (sym q i && (sym r i && (sym s i && (sym t i && rest))))

-- two tests are the same
same_of : (a b x y : Bool) → a ≡ x → b ≡ y → not (beq a b) ≡ false → beq x y ≡ true
same_of a b x y p q e = ap (λ c. beq c y) (sym p) ∙ ap (λ c. beq a c) (sym q) ∙ is_true (beq a b) e
  where
    is_true : (c : Bool) → not c ≡ false → c ≡ true
    is_true true e = refl
    is_true false e = sym e

-- tests that pass one by one pass together
pub ends_same : (old new : List ℕ) (n m : ℕ) (a b c d e f g h x y : Bool) → n ≡ inner_ends new → m ≡ inner_ends old → n ≡ m
    → a ≡ begins_lf new → b ≡ begins_lf old → not (beq a b) ≡ false
    → c ≡ ends_cr new → d ≡ ends_cr old → not (beq c d) ≡ false
    → e ≡ is_empty new → f ≡ is_empty old → not (beq e f) ≡ false
    → g ≡ ends_whole new → h ≡ ends_whole old → not (beq g h) ≡ false
    → beq y x ≡ has_same_ends old new x y
ends_same old new n m a b c d e f g h x y n_is m_is counts a_is b_is first c_is d_is last e_is f_is empty g_is h_is whole =
    five_pass (nat_eq (inner_ends new) (inner_ends old)) (beq (begins_lf new) (begins_lf old)) (beq (ends_cr new) (ends_cr old)) (beq (is_empty new) (is_empty old))
    (beq (ends_whole new) (ends_whole old)) (beq y x)
    (eq-eqb (inner_ends new) (inner_ends old) (sym n_is ∙ counts ∙ m_is))
    (same_of a b (begins_lf new) (begins_lf old) a_is b_is first)
    (same_of c d (ends_cr new) (ends_cr old) c_is d_is last)
    (same_of e f (is_empty new) (is_empty old) e_is f_is empty)
    (same_of g h (ends_whole new) (ends_whole old) g_is h_is whole)
