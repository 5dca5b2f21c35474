-- Joined bytes have the line ends of both.
use Rattle.std.proofs.Common.{◌≡◌, ℕ, ◌+◌, ◌==◌, Bool, true, false, not, ◌&&◌, List, [], ◌∷◌, ◌++◌, length, take, refl, sym, ◌∙◌, subst, if◌then◌else◌, arith, append-nil}
use Rattle.std.specs.Prelude.{flat_map, ◌||◌}
use Rattle.std.specs.List.{AllZip}
use Rattle.std.proofs.lemmas.Bool.Decides.{nat_tests}
use Rattle.std.proofs.lemmas.Bool.{false≢true}
use Rattle.kmn_base.specs.Texts.{bom_size}
use Rattle.kmn_lines.specs.Lines.{logicals}
use Rattle.kmn_lines.specs.Laws.{line_ends}
use Rattle.kmn_lines.specs.declared.logical.Logical.{Logical}
use Rattle.kmn_lines.proofs.Whole.{lines_make_the_source}
use Rattle.import_lines.specs.declared.rewrite.WrittenLine.{WrittenLine}
use Rattle.import_lines.specs.Written.{line_bytes, inner_ends, ends_cr}
use Rattle.kmn_import.specs.Import.{written_source, rewritten_source}
use Rattle.kmn_import.specs.Laws.{AreAlike, IsKeptInPlace, LinesAreAsMany}
use Rattle.kmn_import.proofs.Kept.{alike_self, rewriting_keeps_lines}

-- one for a truth
abbrev one_if : Bool → ℕ
one_if b = if b then 1 else 0

-- no byte is both
one_of : (b : ℕ) (lf : Bool) → one_if ((b == 10) || ((b == 13) && lf)) ≡ one_if (b == 10) + one_if ((b == 13) && lf)
one_of b true = grind (arith, nat_tests)
one_of b false = grind (arith, nat_tests)

-- a CR at the end of the front ends a line unless the back begins with an LF
inner_joined : (xs : List ℕ) (y : ℕ) (ys : List ℕ) → inner_ends (xs ++ (y ∷ ys)) ≡ inner_ends xs + (one_if (ends_cr xs && not (y == 10)) + inner_ends (y ∷ ys))
inner_joined [] y ys = omega arith
inner_joined (x ∷ []) y ys =
    let one = one_of x (not (y == 10)) in
    omega (arith, one)
inner_joined (x ∷ z ∷ xs) y ys =
    let rest = inner_joined (z ∷ xs) y ys in
    omega (arith, rest)

cr_joined : (xs : List ℕ) (y : ℕ) (ys : List ℕ) → ends_cr (xs ++ (y ∷ ys)) ≡ ends_cr (y ∷ ys)
cr_joined [] y ys = refl
cr_joined (x ∷ []) y ys = refl
cr_joined (x ∷ z ∷ xs) y ys = cr_joined (z ∷ xs) y ys

-- joined bytes of parts that are alike are alike
pub alike_joined : (a b xs ys : List ℕ) → AreAlike a xs → AreAlike b ys → AreAlike (a ++ b) (xs ++ ys)
alike_joined [] b [] ys front back = back
alike_joined [] b (x ∷ xs) ys front back = absurd (false≢true (sym front.empty))
alike_joined (c ∷ a) b [] ys front back = absurd (false≢true front.empty)
alike_joined (c ∷ a) [] (x ∷ xs) [] front back =
    subst (λ (new : List ℕ). AreAlike new ((x ∷ xs) ++ [])) (sym (append-nil (c ∷ a)))
    (subst (λ (old : List ℕ). AreAlike (c ∷ a) old) (sym (append-nil (x ∷ xs))) front)
alike_joined (c ∷ a) [] (x ∷ xs) (y ∷ ys) front back = absurd (false≢true (sym back.empty))
alike_joined (c ∷ a) (d ∷ b) (x ∷ xs) [] front back = absurd (false≢true back.empty)
alike_joined (c ∷ a) (d ∷ b) (x ∷ xs) (y ∷ ys) front back = record {
  inner =
      inner_joined (c ∷ a) d b
      ∙ (λ i. front.inner i + (one_if (front.last i && not (back.first i)) + back.inner i))
      ∙ sym (inner_joined (x ∷ xs) y ys);
  first = front.first;
  last = cr_joined (c ∷ a) d b ∙ back.last ∙ sym (cr_joined (x ∷ xs) y ys);
  empty = refl;
}

all_alike : (source : List ℕ) (ls : List Logical) (lines : List WrittenLine) → AllZip (IsKeptInPlace source) ls lines
    → AreAlike (flat_map (λ (line : WrittenLine). line.bytes) lines) (flat_map (line_bytes source) ls)
all_alike source [] [] h = alike_self []
all_alike source [] (line ∷ lines) h = absurd h
all_alike source (l ∷ ls) [] h = absurd h
all_alike source (l ∷ ls) (line ∷ lines) h =
    alike_joined line.bytes (flat_map (λ (line : WrittenLine). line.bytes) lines) (line_bytes source l) (flat_map (line_bytes source) ls) h.0.alike (all_alike source ls lines h.1)

-- the lines that end among bytes are those inside, and one at a CR at the end
ends_are : (xs : List ℕ) → line_ends (length xs) xs ≡ inner_ends xs + one_if (ends_cr xs)
ends_are [] = refl
ends_are (x ∷ []) = grind (arith, nat_tests)
ends_are (x ∷ y ∷ xs) = let rest = ends_are (y ∷ xs) in omega (arith, rest)

pub lines_are_as_many : LinesAreAsMany
lines_are_as_many source =
    let mark : List ℕ = take (bom_size source) source in
    let new : List ℕ = (rewritten_source source).text in
    let joined = alike_joined mark (flat_map (λ (line : WrittenLine). line.bytes) (written_source source)) mark (flat_map (line_bytes source) (logicals source))
    (alike_self mark) (all_alike source (logicals source) (written_source source) (rewriting_keeps_lines source)) in
    let outline : AreAlike new source = subst (λ (old : List ℕ). AreAlike new old) (lines_make_the_source source) joined in
    ends_are new ∙ (λ i. outline.inner i + one_if (outline.last i)) ∙ sym (ends_are source)
