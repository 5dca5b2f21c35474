-- The lines of joined bytes are the lines of each.
use Rattle.std.proofs.Common.{◌≡◌, ℕ, ◌+◌, ◌==◌, Bool, true, false, not, ◌&&◌, ◌||◌, if◌then◌else◌, List, [], ◌∷◌, ◌++◌, length, take, drop, map, refl, sym, ◌∙◌, ap, arith, append_assoc, append-nil, length-append}
use Rattle.std.proofs.Math.Seq.{take-append-add, take-append_seam, drop-append_seam}
use Rattle.std.proofs.lemmas.Bool.{eq-eqb, ne_eqb, cond-true, cond-false, cond_both}
use Rattle.kmn_lines.specs.Bytes.{first_or_end}
use Rattle.kmn_lines.specs.Lines.{ends_line, line_start, after_byte, physical_lines}
use Rattle.kmn_lines.specs.Laws.{bytes_between}
use Rattle.kmn_lines.specs.declared.line_state.LineState.{LineState}
use Rattle.kmn_lines.specs.declared.line_state.PhysicalLine.{PhysicalLine}
use Rattle.line_laws.specs.Laws.{begins_lf, ends_cr, lines_in, ends_whole, LinesOfBoth}

-- a line, where there is a byte of it
abbrev one : List ℕ → List (List ℕ)
one [] = []
one (b ∷ bs) = (b ∷ bs) ∷ []

-- the lines of bytes, the first of which has some bytes before
abbrev cut : List ℕ → List ℕ → List (List ℕ)
cut begun [] = one begun
cut begun (b ∷ bs) = if ends_line b (first_or_end bs) then (begun ++ (b ∷ [])) ∷ cut [] bs else cut (begun ++ (b ∷ [])) bs

one-more : (begun : List ℕ) (b : ℕ) → one (begun ++ (b ∷ [])) ≡ (begun ++ (b ∷ [])) ∷ []
one-more [] b = refl
one-more (c ∷ cs) b = refl

between-is : (text front begun rest : List ℕ) (from to : ℕ) → text ≡ front ++ (begun ++ rest) → from ≡ length front → to ≡ length front + length begun → bytes_between text from to ≡ begun
between-is text front begun rest from to e f g =
    ap (λ (k : ℕ). drop from (take k text)) g
    ∙ ap (λ (k : ℕ). drop k (take (length front + length begun) text)) f
    ∙ ap (λ (xs : List ℕ). drop (length front) (take (length front + length begun) xs)) e
    ∙ ap (λ (xs : List ℕ). drop (length front) xs) (take-append-add front (begun ++ rest) (length begun) ∙ ap (λ (xs : List ℕ). front ++ xs) (take-append_seam begun rest))
    ∙ drop-append_seam front begun

-- the bytes of a physical line
abbrev line_of : List ℕ → PhysicalLine → List ℕ
line_of text p = bytes_between text p.from p.next

map-if : (text : List ℕ) (b : Bool) (ps qs : List PhysicalLine) (xs ys : List (List ℕ)) → map (line_of text) ps ≡ xs → map (line_of text) qs ≡ ys → map (line_of text) (if b then ps else qs) ≡ (if b then xs else ys)
map-if text true ps qs xs ys e f = e
map-if text false ps qs xs ys e f = f

lines-cut : (text front begun : List ℕ) (line from at : ℕ) (r : LineState) (bytes : List ℕ) → text ≡ front ++ (begun ++ bytes) → from ≡ length front → at ≡ length front + length begun → map (line_of text) (physical_lines line from r at bytes) ≡ cut begun bytes
lines-cut text front [] line from at r [] e f g =
    ap (λ (ps : List PhysicalLine). map (line_of text) ps) (cond-true (from == at) _ _ (eq-eqb from at (omega arith)))
lines-cut text front (c ∷ cs) line from at r [] e f g =
    ap (λ (ps : List PhysicalLine). map (line_of text) ps) (cond-false (from == at) _ _ (ne_eqb from at (λ s. absurd (omega arith))))
    ∙ ap (λ (xs : List ℕ). xs ∷ []) (between-is text front (c ∷ cs) [] from at e f g)
lines-cut text front begun line from at r (b ∷ bs) e f g =
    let more : List ℕ = begun ++ (b ∷ []) in
    let long : length more ≡ length begun + 1 = length-append begun (b ∷ []) in
    let both : length (front ++ more) ≡ length front + length more = length-append front more in
    let whole : text ≡ front ++ (more ++ bs) = e ∙ ap (λ (xs : List ℕ). front ++ xs) (sym (append_assoc begun (b ∷ []) bs)) in
    map-if text (ends_line b (first_or_end bs)) _ _ _ _
    (ap (λ (xs : List ℕ). xs ∷ map (line_of text) (physical_lines (line + 1) (at + 1) line_start (at + 1) bs)) (between-is text front more bs from (at + 1) whole f (omega (arith, long)))
    ∙ ap (λ (ls : List (List ℕ)). more ∷ ls)
    (lines-cut text (front ++ more) [] (line + 1) (at + 1) (at + 1) line_start bs (whole ∙ sym (append_assoc front more bs)) (omega (arith, long, both)) (omega (arith, long, both))))
    (lines-cut text front more line from (at + 1) (after_byte r at b (first_or_end bs)) bs whole f (omega (arith, long)))

lines-are : (text : List ℕ) → lines_in text ≡ cut [] text
lines-are text = lines-cut text [] [] 1 0 0 line_start text refl refl refl

-- an LF, or a CR before another byte, ends a line
pub ended : (lf cr other : Bool) → (cr || lf) ≡ true → (cr ≡ true → other ≡ false) → (lf || (cr && not other)) ≡ true
ended true cr other h p = refl
ended false true other h p = ap not (p refl)
ended false false other h p = absurd cc

-- a last byte is the end of its line
cut-last : (begun : List ℕ) (x : ℕ) → cut begun (x ∷ []) ≡ (begun ++ (x ∷ [])) ∷ []
cut-last begun x = cond_both (ends_line x 10) _ _ (λ (ls : List (List ℕ)). ls ≡ (begun ++ (x ∷ [])) ∷ []) (λ e. refl) (λ e. one-more begun x)

append-if : (b : Bool) (xs ys us vs ws : List (List ℕ)) → xs ≡ us ++ ws → ys ≡ vs ++ ws → (if b then xs else ys) ≡ (if b then us else vs) ++ ws
append-if true xs ys us vs ws e f = e
append-if false xs ys us vs ws e f = f

cut-both : (begun a b : List ℕ) → ends_whole a ≡ true → (ends_cr a ≡ true → begins_lf b ≡ false) → cut begun (a ++ b) ≡ cut begun a ++ cut [] b
cut-both begun [] b h p = absurd cc
cut-both begun (x ∷ []) [] h p = sym (append-nil (cut begun (x ∷ [])))
cut-both begun (x ∷ []) (y ∷ ys) h p =
    cond-true (ends_line x y) _ _ (ended (x == 10) (x == 13) (y == 10) h p)
    ∙ ap (λ (ls : List (List ℕ)). ls ++ cut [] (y ∷ ys)) (sym (cut-last begun x))
cut-both begun (x ∷ z ∷ xs) b h p =
    let more : List ℕ = begun ++ (x ∷ []) in
    append-if (ends_line x z) _ _ _ _ _ (ap (λ (ls : List (List ℕ)). more ∷ ls) (cut-both [] (z ∷ xs) b h p)) (cut-both more (z ∷ xs) b h p)

pub lines_of_both : LinesOfBoth
lines_of_both a b h p =
    lines-are (a ++ b)
    ∙ cut-both [] a b h p
    ∙ ap (λ (ls : List (List ℕ)). ls ++ cut [] b) (sym (lines-are a))
    ∙ ap (λ (ls : List (List ℕ)). lines_in a ++ ls) (sym (lines-are b))
