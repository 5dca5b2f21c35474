-- The lines of bytes after others, with their positions and numbers.
use Rattle.std.proofs.Common.{◌≡◌, ℕ, ◌+◌, ◌≤◌, ◌==◌, Bool, true, false, ◌||◌, if◌then◌else◌, List, [], ◌∷◌, ◌++◌, length, drop, Option, None, Some, refl, sym, ◌∙◌, ap, subst, arith, append-nil, append_assoc, length-append}
use Rattle.std.proofs.Math.Seq.{drop-append_seam}
use Rattle.std.proofs.lemmas.Bool.{eqb-true, ne_eqb, cond-true, cond-false}
use Rattle.kmn_lines.specs.Lines.{ends_line, line_start, after_byte, physical_line, physical_lines, physical_lines_at, extended, gather}
use Rattle.kmn_lines.specs.Laws.{line_ends}
use Rattle.kmn_lines.specs.declared.line_state.LineState.{LineState}
use Rattle.kmn_lines.specs.declared.line_state.PhysicalLine.{PhysicalLine}
use Rattle.kmn_lines.specs.declared.logical.Logical.{Logical}
use Rattle.kmn_lines.proofs.LineTexts.{lines-none}
use Rattle.line_laws.specs.Laws.{begins_lf, ends_cr, ends_whole, ends_joined, PhysicalLinesOfBoth, LogicalsOfBoth}
use Rattle.line_laws.proofs.Both.{ended}

-- a CR at the end changes nothing
cr-same : (line from at next : ℕ) (quote : Option ℕ) (blank : Bool) (slash stop : Option ℕ) → physical_line line from (at + 1) next (after_byte (record { quote = quote; after_blank = blank; slash = slash; stop = stop }) at 13 10) ≡ physical_line line from at next (record { quote = quote; after_blank = blank; slash = slash; stop = stop })
cr-same line from at next quote blank slash None = refl
cr-same line from at next quote blank slash (Some stop) = refl

-- an LF or a CR as the last byte ends its line
last-is : (line from : ℕ) (r : LineState) (at x : ℕ) (lf cr : Bool) → from ≤ at → (x == 10) ≡ lf → (x == 13) ≡ cr → (cr || lf) ≡ true → physical_lines line from r at (x ∷ []) ≡ physical_line line from at (at + 1) r ∷ []
last-is line from r at x true cr l e f h =
    subst (λ (b : ℕ). physical_lines line from r at (b ∷ []) ≡ physical_line line from at (at + 1) r ∷ []) (sym (eqb-true x 10 e))
    (ap (λ (ps : List PhysicalLine). physical_line line from at (at + 1) r ∷ ps) (lines-none (line + 1) (at + 1)))
last-is line from r at x false true l e f h =
    subst (λ (b : ℕ). physical_lines line from r at (b ∷ []) ≡ physical_line line from at (at + 1) r ∷ []) (sym (eqb-true x 13 f))
    (cond-false (from == at + 1) _ _ (ne_eqb from (at + 1) (λ s. absurd (omega arith)))
    ∙ ap (λ (p : PhysicalLine). p ∷ []) (cr-same line from at (at + 1) r.quote r.after_blank r.slash r.stop))
last-is line from r at x false false l e f h = absurd cc

abbrev one_if : Bool → ℕ
one_if b = if b then 1 else 0

either : (cr lf : Bool) → (cr || lf) ≡ true → (lf || cr) ≡ true
either true true h = refl
either true false h = refl
either false true h = refl
either false false h = absurd cc

-- the lines of further bytes, by the number of the first
abbrev further : ℕ → List ℕ → ℕ → List PhysicalLine
further at b n = physical_lines n at line_start at b

further-if : (e : Bool) (at : ℕ) (b : List ℕ) (line rest : ℕ) (ps qs us vs : List PhysicalLine) → ps ≡ us ++ further at b (line + 1 + rest) → qs ≡ vs ++ further at b (line + rest)
    → (if e then ps else qs) ≡ (if e then us else vs) ++ further at b (line + ((if e then 1 else 0) + rest))
further-if true at b line rest ps qs us vs g h = let one : line + 1 + rest ≡ line + (1 + rest) = omega arith in g ∙ ap (λ (n : ℕ). us ++ further at b n) one
further-if false at b line rest ps qs us vs g h = let none : line + rest ≡ line + (0 + rest) = omega arith in h ∙ ap (λ (n : ℕ). vs ++ further at b n) none

behind : (line from : ℕ) (r : LineState) (at : ℕ) (a b : List ℕ) → from ≤ at → ends_whole a ≡ true → (ends_cr a ≡ true → begins_lf b ≡ false)
    → physical_lines line from r at (a ++ b) ≡ physical_lines line from r at a ++ further (at + length a) b (line + line_ends (length a) a)
behind line from r at [] b l h p = absurd cc
behind line from r at (x ∷ []) [] l h p =
    sym (append-nil (physical_lines line from r at (x ∷ [])))
    ∙ ap (λ (ps : List PhysicalLine). physical_lines line from r at (x ∷ []) ++ ps) (sym (lines-none (line + line_ends 1 (x ∷ [])) (at + 1)))
behind line from r at (x ∷ []) (y ∷ ys) l h p =
    let lf : ((x == 10) || (x == 13)) ≡ true = either (x == 13) (x == 10) h in
    let one : line + 1 ≡ line + line_ends 1 (x ∷ []) = omega (arith, ap one_if lf) in
    cond-true (ends_line x y) _ _ (ended (x == 10) (x == 13) (y == 10) h p)
    ∙ ap (λ (n : ℕ). physical_line line from at (at + 1) r ∷ further (at + 1) (y ∷ ys) n) one
    ∙ ap (λ (ps : List PhysicalLine). ps ++ further (at + 1) (y ∷ ys) (line + line_ends 1 (x ∷ []))) (sym (last-is line from r at x (x == 10) (x == 13) l refl refl h))
behind line from r at (x ∷ z ∷ xs) b l h p =
    let rest : ℕ = line_ends (length (z ∷ xs)) (z ∷ xs) in
    let far : at + 1 + length (z ∷ xs) ≡ at + length (x ∷ z ∷ xs) = omega arith in
    further-if (ends_line x z) (at + length (x ∷ z ∷ xs)) b line rest _ _ _ _
    (ap (λ (ps : List PhysicalLine). physical_line line from at (at + 1) r ∷ ps) (behind (line + 1) (at + 1) line_start (at + 1) (z ∷ xs) b (omega arith) h p
    ∙ ap (λ (k : ℕ). physical_lines (line + 1) (at + 1) line_start (at + 1) (z ∷ xs) ++ further k b (line + 1 + rest)) far))
    (behind line from (after_byte r at x z) (at + 1) (z ∷ xs) b (omega arith) h p
    ∙ ap (λ (k : ℕ). physical_lines line from (after_byte r at x z) (at + 1) (z ∷ xs) ++ further k b (line + rest)) far)

pub physical_lines_of_both : PhysicalLinesOfBoth
physical_lines_of_both line front a b h p =
    let k : ℕ = length front in
    let n : ℕ = line + line_ends (length a) a in
    let end : drop (k + length a) (front ++ (a ++ b)) ≡ b =
    ap (λ (i : ℕ). drop i (front ++ (a ++ b))) (sym (length-append front a))
    ∙ ap (λ (xs : List ℕ). drop (length (front ++ a)) xs) (sym (append_assoc front a b))
    ∙ drop-append_seam (front ++ a) b in
    ap (λ (xs : List ℕ). physical_lines line k line_start k xs) (drop-append_seam front (a ++ b))
    ∙ behind line k line_start k a b (omega arith) h p
    ∙ ap (λ (xs : List ℕ). physical_lines line k line_start k xs ++ further (k + length a) b n) (sym (drop-append_seam front a))
    ∙ ap (λ (xs : List ℕ). physical_lines_at line k (front ++ a) ++ further (k + length a) xs n) (sym end)

-- physical lines of which the last is not joined, gathered after a line that was begun
gather-if : (e : Bool) (xs ys us vs ws : List Logical) → xs ≡ us ++ ws → ys ≡ vs ++ ws → (if e then xs else ys) ≡ (if e then us else vs) ++ ws
gather-if true xs ys us vs ws g h = g
gather-if false xs ys us vs ws g h = h

gather-last : (e : Bool) (l : Logical) (qs : List PhysicalLine) → e ≡ false → (if e then gather (Some l) qs else l ∷ gather None qs) ≡ (if e then gather (Some l) [] else l ∷ gather None []) ++ gather None qs
gather-last true l qs h = absurd cc
gather-last false l qs h = refl

gather-more : (begun : Option Logical) (p : PhysicalLine) (ps qs : List PhysicalLine) → ends_joined (p ∷ ps) ≡ false → gather begun ((p ∷ ps) ++ qs) ≡ gather begun (p ∷ ps) ++ gather None qs
gather-more None p [] qs h = gather-last p.joined (extended None p) qs h
gather-more (Some l) p [] qs h = gather-last p.joined (extended (Some l) p) qs h
gather-more None p (q ∷ ps) qs h =
    let l : Logical = extended None p in
    gather-if p.joined _ _ _ _ _ (gather-more (Some l) q ps qs h) (ap (λ (ls : List Logical). l ∷ ls) (gather-more None q ps qs h))
gather-more (Some m) p (q ∷ ps) qs h =
    let l : Logical = extended (Some m) p in
    gather-if p.joined _ _ _ _ _ (gather-more (Some l) q ps qs h) (ap (λ (ls : List Logical). l ∷ ls) (gather-more None q ps qs h))

gather-both : (ps qs : List PhysicalLine) → ends_joined ps ≡ false → gather None (ps ++ qs) ≡ gather None ps ++ gather None qs
gather-both [] qs h = refl
gather-both (p ∷ ps) qs h = gather-more None p ps qs h

pub logicals_of_both : LogicalsOfBoth
logicals_of_both line front a b h p j =
    ap (gather None) (physical_lines_of_both line front a b h p)
    ∙ gather-both (physical_lines_at line (length front) (front ++ a)) (physical_lines_at (line + line_ends (length a) a) (length front + length a) (front ++ (a ++ b))) j
