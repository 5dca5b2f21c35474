-- Bytes that are one line are one wherever they are in a text.
use Rattle.std.proofs.Common.{◌≡◌, ℕ, ◌+◌, ◌<◌, ◌==◌, Bool, true, false, ◌&&◌, if◌then◌else◌, List, [], ◌∷◌, ◌++◌, length, drop, map, Option, None, Some, is_some, refl, sym, ◌∙◌, ap, subst, arith}
use Rattle.std.proofs.Math.Seq.{drop-append_seam}
use Rattle.std.proofs.lemmas.Bool.{eqb-true, cond-true, cond_both, and_parts}
use Rattle.kmn_lines.specs.Bytes.{first_or_end}
use Rattle.kmn_lines.specs.Lines.{ends_line, line_start, after_byte, physical_line, physical_lines, physical_lines_at, extended, gather, logicals}
use Rattle.kmn_lines.specs.declared.line_state.LineState.{LineState}
use Rattle.kmn_lines.specs.declared.line_state.PhysicalLine.{PhysicalLine}
use Rattle.kmn_lines.specs.declared.logical.Logical.{Logical}
use Rattle.line_laws.specs.Laws.{placed, ends_joined, IsOneLine, LinesStandAlone, JointsStandAlone}
use Rattle.line_laws.proofs.Moved.{moved, moved-after, same-some, same-place}

-- which of physical lines are joined
abbrev flags : List PhysicalLine → List Bool
flags ps = map (λ (p : PhysicalLine). p.joined) ps

flags-if : (b : Bool) (ps qs us vs : List PhysicalLine) → flags ps ≡ flags us → flags qs ≡ flags vs → flags (if b then ps else qs) ≡ flags (if b then us else vs)
flags-if true ps qs us vs e f = e
flags-if false ps qs us vs e f = f

flag-moved : (k : ℕ) (r s : LineState) → s ≡ moved k r → is_some s.slash ≡ is_some r.slash
flag-moved k r s g = ap (λ (q : LineState). is_some q.slash) g ∙ same-some k r.slash

flags-moved : (k n m from at start place : ℕ) (r s : LineState) (bytes : List ℕ) → start ≡ k + from → place ≡ k + at → s ≡ moved k r → flags (physical_lines n start s place bytes) ≡ flags (physical_lines m from r at bytes)
flags-moved k n m from at start place r s [] e f g =
    ap (λ (b : Bool). flags (if b then [] else physical_line n start place place s ∷ [])) (same-place k from at start place (from == at) refl e f)
    ∙ flags-if (from == at) _ _ _ _ refl (ap (λ (b : Bool). b ∷ []) (flag-moved k r s g))
flags-moved k n m from at start place r s (byte ∷ bytes) e f g =
    let next : ℕ = first_or_end bytes in
    let one : place + 1 ≡ k + (at + 1) = omega arith in
    flags-if (ends_line byte next) _ _ _ _
    (ap (λ (b : Bool). b ∷ flags (physical_lines (n + 1) (place + 1) line_start (place + 1) bytes)) (flag-moved k r s g)
    ∙ ap (λ (bs : List Bool). is_some r.slash ∷ bs) (flags-moved k (n + 1) (m + 1) (at + 1) (at + 1) (place + 1) (place + 1) line_start line_start bytes one one refl))
    (flags-moved k n m from (at + 1) start (place + 1) (after_byte r at byte next) (after_byte s place byte next) bytes e one
    (ap (λ (q : LineState). after_byte q place byte next) g
    ∙ ap (λ (i : ℕ). after_byte (moved k r) i byte next) f
    ∙ moved-after k at byte next r))

flags-are : (number : ℕ) (front line : List ℕ) → flags (physical_lines_at number (length front) (front ++ line)) ≡ flags (physical_lines_at 1 0 line)
flags-are number front line =
    let k : ℕ = length front in
    let same : k ≡ k + 0 = omega arith in
    ap (λ (xs : List ℕ). flags (physical_lines number k line_start k xs)) (drop-append_seam front line)
    ∙ flags-moved k number 1 0 0 k k line_start line_start line same same refl

-- the last of flags
abbrev last_flag : List Bool → Bool
last_flag [] = false
last_flag (b ∷ []) = b
last_flag (b ∷ c ∷ bs) = last_flag (c ∷ bs)

joined-is : (ps : List PhysicalLine) → ends_joined ps ≡ last_flag (flags ps)
joined-is [] = refl
joined-is (p ∷ []) = refl
joined-is (p ∷ q ∷ ps) = joined-is (q ∷ ps)

pub joints_stand_alone : JointsStandAlone
joints_stand_alone number front line =
    joined-is (physical_lines_at number (length front) (front ++ line))
    ∙ ap last_flag (flags-are number front line)
    ∙ sym (joined-is (physical_lines_at 1 0 line))

-- all flags but the last are set
abbrev inner : List Bool → Bool
inner [] = true
inner (b ∷ []) = true
inner (b ∷ c ∷ bs) = b && inner (c ∷ bs)

gather-some : (begun : Option Logical) (p : PhysicalLine) (ps : List PhysicalLine) → 0 < length (gather begun (p ∷ ps))
gather-some None p [] = cond_both p.joined _ _ (λ (ls : List Logical). 0 < length ls) (λ e. omega arith) (λ e. omega arith)
gather-some (Some m) p [] = cond_both p.joined _ _ (λ (ls : List Logical). 0 < length ls) (λ e. omega arith) (λ e. omega arith)
gather-some None p (q ∷ ps) = cond_both p.joined _ _ (λ (ls : List Logical). 0 < length ls) (λ e. gather-some (Some (extended None p)) q ps) (λ e. omega arith)
gather-some (Some m) p (q ∷ ps) = cond_both p.joined _ _ (λ (ls : List Logical). 0 < length ls) (λ e. gather-some (Some (extended (Some m) p)) q ps) (λ e. omega arith)

inner-step : (b : Bool) (bs : List Bool) (l : Logical) (ks ls : List Logical) → 0 < length ls → (length ks ≡ 1 → inner bs ≡ true) → length (if b then ks else l ∷ ls) ≡ 1 → (b && inner bs) ≡ true
inner-step true bs l ks ls some h e = h e
inner-step false bs l ks ls some h e = absurd (omega arith)

gathered-inner : (begun : Option Logical) (p : PhysicalLine) (ps : List PhysicalLine) → length (gather begun (p ∷ ps)) ≡ 1 → inner (flags (p ∷ ps)) ≡ true
gathered-inner begun p [] e = refl
gathered-inner None p (q ∷ ps) e =
    let l : Logical = extended None p in
    inner-step p.joined (flags (q ∷ ps)) l _ _ (gather-some None q ps) (gathered-inner (Some l) q ps) e
gathered-inner (Some m) p (q ∷ ps) e =
    let l : Logical = extended (Some m) p in
    inner-step p.joined (flags (q ∷ ps)) l _ _ (gather-some None q ps) (gathered-inner (Some l) q ps) e

-- where the last of physical lines ends
abbrev last_next : ℕ → List PhysicalLine → ℕ
last_next at [] = at
last_next at (p ∷ ps) = last_next p.next ps

gathered : (begun : Option Logical) (p : PhysicalLine) (ps : List PhysicalLine) → inner (flags (p ∷ ps)) ≡ true → gather begun (p ∷ ps) ≡ record (extended begun p) { to = last_next p.next ps } ∷ []
gathered None p [] e = cond_both p.joined _ _ (λ (ls : List Logical). ls ≡ extended None p ∷ []) (λ f. refl) (λ f. refl)
gathered (Some m) p [] e = cond_both p.joined _ _ (λ (ls : List Logical). ls ≡ extended (Some m) p ∷ []) (λ f. refl) (λ f. refl)
gathered None p (q ∷ ps) e =
    let both = and_parts p.joined (inner (flags (q ∷ ps))) e in
    cond-true p.joined _ _ both.0 ∙ gathered (Some (extended None p)) q ps both.1
gathered (Some m) p (q ∷ ps) e =
    let both = and_parts p.joined (inner (flags (q ∷ ps))) e in
    cond-true p.joined _ _ both.0 ∙ gathered (Some (extended (Some m) p)) q ps both.1

-- physical lines begin with a number, at a place
abbrev Starts : ℕ → ℕ → List PhysicalLine → Type 0
Starts line from [] = Unit {0}
Starts line from (p ∷ ps) = (p.line ≡ line) × (p.from ≡ from)

starts : (line from : ℕ) (r : LineState) (at : ℕ) (bytes : List ℕ) → Starts line from (physical_lines line from r at bytes)
starts line from r at [] = cond_both (from == at) _ _ (Starts line from) (λ e. tt) (λ e. (refl, refl))
starts line from r at (byte ∷ bytes) =
    cond_both (ends_line byte (first_or_end bytes)) _ _ (Starts line from) (λ e. (refl, refl)) (λ e. starts line from (after_byte r at byte (first_or_end bytes)) (at + 1) bytes)

last-is : (line from : ℕ) (r : LineState) (at : ℕ) (bytes : List ℕ) → last_next from (physical_lines line from r at bytes) ≡ at + length bytes
last-is line from r at [] =
    cond_both (from == at) _ _ (λ (ps : List PhysicalLine). last_next from ps ≡ at + 0) (λ e. (let same = eqb-true from at e in omega arith)) (λ e. omega arith)
last-is line from r at (byte ∷ bytes) =
    let far : at + 1 + length bytes ≡ at + length (byte ∷ bytes) = omega arith in
    cond_both (ends_line byte (first_or_end bytes)) _ _ (λ (ps : List PhysicalLine). last_next from ps ≡ at + length (byte ∷ bytes))
    (λ e. last-is (line + 1) (at + 1) line_start (at + 1) bytes ∙ far)
    (λ e. last-is line from (after_byte r at byte (first_or_end bytes)) (at + 1) bytes ∙ far)

alone : (line at size : ℕ) (ps qs : List PhysicalLine) → flags ps ≡ flags qs → length (gather None qs) ≡ 1 → Starts line at ps → last_next at ps ≡ size → gather None ps ≡ record { first_line = line; from = at; to = size } ∷ []
alone line at size [] [] f one s e = absurd (omega arith)
alone line at size [] (q ∷ qs) f one s e = absurd cc
alone line at size (p ∷ ps) [] f one s e = absurd (omega arith)
alone line at size (p ∷ ps) (q ∷ qs) f one (a, b) e =
    let all : inner (flags (p ∷ ps)) ≡ true = subst (λ (bs : List Bool). inner bs ≡ true) (sym f) (gathered-inner None q qs one) in
    let built : ℕ → ℕ → ℕ → Logical = λ i from to. record { first_line = i; from = from; to = to } in
    gathered None p ps all
    ∙ ap (λ (i : ℕ). built i p.from (last_next p.next ps) ∷ []) a
    ∙ ap (λ (i : ℕ). built line i (last_next p.next ps) ∷ []) b
    ∙ ap (λ (i : ℕ). built line at i ∷ []) e

pub one_line : (number : ℕ) (front line : List ℕ) → IsOneLine line → gather None (physical_lines_at number (length front) (front ++ line)) ≡ placed number front line ∷ []
one_line number front line one =
    let k : ℕ = length front in
    let same : drop k (front ++ line) ≡ line = drop-append_seam front line in
    alone number k (k + length line) (physical_lines_at number k (front ++ line)) (physical_lines_at 1 0 line)
    (flags-are number front line) one
    (starts number k line_start k (drop k (front ++ line)))
    (last-is number k line_start k (drop k (front ++ line)) ∙ ap (λ (xs : List ℕ). k + length xs) same)

pub lines_stand_alone : LinesStandAlone
unfolding logicals
lines_stand_alone number front line l h e =
    one_line number front line (ap (λ (i : ℕ). length (gather None (physical_lines_at 1 i line))) (sym h) ∙ ap length e)
