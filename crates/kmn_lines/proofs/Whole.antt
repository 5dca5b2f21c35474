-- The lines of a source make it up, have the numbers of their positions, and their parts are in order.
use Rattle.std.proofs.Common.{◌≡◌, ℕ, zero, suc, ◌+◌, ◌-◌, ◌≤◌, Bool, true, false, if◌then◌else◌, ◌==◌, List, [], ◌∷◌, ◌++◌, length, take, drop, map, Option, None, Some, refl, sym, ◌∙◌, ap, subst, arith, length-drop}
use Rattle.std.specs.Prelude.{flat_map, codes}
use Rattle.std.specs.List.{list_all, starts_with}
use Rattle.std.specs.Char.{to_ascii_lowercase}
use Rattle.std.specs.Str.{str_to_ascii_lowercase}
use Rattle.std.proofs.lemmas.List.{append-nil, length-take, length-map, drop-append-le, take-append-drop}
use Rattle.std.proofs.lemmas.Slice.Eq.{bytes_eq-Decides}
use Rattle.std.proofs.lemmas.Bool.{cond_both}
use Rattle.kmn_base.specs.Names.{same_name}
use Rattle.kmn_lines.specs.declared.line_state.PhysicalLine.{PhysicalLine}
use Rattle.kmn_lines.specs.declared.logical.Logical.{Logical}
use Rattle.kmn_lines.specs.declared.logical.Part.{Part}
use Rattle.kmn_base.specs.Bytes.{is_blank}
use Rattle.kmn_base.specs.Texts.{bom_size}
use Rattle.kmn_lines.specs.Lines.{physical_lines_at, extended, gather, logicals, blanks, begins_with, is_skipped, dropped, physical_text, part_after, opening_parts, parts_in}
use Rattle.kmn_lines.specs.Laws.{bytes_between, PhysicalLinesMakeTheSource, LinesMakeTheSource, InOrder, PartsStandInOrder}
use Rattle.kmn_lines.proofs.Placed.{InRow, physical_lines_at-in_row}

-- the bytes up to a position, and the bytes after it
between-behind : (from to : ℕ) (text : List ℕ) → from ≤ to → to ≤ length text → bytes_between text from to ++ drop to text ≡ drop from text
between-behind from to text h g =
    let long : from ≤ length (take to text) = omega (arith, length-take to text) in
    sym (drop-append-le from (take to text) (drop to text) long) ∙ ap (λ (xs : List ℕ). drop from xs) (take-append-drop to text)

drop-all : (text : List ℕ) (at : ℕ) → at ≡ length text → drop at text ≡ []
drop-all [] at e = subst (λ (k : ℕ). drop {A = ℕ} k [] ≡ []) (sym e) refl
drop-all (byte ∷ bytes) zero e = absurd (omega arith)
drop-all (byte ∷ bytes) (suc n) e = drop-all bytes n (omega arith)

take-all : (text : List ℕ) (at : ℕ) → at ≡ length text → take at text ≡ text
take-all [] at e = subst (λ (k : ℕ). take {A = ℕ} k [] ≡ []) (sym e) refl
take-all (byte ∷ bytes) zero e = absurd (omega arith)
take-all (byte ∷ bytes) (suc n) e = ap (λ (xs : List ℕ). byte ∷ xs) (take-all bytes n (omega arith))

abbrev line_bytes : List ℕ → Logical → List ℕ
line_bytes source l = bytes_between source l.from l.to

-- the position at which the rest of the text begins: at the line that was begun, or at a given position
abbrev begun_at : ℕ → Option Logical → ℕ
begun_at at None = at
begun_at at (Some l) = l.from

abbrev Fits : ℕ → Option Logical → Type 0
Fits at None = Unit {0}
Fits at (Some l) = (l.from ≤ l.to) × (l.to ≡ at)

rest-if : (source xs : List ℕ) (b : Bool) (ls ms : List Logical) → flat_map (line_bytes source) ls ≡ xs → flat_map (line_bytes source) ms ≡ xs → flat_map (line_bytes source) (if b then ls else ms) ≡ xs
rest-if source xs true ls ms g h = g
rest-if source xs false ls ms g h = h

gather-whole : (source : List ℕ) (begun : Option Logical) (at : ℕ) (ps : List PhysicalLine) → Fits at begun → InRow at (length source) ps → flat_map (line_bytes source) (gather begun ps) ≡ drop (begun_at at begun) source
gather-whole source None at [] b row = sym (drop-all source at row)
gather-whole source (Some l) at [] (b, c) row = append-nil (line_bytes source l) ∙ ap (λ (xs : List ℕ). drop l.from xs) (take-all source l.to (omega arith))
gather-whole source None at (p ∷ ps) b (e, f, g, h, i, row) =
    rest-if source (drop at source) p.joined _ _
    (gather-whole source (Some (extended None p)) p.next ps (omega arith, refl) row ∙ ap (λ (k : ℕ). drop k source) e)
    (ap (λ (xs : List ℕ). line_bytes source (extended None p) ++ xs) (gather-whole source None p.next ps tt row)
    ∙ between-behind p.from p.next source (omega arith) h ∙ ap (λ (k : ℕ). drop k source) e)
gather-whole source (Some l) at (p ∷ ps) (b, c) (e, f, g, h, i, row) =
    rest-if source (drop l.from source) p.joined _ _
    (gather-whole source (Some (extended (Some l) p)) p.next ps (omega arith, refl) row)
    (ap (λ (xs : List ℕ). line_bytes source (extended (Some l) p) ++ xs) (gather-whole source None p.next ps tt row)
    ∙ between-behind l.from p.next source (omega arith) h)

mark-size : (b : Bool) (n : ℕ) → (b ≡ true → 3 ≤ n) → (if b then 3 else 0) ≤ n
mark-size true n h = h refl
mark-size false n h = omega arith

pub mark-is : (source : List ℕ) → starts_with (λ a b. a == b) source (0xEF ∷ 0xBB ∷ 0xBF ∷ []) ≡ true → 0xEF ∷ 0xBB ∷ 0xBF ∷ [] ≡ take 3 source
mark-is source h = (bytes_eq-Decides (0xEF ∷ 0xBB ∷ 0xBF ∷ []) (take 3 source)).0 h

pub mark-within : (source : List ℕ) → bom_size source ≤ length source
mark-within source =
    mark-size (starts_with (λ a b. a == b) source (0xEF ∷ 0xBB ∷ 0xBF ∷ [])) (length source)
    (λ h. let e : 3 ≡ length (take 3 source) = ap length (mark-is source h) in omega (arith, length-take 3 source))

rows-whole : (source : List ℕ) (at : ℕ) (ps : List PhysicalLine) → InRow at (length source) ps → flat_map (λ (p : PhysicalLine). bytes_between source p.from p.next) ps ≡ drop at source
rows-whole source at [] row = sym (drop-all source at row)
rows-whole source at (p ∷ ps) (e, f, g, h, i, row) =
    ap (λ (xs : List ℕ). bytes_between source p.from p.next ++ xs) (rows-whole source p.next ps row)
    ∙ between-behind p.from p.next source (omega arith) h ∙ ap (λ (k : ℕ). drop k source) e

pub physical_lines_make_the_source : PhysicalLinesMakeTheSource
physical_lines_make_the_source source =
    ap (λ (xs : List ℕ). take (bom_size source) source ++ xs)
    (rows-whole source (bom_size source) (physical_lines_at 1 (bom_size source) source) (physical_lines_at-in_row 1 (bom_size source) source (mark-within source) (omega arith)))
    ∙ take-append-drop (bom_size source) source

pub lines_make_the_source : LinesMakeTheSource
unfolding logicals
lines_make_the_source source =
    ap (λ (xs : List ℕ). take (bom_size source) source ++ xs)
    (gather-whole source None (bom_size source) (physical_lines_at 1 (bom_size source) source) tt (physical_lines_at-in_row 1 (bom_size source) source (mark-within source) (omega arith)))
    ∙ take-append-drop (bom_size source) source

pub begins-long : (words word : List ℕ) → begins_with words word ≡ true → length word ≤ length words
unfolding same_name
begins-long words word h =
    let e : str_to_ascii_lowercase (take (length word) words) ≡ str_to_ascii_lowercase word = (bytes_eq-Decides _ _).0 h in
    let f : length (take (length word) words) ≡ length word =
    sym (length-map (take (length word) words) to_ascii_lowercase) ∙ ap length e ∙ length-map word to_ascii_lowercase in
    omega (arith, length-take (length word) words)

dropped-within : (text : List ℕ) → dropped text ≤ length text
unfolding dropped
dropped-within text =
    let words : List ℕ = drop (blanks text) text in
    let fits : ℕ → Type 0 = λ n. n ≤ length text in
    cond_both (begins_with words (codes "$keyman:")) (blanks text + 8) _ fits
    (λ e. let l : 8 ≤ length words = begins-long words (codes "$keyman:") e in omega (arith, length-drop (blanks text) text))
    (λ _. cond_both (begins_with words (codes "$keymanonly:")) (blanks text + 12) 0 fits
    (λ e. let l : 12 ≤ length words = begins-long words (codes "$keymanonly:") e in omega (arith, length-drop (blanks text) text))
    (λ _. omega arith))

in_order-if : (at end : ℕ) (b : Bool) (ps qs : List Part) → InOrder at end ps → InOrder at end qs → InOrder at end (if b then ps else qs)
in_order-if at end true ps qs g h = g
in_order-if at end false ps qs g h = h

mapped-in_order : (before at size : ℕ) (ps : List PhysicalLine) → before ≤ at → InRow at size ps → InOrder before size (map (part_after 0) ps)
mapped-in_order before at size [] l row = omega arith
mapped-in_order before at size (p ∷ ps) l (e, f, g, h, i, row) = (omega arith, omega arith, mapped-in_order p.to p.next size ps g row)

opening-in_order : (text : List ℕ) (before at : ℕ) (ps : List PhysicalLine) → before ≤ at → InRow at (length text) ps → InOrder before (length text) (opening_parts text ps)
opening-in_order text before at [] l row = omega arith
opening-in_order text before at (p ∷ ps) l (e, f, g, h, i, row) =
    let few = dropped-within (physical_text text p) in
    let long : length (physical_text text p) ≡ p.to - p.from = omega (arith, length-drop p.from (take p.to text), length-take p.to text) in
    in_order-if before (length text) (is_skipped (physical_text text p)) [] _ (omega arith) (
      omega arith,
      omega arith,
      in_order-if p.to (length text) (list_all is_blank (physical_text text p)) _ _
          (opening-in_order text p.to p.next ps g row)
          (mapped-in_order p.to p.next (length text) ps g row),
    )

pub parts_stand_in_order : PartsStandInOrder
unfolding parts_in
parts_stand_in_order source l placed =
    let text : List ℕ = take l.to source in
    let long : length text ≡ l.to = omega (arith, length-take l.to source, placed.within) in
    subst (λ (end : ℕ). InOrder l.from end (opening_parts text (physical_lines_at l.first_line l.from text))) long
    (opening-in_order text l.from l.from (physical_lines_at l.first_line l.from text) (omega arith)
    (physical_lines_at-in_row l.first_line l.from text (omega (arith, placed.forward)) placed.counted))
