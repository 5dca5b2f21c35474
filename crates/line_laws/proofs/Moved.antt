-- Bytes that are one line have the same tokens wherever they are in a text.
use Rattle.std.proofs.Common.{◌≡◌, ℕ, zero, suc, ◌+◌, ◌-◌, ◌≤◌, ◌==◌, Bool, true, false, if◌then◌else◌, List, [], ◌∷◌, ◌++◌, length, take, drop, map, flat_map, Option, None, Some, is_some, option_map, unwrap_or, refl, sym, ◌∙◌, ap, arith, length-drop, append-nil, true≢false}
use Rattle.std.specs.Prelude.{IfSome}
use Rattle.std.specs.List.{list_all}
use Rattle.std.specs.Option.{option_or}
use Rattle.kmn_base.specs.declared.codes.Code.{Code}
use Rattle.std.proofs.Math.Seq.{take-append-add, take-append_seam, drop-append_seam}
use Rattle.std.proofs.lemmas.Bool.{eq-eqb, eqb-true, ne_eqb}
use Rattle.std.proofs.lemmas.List.{drop-drop, drop-take, take-take, length-take, map-append}
use Rattle.kmn_base.specs.Bytes.{is_blank}
use Rattle.kmn_base.specs.Texts.{bom_size}
use Rattle.kmn_lines.specs.Bytes.{first_or_end}
use Rattle.kmn_lines.specs.Lines.{ends_line, starts_comment, line_start, outside, in_line, after_byte, physical_line, physical_lines, physical_lines_at, logicals, is_skipped, dropped, physical_text, part_after, opening_parts, parts_in}
use Rattle.kmn_lines.specs.Laws.{bytes_between}
use Rattle.kmn_lines.proofs.LineStates.{IsBetween}
use Rattle.kmn_lines.specs.Tokens.{token_size, token_kind, token_text, scanned, part_text, parts_tokens, line_tokens, first_fault, parts_fault, refusal, line_refusal}
use Rattle.kmn_lines.specs.declared.line_state.LineState.{LineState}
use Rattle.kmn_lines.specs.declared.line_state.PhysicalLine.{PhysicalLine}
use Rattle.kmn_lines.specs.declared.logical.Logical.{Logical}
use Rattle.kmn_lines.specs.declared.logical.Part.{Part}
use Rattle.kmn_lines.specs.declared.token.Token.{Token}
use Rattle.kmn_lines.proofs.LineStates.{between_after_byte}
use Rattle.kmn_lines.proofs.Numbered.{drop-next}
use Rattle.kmn_lines.proofs.Whole.{lines_make_the_source}
use Rattle.kmn_items.specs.TokenTexts.{LineToken, with_text, with_texts}
use Rattle.line_laws.specs.Laws.{placed, code_of, TokensAreOfTheirLine, TokensMove, FaultsAreOfTheirLine}

-- the tokens of a text with their texts, where some first bytes belong to the token before
abbrev pieces : ℕ → List ℕ → List LineToken
pieces n [] = []
pieces (suc n) (byte ∷ bytes) = pieces n bytes
pieces zero (byte ∷ bytes) =
    if is_blank byte then pieces zero bytes
    else record { kind = token_kind (token_text (byte ∷ bytes)); text = token_text (byte ∷ bytes) } ∷ pieces (token_size (byte ∷ bytes) - 1) bytes

take-again : (n : ℕ) (xs : List ℕ) → take (length (take n xs)) xs ≡ take n xs
take-again zero xs = refl
take-again (suc n) [] = refl
take-again (suc n) (x ∷ xs) = ap (λ (ys : List ℕ). x ∷ ys) (take-again n xs)

-- the text of a token that some bytes begin with
text-is : (source : List ℕ) (to at size byte : ℕ) (bytes : List ℕ) → drop at (take to source) ≡ byte ∷ bytes → let text = take size (byte ∷ bytes) in drop at (take (at + length text) source) ≡ text
text-is source to at size byte bytes e =
    let text : List ℕ = take size (byte ∷ bytes) in
    let n : ℕ = length text in
    let long : n ≤ suc (length bytes) = omega (arith, length-take size (byte ∷ bytes)) in
    let all : suc (length bytes) ≡ length (take to source) - at = ap length (sym e) ∙ length-drop at (take to source) in
    let within : at + n ≤ to = omega (arith, length-take to source) in
    ap (λ (xs : List ℕ). drop at xs) (sym (take-take (at + n) to source within))
    ∙ drop-take at n (take to source)
    ∙ ap (λ (xs : List ℕ). take n xs) e
    ∙ take-again size (byte ∷ bytes)

texts-if : (source : List ℕ) (b : Bool) (ts us : List Token) (xs ys : List LineToken) → with_texts source ts ≡ xs → with_texts source us ≡ ys → with_texts source (if b then ts else us) ≡ (if b then xs else ys)
texts-if source true ts us xs ys e f = e
texts-if source false ts us xs ys e f = f

scanned-pieces : (source : List ℕ) (to line n at : ℕ) (bytes : List ℕ) → drop at (take to source) ≡ bytes → with_texts source (scanned line n at bytes) ≡ pieces n bytes
scanned-pieces source to line n at [] e = refl
scanned-pieces source to line (suc n) at (byte ∷ bytes) e = scanned-pieces source to line n (at + 1) bytes (drop-next at (take to source) byte bytes e)
scanned-pieces source to line zero at (byte ∷ bytes) e =
    let text : List ℕ = token_text (byte ∷ bytes) in
    let next : drop (at + 1) (take to source) ≡ bytes = drop-next at (take to source) byte bytes e in
    let rest : List LineToken = with_texts source (scanned line (token_size (byte ∷ bytes) - 1) (at + 1) bytes) in
    let token : List ℕ → LineToken = λ xs. record { kind = token_kind text; text = xs } in
    texts-if source (is_blank byte) _ _ _ _
    (scanned-pieces source to line zero (at + 1) bytes next)
    (ap (λ (xs : List ℕ). token xs ∷ rest) (text-is source to at (token_size (byte ∷ bytes)) byte bytes e)
    ∙ ap (λ (ts : List LineToken). token text ∷ ts) (scanned-pieces source to line (token_size (byte ∷ bytes) - 1) (at + 1) bytes next))

parts-pieces : (source : List ℕ) (ps : List Part) → with_texts source (parts_tokens source ps) ≡ flat_map (pieces 0) (map (part_text source) ps)
parts-pieces source [] = refl
parts-pieces source (p ∷ ps) =
    map-append (with_text source) (scanned p.line 0 p.from (part_text source p)) (parts_tokens source ps)
    ∙ ap (λ (ts : List LineToken). ts ++ with_texts source (parts_tokens source ps)) (scanned-pieces source p.to p.line 0 p.from (part_text source p) refl)
    ∙ ap (λ (ts : List LineToken). pieces 0 (part_text source p) ++ ts) (parts-pieces source ps)

-- the texts of the parts of a line, by the texts of its physical lines
abbrev opened : List (List ℕ) → List (List ℕ)
opened [] = []
opened (text ∷ texts) =
    if is_skipped text then []
    else drop (dropped text) text ∷ (if list_all is_blank text then opened texts else texts)

parts-if : (source : List ℕ) (b : Bool) (ps qs : List Part) (xs ys : List (List ℕ)) → map (part_text source) ps ≡ xs → map (part_text source) qs ≡ ys → map (part_text source) (if b then ps else qs) ≡ (if b then xs else ys)
parts-if source true ps qs xs ys e f = e
parts-if source false ps qs xs ys e f = f

behind-text : (source : List ℕ) (n : ℕ) (p : PhysicalLine) → part_text source (part_after n p) ≡ drop n (physical_text source p)
behind-text source n p = sym (drop-drop n p.from (take p.to source))

later-texts : (source : List ℕ) (ps : List PhysicalLine) → map (part_text source) (map (part_after 0) ps) ≡ map (physical_text source) ps
later-texts source [] = refl
later-texts source (p ∷ ps) =
    ap (λ (xs : List ℕ). xs ∷ map (part_text source) (map (part_after 0) ps)) (behind-text source 0 p)
    ∙ ap (λ (xs : List (List ℕ)). physical_text source p ∷ xs) (later-texts source ps)

opening-texts : (source : List ℕ) (ps : List PhysicalLine) → map (part_text source) (opening_parts source ps) ≡ opened (map (physical_text source) ps)
opening-texts source [] = refl
opening-texts source (p ∷ ps) =
    let text : List ℕ = physical_text source p in
    let rest : List Part = if list_all is_blank text then opening_parts source ps else map (part_after 0) ps in
    parts-if source (is_skipped text) _ _ _ _ refl
    (ap (λ (xs : List ℕ). xs ∷ map (part_text source) rest) (behind-text source (dropped text) p)
    ∙ ap (λ (xs : List (List ℕ)). drop (dropped text) text ∷ xs)
    (parts-if source (list_all is_blank text) _ _ _ _ (opening-texts source ps) (later-texts source ps)))

-- a state whose places are moved
abbrev pub by : ℕ → Option ℕ → Option ℕ
by k o = option_map (λ (n : ℕ). k + n) o

abbrev pub moved : ℕ → LineState → LineState
moved k r = record { quote = r.quote; after_blank = r.after_blank; slash = by k r.slash; stop = by k r.stop }

moved-if : (k : ℕ) (b : Bool) (r s u v : LineState) → u ≡ moved k r → v ≡ moved k s → (if b then u else v) ≡ moved k (if b then r else s)
moved-if k true r s u v e f = e
moved-if k false r s u v e f = f

moved-outside : (k at byte next : ℕ) (r : LineState) → outside (moved k r) (k + at) byte next ≡ moved k (outside r at byte next)
moved-outside k at byte next r =
    moved-if k (is_blank byte) _ _ _ _ refl
    (moved-if k (starts_comment r.after_blank byte next) _ _ _ _ refl
    (moved-if k (byte == 92) _ _ _ _ refl refl))

moved-in_line : (k at byte next : ℕ) (quote : Option ℕ) (r : LineState) → in_line quote (moved k r) (k + at) byte next ≡ moved k (in_line quote r at byte next)
moved-in_line k at byte next None r = moved-outside k at byte next r
moved-in_line k at byte next (Some quote) r = moved-if k (byte == quote) _ _ _ _ refl refl

pub same-some : (k : ℕ) (o : Option ℕ) → is_some (by k o) ≡ is_some o
same-some k None = refl
same-some k (Some n) = refl

pub moved-after : (k at byte next : ℕ) (r : LineState) → after_byte (moved k r) (k + at) byte next ≡ moved k (after_byte r at byte next)
moved-after k at byte next r =
    let other : LineState = if byte == 13 then record (moved k r) { stop = Some (k + at) } else in_line r.quote (moved k r) (k + at) byte next in
    ap (λ (b : Bool). if b then moved k r else other) (same-some k r.stop)
    ∙ moved-if k (is_some r.stop) _ _ _ _ refl
    (moved-if k (byte == 13) _ _ _ _ refl (moved-in_line k at byte next r.quote r))

to-moved : (k at : ℕ) (slash stop : Option ℕ) → unwrap_or (by k slash) (unwrap_or (by k stop) (k + at)) ≡ k + unwrap_or slash (unwrap_or stop at)
to-moved k at (Some n) stop = refl
to-moved k at None (Some n) = refl
to-moved k at None None = refl

text-moved : (front line : List ℕ) (from to : ℕ) → drop (length front + from) (take (length front + to) (front ++ line)) ≡ drop from (take to line)
text-moved front line from to =
    ap (λ (xs : List ℕ). drop (length front + from) xs) (take-append-add front line to)
    ∙ sym (drop-drop from (length front) (front ++ take to line))
    ∙ ap (λ (xs : List ℕ). drop from xs) (drop-append_seam front (take to line))

-- the text of a line that is moved to a place after a front
line-moved : (front line : List ℕ) (n m from at start place x y : ℕ) (r s : LineState) → start ≡ length front + from → place ≡ length front + at → s ≡ moved (length front) r
    → physical_text (front ++ line) (physical_line n start place x s) ≡ physical_text line (physical_line m from at y r)
line-moved front line n m from at start place x y r s e f g =
    let whole : List ℕ = front ++ line in
    let k : ℕ = length front in
    ap (λ (i : ℕ). physical_text whole (physical_line n i place x s)) e
    ∙ ap (λ (i : ℕ). physical_text whole (physical_line n (k + from) i x s)) f
    ∙ ap (λ (q : LineState). physical_text whole (physical_line n (k + from) (k + at) x q)) g
    ∙ ap (λ (i : ℕ). drop (k + from) (take i whole)) (to-moved k at r.slash r.stop)
    ∙ text-moved front line from (unwrap_or r.slash (unwrap_or r.stop at))

pub same-place : (k from at start place : ℕ) (b : Bool) → (from == at) ≡ b → start ≡ k + from → place ≡ k + at → (start == place) ≡ b
same-place k from at start place true h e f = let same = eqb-true from at h in eq-eqb start place (omega arith)
same-place k from at start place false h e f = ne_eqb start place (λ same. (let equal : from ≡ at = omega arith in let t = eq-eqb from at equal in absurd (true≢false (sym t ∙ h))))

maps-if : (xs ys : List ℕ) (b : Bool) (ps qs us vs : List PhysicalLine) → map (physical_text xs) ps ≡ map (physical_text ys) us → map (physical_text xs) qs ≡ map (physical_text ys) vs
    → map (physical_text xs) (if b then ps else qs) ≡ map (physical_text ys) (if b then us else vs)
maps-if xs ys true ps qs us vs e f = e
maps-if xs ys false ps qs us vs e f = f

texts-moved : (front line : List ℕ) (n m from at start place : ℕ) (r s : LineState) (bytes : List ℕ) → start ≡ length front + from → place ≡ length front + at → s ≡ moved (length front) r
    → map (physical_text (front ++ line)) (physical_lines n start s place bytes) ≡ map (physical_text line) (physical_lines m from r at bytes)
texts-moved front line n m from at start place r s [] e f g =
    let text : List PhysicalLine → List (List ℕ) = map (physical_text (front ++ line)) in
    ap (λ (b : Bool). text (if b then [] else physical_line n start place place s ∷ [])) (same-place (length front) from at start place (from == at) refl e f)
    ∙ maps-if (front ++ line) line (from == at) _ _ _ _ refl
    (ap (λ (xs : List ℕ). xs ∷ []) (line-moved front line n m from at start place place at r s e f g))
texts-moved front line n m from at start place r s (byte ∷ bytes) e f g =
    let k : ℕ = length front in
    let next : ℕ = first_or_end bytes in
    let one : place + 1 ≡ k + (at + 1) = omega arith in
    maps-if (front ++ line) line (ends_line byte next) _ _ _ _
    (ap (λ (xs : List ℕ). xs ∷ map (physical_text (front ++ line)) (physical_lines (n + 1) (place + 1) line_start (place + 1) bytes)) (line-moved front line n m from at start place (place + 1) (at + 1) r s e f g)
    ∙ ap (λ (xs : List (List ℕ)). physical_text line (physical_line m from at (at + 1) r) ∷ xs)
    (texts-moved front line (n + 1) (m + 1) (at + 1) (at + 1) (place + 1) (place + 1) line_start line_start bytes one one refl))
    (texts-moved front line n m from (at + 1) start (place + 1) (after_byte r at byte next) (after_byte s place byte next) bytes e one
    (ap (λ (q : LineState). after_byte q place byte next) g
    ∙ ap (λ (i : ℕ). after_byte (moved k r) i byte next) f
    ∙ moved-after k at byte next r))

-- physical lines, and parts, whose texts end before a place
abbrev LinesEnd : ℕ → List PhysicalLine → Type 0
LinesEnd size [] = Unit {0}
LinesEnd size (p ∷ ps) = (p.to ≤ size) × LinesEnd size ps

abbrev PartsEnd : ℕ → List Part → Type 0
PartsEnd size [] = Unit {0}
PartsEnd size (p ∷ ps) = (p.to ≤ size) × PartsEnd size ps

lines_end-if : (size : ℕ) (b : Bool) (ps qs : List PhysicalLine) → LinesEnd size ps → LinesEnd size qs → LinesEnd size (if b then ps else qs)
lines_end-if size true ps qs g h = g
lines_end-if size false ps qs g h = h

parts_end-if : (size : ℕ) (b : Bool) (ps qs : List Part) → PartsEnd size ps → PartsEnd size qs → PartsEnd size (if b then ps else qs)
parts_end-if size true ps qs g h = g
parts_end-if size false ps qs g h = h

to-within : (from at : ℕ) (slash stop : Option ℕ) → IfSome slash (λ n. (from ≤ n) × (n ≤ at)) → IfSome stop (λ n. (from ≤ n) × (n ≤ at)) → unwrap_or slash (unwrap_or stop at) ≤ at
to-within from at (Some n) stop h g = h.1
to-within from at None (Some n) h g = g.1
to-within from at None None h g = omega arith

lines-end : (n from at size : ℕ) (r : LineState) (bytes : List ℕ) → from ≤ at → at + length bytes ≤ size → IsBetween from at r → LinesEnd size (physical_lines n from r at bytes)
lines-end n from at size r [] l h between =
    let to = to-within from at r.slash r.stop between.slash between.stop in
    lines_end-if size (from == at) _ _ tt (omega arith, tt)
lines-end n from at size r (byte ∷ bytes) l h between =
    let to = to-within from at r.slash r.stop between.slash between.stop in
    lines_end-if size (ends_line byte (first_or_end bytes)) _ _
    (omega arith, lines-end (n + 1) (at + 1) (at + 1) size line_start bytes (omega arith) (omega arith) (record { slash = tt; stop = tt }))
    (lines-end n from (at + 1) size (after_byte r at byte (first_or_end bytes)) bytes (omega arith) (omega arith) (between_after_byte from at r byte (first_or_end bytes) l between))

later-end : (size : ℕ) (ps : List PhysicalLine) → LinesEnd size ps → PartsEnd size (map (part_after 0) ps)
later-end size [] h = tt
later-end size (p ∷ ps) (e, h) = (e, later-end size ps h)

opening-end : (size : ℕ) (source : List ℕ) (ps : List PhysicalLine) → LinesEnd size ps → PartsEnd size (opening_parts source ps)
opening-end size source [] h = tt
opening-end size source (p ∷ ps) (e, h) =
    parts_end-if size (is_skipped (physical_text source p)) _ _ tt
    (e, parts_end-if size (list_all is_blank (physical_text source p)) _ _ (opening-end size source ps h) (later-end size ps h))

-- the texts of parts that end before a place do not depend on what follows the place
texts-before : (size : ℕ) (source : List ℕ) (ps : List Part) → PartsEnd size ps → map (part_text source) ps ≡ map (part_text (take size source)) ps
texts-before size source [] h = refl
texts-before size source (p ∷ ps) (e, h) =
    ap (λ (xs : List ℕ). drop p.from xs ∷ map (part_text source) ps) (sym (take-take p.to size source e))
    ∙ ap (λ (xs : List (List ℕ)). part_text (take size source) p ∷ xs) (texts-before size source ps h)

-- the texts that are the tokens of the line at a place
abbrev texts_at : ℕ → ℕ → List ℕ → List (List ℕ)
texts_at n at source = opened (map (physical_text source) (physical_lines_at n at source))

-- the texts of the parts of a line
abbrev line_texts : List ℕ → Logical → List (List ℕ)
line_texts source l = map (part_text source) (parts_in source l)

texts-are : (source : List ℕ) (l : Logical) → l.from ≤ l.to → line_texts source l ≡ texts_at l.first_line l.from (take l.to source)
unfolding parts_in
texts-are source l order =
    let bytes : List ℕ = take l.to source in
    let ps : List PhysicalLine = physical_lines_at l.first_line l.from bytes in
    let few : l.from + length (drop l.from bytes) ≤ l.to = omega (arith, length-drop l.from bytes, length-take l.to source) in
    let end : LinesEnd l.to ps = lines-end l.first_line l.from l.from l.to line_start (drop l.from bytes) (omega arith) few (record { slash = tt; stop = tt }) in
    texts-before l.to source (opening_parts bytes ps) (opening-end l.to bytes ps end) ∙ opening-texts bytes ps

all-moved : (n m : ℕ) (front line : List ℕ) → texts_at n (length front) (front ++ line) ≡ texts_at m 0 line
all-moved n m front line =
    let k : ℕ = length front in
    let same : k ≡ k + 0 = omega arith in
    ap (λ (xs : List ℕ). opened (map (physical_text (front ++ line)) (physical_lines n k line_start k xs))) (drop-append_seam front line)
    ∙ ap opened (texts-moved front line n m 0 0 k k line_start line_start line same same refl)

take-over : (xs : List ℕ) (n : ℕ) → length xs ≤ n → take n xs ≡ xs
take-over [] zero h = refl
take-over [] (suc n) h = refl
take-over (x ∷ xs) zero h = absurd (omega arith)
take-over (x ∷ xs) (suc n) h = ap (λ (ys : List ℕ). x ∷ ys) (take-over xs n (omega arith))

-- if a source is one line, the line is from its first byte to its last
record IsAll (line : List ℕ) (l : Logical) : Type 0 where
  first : l.from ≡ 0
  last : length line ≤ l.to

line-is_all : (line : List ℕ) (l : Logical) → bom_size line ≡ 0 → logicals line ≡ l ∷ [] → IsAll line l
unfolding logicals
line-is_all [] l h e = absurd cc
line-is_all (byte ∷ bytes) l h e =
    let line : List ℕ = byte ∷ bytes in
    let whole : bytes_between line l.from l.to ≡ line =
    sym (append-nil (bytes_between line l.from l.to))
    ∙ ap (λ (ls : List Logical). flat_map (λ (l : Logical). bytes_between line l.from l.to) ls) (sym e)
    ∙ ap (λ (k : ℕ). take k line ++ flat_map (λ (l : Logical). bytes_between line l.from l.to) (logicals line)) (sym h)
    ∙ lines_make_the_source line in
    let long : length (bytes_between line l.from l.to) ≡ suc (length bytes) = ap length whole in
    record {
      first = omega (arith, long, length-drop l.from (take l.to line), length-take l.to line);
      last = omega (arith, long, length-drop l.from (take l.to line), length-take l.to line);
    }

-- bytes that are one line have the same texts at each place
texts-of_line : (number : ℕ) (front line behind : List ℕ) (l : Logical) → bom_size line ≡ 0 → logicals line ≡ l ∷ [] → line_texts (front ++ (line ++ behind)) (placed number front line) ≡ line_texts line l
texts-of_line number front line behind l h e =
    let whole : List ℕ = front ++ (line ++ behind) in
    let all : IsAll line l = line-is_all line l h e in
    let there : take (length front + length line) whole ≡ front ++ line = take-append-add front (line ++ behind) (length line) ∙ ap (λ (xs : List ℕ). front ++ xs) (take-append_seam line behind) in
    texts-are whole (placed number front line) (omega arith)
    ∙ ap (λ (xs : List ℕ). texts_at number (length front) xs) there
    ∙ all-moved number l.first_line front line
    ∙ ap (λ (k : ℕ). texts_at l.first_line k line) (sym all.first)
    ∙ ap (λ (xs : List ℕ). texts_at l.first_line l.from xs) (sym (take-over line l.to all.last))
    ∙ sym (texts-are line l (omega (arith, all.first)))

pub tokens_are_of_their_line : TokensAreOfTheirLine
unfolding line_tokens
tokens_are_of_their_line number front line behind l h e =
    let whole : List ℕ = front ++ (line ++ behind) in
    parts-pieces whole (parts_in whole (placed number front line))
    ∙ ap (λ (texts : List (List ℕ)). flat_map (pieces 0) texts) (texts-of_line number front line behind l h e)
    ∙ sym (parts-pieces line (parts_in line l))

placed-texts : (number : ℕ) (front line behind : List ℕ) → line_texts (front ++ (line ++ behind)) (placed number front line) ≡ texts_at 1 0 line
placed-texts number front line behind =
    let whole : List ℕ = front ++ (line ++ behind) in
    let there : take (length front + length line) whole ≡ front ++ line = take-append-add front (line ++ behind) (length line) ∙ ap (λ (xs : List ℕ). front ++ xs) (take-append_seam line behind) in
    texts-are whole (placed number front line) (omega arith)
    ∙ ap (λ (xs : List ℕ). texts_at number (length front) xs) there
    ∙ all-moved number 1 front line

placed-tokens : (number : ℕ) (front line behind : List ℕ) → with_texts (front ++ (line ++ behind)) (line_tokens (front ++ (line ++ behind)) (placed number front line)) ≡ flat_map (pieces 0) (texts_at 1 0 line)
unfolding line_tokens
placed-tokens number front line behind =
    let whole : List ℕ = front ++ (line ++ behind) in
    parts-pieces whole (parts_in whole (placed number front line))
    ∙ ap (λ (texts : List (List ℕ)). flat_map (pieces 0) texts) (placed-texts number front line behind)

pub tokens_move : TokensMove
tokens_move n m line front behind before after = placed-tokens n front line behind ∙ sym (placed-tokens m before line after)

-- the first fault in texts
abbrev texts_fault : List (List ℕ) → Option Code
texts_fault [] = None
texts_fault (text ∷ texts) = option_or (first_fault 0 text) (texts_fault texts)

parts-faults : (source : List ℕ) (ps : List Part) → parts_fault source ps ≡ texts_fault (map (part_text source) ps)
parts-faults source [] = refl
parts-faults source (p ∷ ps) = ap (λ (o : Option Code). option_or (first_fault 0 (part_text source p)) o) (parts-faults source ps)

code-is : (line : ℕ) (o : Option Code) → code_of (option_map (refusal line) o) ≡ o
code-is line None = refl
code-is line (Some code) = refl

faults-are : (source : List ℕ) (l : Logical) → code_of (line_refusal source l) ≡ texts_fault (line_texts source l)
unfolding line_refusal
faults-are source l = code-is l.first_line (parts_fault source (parts_in source l)) ∙ parts-faults source (parts_in source l)

pub faults_are_of_their_line : FaultsAreOfTheirLine
faults_are_of_their_line number front line behind l h e =
    faults-are (front ++ (line ++ behind)) (placed number front line)
    ∙ ap texts_fault (texts-of_line number front line behind l h e)
    ∙ sym (faults-are line l)
