-- The tokens of the lines of a UTF-8 source are UTF-8.
use Rattle.std.proofs.Common.{◌≡◌, ℕ, zero, suc, ◌+◌, ◌-◌, ◌<◌, ◌≤◌, inl, inr, Bool, true, false, ◌&&◌, ◌||◌, not, if◌then◌else◌, ◌==◌, List, [], ◌∷◌, length, take, drop, map, get_or, Option, None, Some, is_some, refl, sym, ◌∙◌, ap, subst, arith, length-drop}
use Rattle.std.specs.Prelude.{nat_lt, All, IfSome, IsUtf8, IsCharBoundary, codes, unwrap_or}
use Rattle.std.specs.List.{list_all, starts_with}
use Rattle.std.specs.Char.{to_ascii_lowercase}
use Rattle.std.specs.Str.{str_to_ascii_lowercase}
use Rattle.std.proofs.lemmas.Bool.{ne_eqb, eqb-true, cases_lt, and_parts, or_from, and_left, cond_both}
use Rattle.std.proofs.lemmas.List.{length-take, take-take, drop-drop, get_or-drop, get_or-take, get_or-map}
use Rattle.std.proofs.lemmas.List.Elements.{All-cons, All-nil, All-head, All-tail}
use Rattle.std.proofs.lemmas.Slice.Eq.{bytes_eq-Decides}
use Rattle.std.proofs.lemmas.Str.{IsUtf8-take, IsUtf8-drop, IsCharBoundary-start, IsCharBoundary-before_ascii, IsCharBoundary-after_ascii, IsCharBoundary-from_take}
use Rattle.kmn_lines.specs.declared.line_state.LineState.{LineState}
use Rattle.kmn_base.specs.Names.{same_name}
use Rattle.kmn_lines.specs.declared.line_state.PhysicalLine.{PhysicalLine}
use Rattle.kmn_lines.specs.declared.logical.Logical.{Logical}
use Rattle.kmn_base.specs.Bytes.{is_blank}
use Rattle.kmn_base.specs.Texts.{bom_size}
use Rattle.kmn_lines.specs.Bytes.{first_or_end}
use Rattle.kmn_lines.specs.Lines.{ends_line, starts_comment, line_start, outside, in_line, after_byte, physical_line, physical_lines, physical_lines_at, extended, gather, logicals, blanks, begins_with, is_skipped, dropped, physical_text, part_after, opening_parts, parts_in}
use Rattle.kmn_lines.specs.Tokens.{line_tokens}
use Rattle.kmn_lines.specs.Places.{IsPlaced}
use Rattle.kmn_lines.specs.Laws.{bytes_between, TokensAreText}
use Rattle.kmn_lines.specs.declared.token.Token.{Token}
use Rattle.kmn_lines.proofs.Placed.{InRow, physical_lines_at-in_row, lines_placed}
use Rattle.kmn_lines.proofs.Whole.{begins-long, mark-is, mark-within}
use Rattle.kmn_lines.proofs.TextTokens.{boundary-before, IsPartText, parts-text}
use Rattle.kmn_lines.proofs.TextSizes.{clash, all-if}
use Rattle.kmn_lines.proofs.Numbered.{drop-next}

-- the byte at a position, if the bytes from there on are known
byte-at : (at : ℕ) (text : List ℕ) (byte : ℕ) (bytes : List ℕ) → drop at text ≡ byte ∷ bytes → (get_or text at 0 ≡ byte) × (at < length text)
byte-at zero text byte bytes e = subst (λ (xs : List ℕ). (get_or xs 0 0 ≡ byte) × (0 < length xs)) (sym e) (refl, omega arith)
byte-at (suc n) [] byte bytes e = absurd cc
byte-at (suc n) (x ∷ xs) byte bytes e = let here = byte-at n xs byte bytes e in (here.0, omega arith)

-- the positions in a state are between characters
record KnowsBoundaries (text : List ℕ) (r : LineState) : Type 0 where
  slash : IfSome r.slash (λ k. IsCharBoundary text k)
  stop : IfSome r.stop (λ k. IsCharBoundary text k)

or-small : (a b byte : ℕ) → a < 128 → b < 128 → ((byte == a) || (byte == b)) ≡ true → byte < 128
or-small a b byte g h e = elim (cases_lt byte 128) [ inl l ↦ l | inr k ↦ clash ((byte == a) || (byte == b)) e (or_from (byte == a) (byte == b) (ne_eqb byte a (omega arith)) (ne_eqb byte b (omega arith))) ]

knows-outside : (text : List ℕ) (r : LineState) (at byte next : ℕ) → (byte < 128 → IsCharBoundary text at) → KnowsBoundaries text r → KnowsBoundaries text (outside r at byte next)
knows-outside text r at byte next place h =
    cond_both (is_blank byte) _ _ (KnowsBoundaries text) (λ e. record { slash = h.slash; stop = h.stop })
    (λ e. cond_both (starts_comment r.after_blank byte next) _ _ (KnowsBoundaries text)
    (λ c. record { slash = tt; stop = place (or-small 99 67 byte (omega arith) (omega arith) (and_parts r.after_blank _ (and_parts (r.after_blank && ((byte == 99) || (byte == 67))) _ c).0).1) })
    (λ e. cond_both (byte == 92) _ _ (KnowsBoundaries text)
    (λ b. let small : byte ≡ 92 = eqb-true byte 92 b in record { slash = place (omega arith); stop = h.stop })
    (λ e. record { slash = tt; stop = h.stop })))

knows-in_line : (text : List ℕ) (quote : Option ℕ) (r : LineState) (at byte next : ℕ) → (byte < 128 → IsCharBoundary text at) → KnowsBoundaries text r → KnowsBoundaries text (in_line quote r at byte next)
knows-in_line text None r at byte next place h = knows-outside text r at byte next place h
knows-in_line text (Some quote) r at byte next place h = cond_both (byte == quote) _ _ (KnowsBoundaries text) (λ e. record { slash = h.slash; stop = h.stop }) (λ e. h)

knows-after_byte : (text : List ℕ) (r : LineState) (at byte next : ℕ) → (byte < 128 → IsCharBoundary text at) → KnowsBoundaries text r → KnowsBoundaries text (after_byte r at byte next)
knows-after_byte text r at byte next place h =
    cond_both (is_some r.stop) _ _ (KnowsBoundaries text) (λ e. h)
    (λ e. cond_both (byte == 13) _ _ (KnowsBoundaries text)
    (λ b. let small : byte ≡ 13 = eqb-true byte 13 b in record { slash = h.slash; stop = place (omega arith) })
    (λ e. knows-in_line text r.quote r at byte next place h))

-- a physical line begins and ends between characters
record IsPhysicalText (text : List ℕ) (p : PhysicalLine) : Type 0 where
  from : IsCharBoundary text p.from
  to : IsCharBoundary text p.to
  next : IsCharBoundary text p.next

known-place : (text : List ℕ) (o : Option ℕ) (n : ℕ) → IfSome o (λ k. IsCharBoundary text k) → IsCharBoundary text n → IsCharBoundary text (unwrap_or o n)
known-place text None n h g = g
known-place text (Some k) n h g = h

line-end-small : (byte next : ℕ) → ends_line byte next ≡ true → byte < 128
line-end-small byte next e =
    elim (cases_lt byte 128) [
      | inl l ↦ l
      | inr k ↦ clash (ends_line byte next) e (or_from (byte == 10) ((byte == 13) && not (next == 10)) (ne_eqb byte 10 (omega arith)) (and_left (byte == 13) (not (next == 10)) (ne_eqb byte 13 (omega arith))))
    ]

physical_lines-text : (text : List ℕ) → IsUtf8 text → (line from : ℕ) (r : LineState) (at : ℕ) (bytes : List ℕ) → drop at text ≡ bytes → at ≤ length text → IsCharBoundary text from → KnowsBoundaries text r → All (IsPhysicalText text) (physical_lines line from r at bytes)
physical_lines-text text utf line from r at [] e l start h =
    let left : 0 ≡ length text - at = ap length (sym e) ∙ length-drop at text in
    let end : IsCharBoundary text at = boundary-before text at l (inl (omega arith)) in
    cond_both (from == at) [] _ (All (IsPhysicalText text)) (λ s. All-nil (IsPhysicalText text))
    (λ s. All-cons (IsPhysicalText text) (physical_line line from at at r) []
    (record { from = start; to = known-place text r.slash _ h.slash (known-place text r.stop at h.stop end); next = end })
    (All-nil (IsPhysicalText text)))
physical_lines-text text utf line from r at (byte ∷ bytes) e l start h =
    let here = byte-at at text byte bytes e in
    let place : byte < 128 → IsCharBoundary text at = λ (small : byte < 128). IsCharBoundary-before_ascii text at here.1 (omega (arith, here.0)) in
    let next : drop (at + 1) text ≡ bytes = drop-next at text byte bytes e in
    cond_both (ends_line byte (first_or_end bytes)) _ _ (All (IsPhysicalText text))
    (λ ends.
    let small : byte < 128 = line-end-small byte (first_or_end bytes) ends in
    let behind : IsCharBoundary text (at + 1) = IsCharBoundary-after_ascii text at utf here.1 (omega (arith, here.0)) in
    All-cons (IsPhysicalText text) (physical_line line from at (at + 1) r) _
    (record { from = start; to = known-place text r.slash _ h.slash (known-place text r.stop at h.stop (place small)); next = behind })
    (physical_lines-text text utf (line + 1) (at + 1) line_start (at + 1) bytes next (omega (arith, here.1)) behind (record { slash = tt; stop = tt })))
    (λ goes.
    physical_lines-text text utf line from (after_byte r at byte (first_or_end bytes)) (at + 1) bytes next (omega (arith, here.1)) start
    (knows-after_byte text r at byte (first_or_end bytes) place h))

-- a logical line begins and ends between characters
record IsLineText (text : List ℕ) (l : Logical) : Type 0 where
  from : IsCharBoundary text l.from
  to : IsCharBoundary text l.to

abbrev IsBegunText : List ℕ → Option Logical → Type 0
IsBegunText text None = Unit {0}
IsBegunText text (Some l) = IsLineText text l

gather-text : (text : List ℕ) (begun : Option Logical) (ps : List PhysicalLine) → IsBegunText text begun → All (IsPhysicalText text) ps → All (IsLineText text) (gather begun ps)
gather-text text None [] b h = All-nil (IsLineText text)
gather-text text (Some l) [] b h = All-cons (IsLineText text) l [] b (All-nil (IsLineText text))
gather-text text None (p ∷ ps) b h =
    let here : IsPhysicalText text p = All-head (IsPhysicalText text) p ps h in
    let rest = All-tail (IsPhysicalText text) p ps h in
    let now : IsLineText text (extended None p) = record { from = here.from; to = here.next } in
    all-if (IsLineText text) p.joined _ _ (gather-text text (Some (extended None p)) ps now rest)
    (All-cons (IsLineText text) (extended None p) _ now (gather-text text None ps tt rest))
gather-text text (Some l) (p ∷ ps) b h =
    let here : IsPhysicalText text p = All-head (IsPhysicalText text) p ps h in
    let rest = All-tail (IsPhysicalText text) p ps h in
    let now : IsLineText text (extended (Some l) p) = record { from = b.from; to = here.next } in
    all-if (IsLineText text) p.joined _ _ (gather-text text (Some (extended (Some l) p)) ps now rest)
    (All-cons (IsLineText text) (extended (Some l) p) _ now (gather-text text None ps tt rest))

-- a position between characters is also one in the text up to a later position
boundary-prefix : (text : List ℕ) (n i : ℕ) → i ≤ n → n ≤ length text → IsCharBoundary text i → IsCharBoundary (take n text) i
boundary-prefix text n i h g b =
    let long : length (take n text) ≡ n = length-take n text ∙ omega arith in (
      omega arith,
      λ l w.
          let same : get_or (take n text) i 0 ≡ get_or text i 0 = get_or-take n text i 0 (omega arith) in
          subst (λ (k : ℕ). 192 ≤ k) (sym same) (b.1 (omega arith) (subst (λ (k : ℕ). 128 ≤ k) same w)),
    )

lower-small : (a b : Bool) (c : ℕ) → (if a then c else (if b then c + 32 else c)) ≡ 58 → c < 128
lower-small true b c e = omega arith
lower-small false true c e = omega arith
lower-small false false c e = omega arith

-- a prefix ends between characters
prefix-boundary : (text word : List ℕ) (m : ℕ) → IsUtf8 text → length word ≡ suc m → get_or (str_to_ascii_lowercase word) m 0 ≡ 58 → begins_with (drop (blanks text) text) word ≡ true → IsCharBoundary text (blanks text + suc m)
unfolding same_name
prefix-boundary text word m utf long colon h =
    let words : List ℕ = drop (blanks text) text in
    let taken : List ℕ = take (length word) words in
    let room : length word ≤ length words = begins-long words word h in
    let left : length words ≡ length text - blanks text = length-drop (blanks text) text in
    let size : length taken ≡ length word = length-take (length word) words ∙ omega arith in
    let same : str_to_ascii_lowercase taken ≡ str_to_ascii_lowercase word = (bytes_eq-Decides _ _).0 h in
    let last : to_ascii_lowercase (get_or words m 0) ≡ 58 =
    ap to_ascii_lowercase (sym (get_or-take (length word) words m 0 (omega arith)))
    ∙ sym (get_or-map to_ascii_lowercase taken m 0 0 (omega arith)) ∙ ap (λ (xs : List ℕ). get_or xs m 0) same ∙ colon in
    let small : get_or words m 0 < 128 = lower-small (nat_lt (get_or words m 0) 65) (nat_lt (get_or words m 0) 91) (get_or words m 0) last in
    let here : get_or text (blanks text + m) 0 < 128 = subst (λ (n : ℕ). n < 128) (get_or-drop (blanks text) text m 0) small in
    let turn : blanks text + m + 1 ≡ blanks text + suc m = omega arith in
    subst (IsCharBoundary text) turn (IsCharBoundary-after_ascii text (blanks text + m) utf (omega arith) here)

dropped-boundary : (text : List ℕ) → IsUtf8 text → IsCharBoundary text (dropped text)
unfolding dropped
dropped-boundary text utf =
    let words : List ℕ = drop (blanks text) text in
    cond_both (begins_with words (codes "$keyman:")) (blanks text + 8) _ (IsCharBoundary text)
    (λ e. prefix-boundary text (codes "$keyman:") 7 utf refl refl e)
    (λ _. cond_both (begins_with words (codes "$keymanonly:")) (blanks text + 12) 0 (IsCharBoundary text)
    (λ e. prefix-boundary text (codes "$keymanonly:") 11 utf refl refl e)
    (λ _. IsCharBoundary-start text utf))

-- the text of a physical line of a text is UTF-8
physical-utf : (text : List ℕ) (p : PhysicalLine) → IsUtf8 text → IsPhysicalText text p → p.from ≤ p.to → IsUtf8 (physical_text text p)
physical-utf text p utf h l =
    IsUtf8-drop (take p.to text) p.from (IsUtf8-take text p.to utf h.to) (boundary-prefix text p.to p.from l h.to.0 h.from)

part-text : (source : List ℕ) (end : ℕ) (p : PhysicalLine) (n : ℕ) → end ≤ length source → p.to ≤ end → IsUtf8 (physical_text (take end source) p) → IsCharBoundary (physical_text (take end source) p) n → IsPartText source (part_after n p)
part-text source end p n l h utf place =
    let same : drop n (physical_text (take end source) p) ≡ drop (p.from + n) (take p.to source) =
    drop-drop n p.from (take p.to (take end source)) ∙ ap (λ (xs : List ℕ). drop (p.from + n) xs) (take-take p.to end source h) in
    record { within = omega arith; utf = subst IsUtf8 same (IsUtf8-drop (physical_text (take end source) p) n utf place) }

mapped-text : (source : List ℕ) (end at : ℕ) (ps : List PhysicalLine) → end ≤ length source → IsUtf8 (take end source) → InRow at end ps → All (IsPhysicalText (take end source)) ps → All (IsPartText source) (map (part_after 0) ps)
mapped-text source end at [] l utf row h = All-nil (IsPartText source)
mapped-text source end at (p ∷ ps) l utf (e, f, g, k, i, row) h =
    let here : IsPhysicalText (take end source) p = All-head (IsPhysicalText (take end source)) p ps h in
    let whole = physical-utf (take end source) p utf here (omega arith) in
    All-cons (IsPartText source) _ _ (part-text source end p 0 l (omega arith) whole (IsCharBoundary-start _ whole))
    (mapped-text source end p.next ps l utf row (All-tail (IsPhysicalText (take end source)) p ps h))

opening-text : (source : List ℕ) (end at : ℕ) (ps : List PhysicalLine) → end ≤ length source → IsUtf8 (take end source) → InRow at end ps → All (IsPhysicalText (take end source)) ps → All (IsPartText source) (opening_parts (take end source) ps)
opening-text source end at [] l utf row h = All-nil (IsPartText source)
opening-text source end at (p ∷ ps) l utf (e, f, g, k, i, row) h =
    let text : List ℕ = take end source in
    let here : IsPhysicalText text p = All-head (IsPhysicalText text) p ps h in
    let rest = All-tail (IsPhysicalText text) p ps h in
    let whole = physical-utf text p utf here (omega arith) in
    all-if (IsPartText source) (is_skipped (physical_text text p)) [] _ (All-nil (IsPartText source))
    (All-cons (IsPartText source) _ _ (part-text source end p (dropped (physical_text text p)) l (omega arith) whole (dropped-boundary _ whole))
    (all-if (IsPartText source) (list_all is_blank (physical_text text p)) _ _ (opening-text source end p.next ps l utf row rest) (mapped-text source end p.next ps l utf row rest)))

line-text : (source : List ℕ) (l : Logical) → IsUtf8 source → IsPlaced source l → IsLineText source l → All (λ (t : Token). IsUtf8 (bytes_between source t.from t.to)) (line_tokens source l)
unfolding line_tokens parts_in
line-text source l utf placed h =
    let text : List ℕ = take l.to source in
    let long : length text ≡ l.to = length-take l.to source ∙ omega (arith, placed.within) in
    let whole : IsUtf8 text = IsUtf8-take source l.to utf h.to in
    let start : IsCharBoundary text l.from = boundary-prefix source l.to l.from placed.forward placed.within h.from in
    let row : InRow l.from l.to (physical_lines_at l.first_line l.from text) =
    subst (λ (n : ℕ). InRow l.from n (physical_lines_at l.first_line l.from text)) long (physical_lines_at-in_row l.first_line l.from text (omega (arith, placed.forward)) placed.counted) in
    parts-text source (parts_in source l)
    (opening-text source l.to l.from (physical_lines_at l.first_line l.from text) placed.within whole row
    (physical_lines-text text whole l.first_line l.from line_start l.from (drop l.from text) refl (omega (arith, placed.forward)) start (record { slash = tt; stop = tt })))

mark-boundary : (source : List ℕ) → IsUtf8 source → IsCharBoundary source (bom_size source)
unfolding lib.Utf8.encode
mark-boundary source utf =
    cond_both (starts_with (λ a b. a == b) source (0xEF ∷ 0xBB ∷ 0xBF ∷ [])) 3 0 (IsCharBoundary source)
    (λ e.
    let mark = mark-is source e in
    let long : 3 ≡ length (take 3 source) = ap length mark in
    let known : IsUtf8 (0xEF ∷ 0xBB ∷ 0xBF ∷ []) = (0xFEFF ∷ [], (refl, refl)) in
    IsCharBoundary-from_take source 3 utf (omega (arith, length-take 3 source)) (subst IsUtf8 mark known))
    (λ _. IsCharBoundary-start source utf)

pub tokens_are_text : TokensAreText
unfolding logicals
tokens_are_text source utf =
    let at : ℕ = bom_size source in
    let placed = lines_placed source 1 at (mark-within source) (omega arith) in
    let bounds = gather-text source None (physical_lines_at 1 at source) tt
    (physical_lines-text source utf 1 at line_start at (drop at source) refl (mark-within source) (mark-boundary source utf) (record { slash = tt; stop = tt })) in
    λ k d l. line-text source (get_or (logicals source) k d) utf (placed k d l) (bounds k d l)
