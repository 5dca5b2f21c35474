-- The parts of a logical line are the texts of its physical lines.
use Rattle.std.proofs.Common.{◌≡◌, ℕ, zero, suc, ◌+◌, ◌-◌, ◌<◌, ◌≤◌, inl, inr, Bool, true, false, ◌&&◌, ◌||◌, not, if◌then◌else◌, ◌==◌, List, [], ◌∷◌, ◌++◌, length, take, drop, map, Option, None, Some, refl, sym, ◌∙◌, ap, subst, arith, length-append, length-drop, append_assoc}
use Rattle.std.specs.Prelude.{All}
use Rattle.std.specs.List.{list_all}
use Rattle.std.proofs.Math.Seq.{take-append-add, take-append_seam, drop-append_seam}
use Rattle.std.proofs.lemmas.Bool.{eq-eqb, eqb-true, ne_eqb, or_from, cond-true, cond-false, cond_both}
use Rattle.std.proofs.lemmas.List.{drop-drop, drop-take, take-take, length-take}
use Rattle.std.proofs.lemmas.List.Elements.{All-cons, All-nil, All-head, All-tail}
use Rattle.kmn_base.specs.Bytes.{is_blank}
use Rattle.kmn_base.specs.Texts.{bom_size}
use Rattle.kmn_lines.specs.declared.line_state.LineState.{LineState}
use Rattle.kmn_lines.specs.declared.line_state.PhysicalLine.{PhysicalLine}
use Rattle.kmn_lines.specs.declared.logical.Logical.{Logical}
use Rattle.kmn_lines.specs.declared.logical.Part.{Part}
use Rattle.kmn_lines.specs.Bytes.{first_or_end}
use Rattle.kmn_lines.specs.Lines.{ends_line, line_start, after_byte, physical_line, physical_lines, physical_lines_at, extended, gather, logicals, is_skipped, dropped, physical_text, part_after, opening_parts, parts_in}
use Rattle.kmn_lines.specs.Laws.{first_or, IsInLine, IsLineEnd, IsCut, IsPhysicalLine, IsJoined, AreJoined, PartsAreTexts}
use Rattle.kmn_lines.proofs.Whole.{mark-within}
use Rattle.kmn_lines.proofs.Cuts.{after_bytes, Cut, line_cut}
use Rattle.kmn_lines.proofs.TextSizes.{clash}

-- a text is a line, the line's end, and the rest after it
record Split (text : List ℕ) : Type 0 where
  line : List ℕ
  end : List ℕ
  behind : List ℕ
  whole : text ≡ line ++ (end ++ behind)
  in_line : All IsInLine line
  ended : IsLineEnd end behind
  shorter : 0 < length text → length behind < length text

split-next : (lf : Bool) (byte next : ℕ) (bytes : List ℕ) → byte ≡ 13 → (next == 10) ≡ lf → Split (byte ∷ next ∷ bytes)
split-next true byte next bytes e g = record {
  line = [];
  end = 13 ∷ 10 ∷ [];
  behind = bytes;
  whole = ap (λ (b : ℕ). b ∷ next ∷ bytes) e ∙ ap (λ (b : ℕ). 13 ∷ b ∷ bytes) (eqb-true next 10 g);
  in_line = All-nil IsInLine;
  ended = inr (inl refl);
  shorter = λ h. omega arith;
}
split-next false byte next bytes e g = record {
  line = [];
  end = 13 ∷ [];
  behind = next ∷ bytes;
  whole = ap (λ (b : ℕ). b ∷ next ∷ bytes) e;
  in_line = All-nil IsInLine;
  ended = inr (inr (inl (refl, g)));
  shorter = λ h. omega arith;
}

split-cr : (byte : ℕ) (bytes : List ℕ) → byte ≡ 13 → Split (byte ∷ bytes)
split-cr byte [] e = record {
  line = [];
  end = 13 ∷ [];
  behind = [];
  whole = ap (λ (b : ℕ). b ∷ []) e;
  in_line = All-nil IsInLine;
  ended = inr (inr (inl (refl, refl)));
  shorter = λ h. omega arith;
}
split-cr byte (next ∷ bytes) e = split-next (next == 10) byte next bytes e refl

split-first : (lf cr : Bool) (byte : ℕ) (bytes : List ℕ) → (byte == 10) ≡ lf → (byte == 13) ≡ cr → Split bytes → Split (byte ∷ bytes)
split-first true cr byte bytes e f s = record {
  line = [];
  end = 10 ∷ [];
  behind = bytes;
  whole = ap (λ (b : ℕ). b ∷ bytes) (eqb-true byte 10 e);
  in_line = All-nil IsInLine;
  ended = inl refl;
  shorter = λ h. omega arith;
}
split-first false true byte bytes e f s = split-cr byte bytes (eqb-true byte 13 f)
split-first false false byte bytes e f s = record {
  line = byte ∷ s.line;
  end = s.end;
  behind = s.behind;
  whole = ap (λ (xs : List ℕ). byte ∷ xs) s.whole;
  in_line = All-cons IsInLine byte s.line (or_from (byte == 10) (byte == 13) e f) s.in_line;
  ended = s.ended;
  shorter = λ h. omega (arith, ap length s.whole, length-append s.line (s.end ++ s.behind), length-append s.end s.behind);
}

split : (text : List ℕ) → Split text
split [] = record { line = []; end = []; behind = []; whole = refl; in_line = All-nil IsInLine; ended = inr (inr (inr (refl, refl))); shorter = λ h. absurd (omega arith) }
split (byte ∷ bytes) = split-first (byte == 10) (byte == 13) byte bytes refl refl (split bytes)

-- the bytes of a line are scanned one by one
first-append : (bytes behind : List ℕ) → first_or_end (bytes ++ behind) ≡ first_or (first_or_end behind) bytes
first-append [] behind = refl
first-append (byte ∷ bytes) behind = refl

pub no-end : (a b c : Bool) → (a || b) ≡ false → (a || (b && c)) ≡ false
no-end true b c h = absurd cc
no-end false true c h = absurd cc
no-end false false c h = refl

lines-in_line : (line from : ℕ) (r : LineState) (at : ℕ) (bytes behind : List ℕ) → All IsInLine bytes → physical_lines line from r at (bytes ++ behind) ≡ physical_lines line from (after_bytes r at bytes (first_or_end behind)) (at + length bytes) behind
lines-in_line line from r at [] behind p = let e : at ≡ at + 0 = omega arith in ap (λ (k : ℕ). physical_lines line from r k behind) e
lines-in_line line from r at (byte ∷ bytes) behind p =
    let n : ℕ = first_or_end (bytes ++ behind) in
    let one : at + 1 + length bytes ≡ at + suc (length bytes) = omega arith in
    cond-false (ends_line byte n) _ _ (no-end (byte == 10) (byte == 13) (not (n == 10)) (All-head IsInLine byte bytes p))
    ∙ ap (λ (k : ℕ). physical_lines line from (after_byte r at byte k) (at + 1) (bytes ++ behind)) (first-append bytes behind)
    ∙ lines-in_line line from (after_byte r at byte (first_or (first_or_end behind) bytes)) (at + 1) bytes behind (All-tail IsInLine byte bytes p)
    ∙ ap (λ (k : ℕ). physical_lines line from (after_bytes r at (byte ∷ bytes) (first_or_end behind)) k behind) one

pub lines-none : (line at : ℕ) → physical_lines line at line_start at [] ≡ []
lines-none line at = cond-true (at == at) _ _ (eq-eqb at at refl)

-- a CR before an LF, or at the end, does not change the state
cr-same : (line from at next : ℕ) (quote : Option ℕ) (blank : Bool) (slash stop : Option ℕ) → physical_line line from (at + 1) next (after_byte (record { quote = quote; after_blank = blank; slash = slash; stop = stop }) at 13 10) ≡ physical_line line from at next (record { quote = quote; after_blank = blank; slash = slash; stop = stop })
cr-same line from at next quote blank slash None = refl
cr-same line from at next quote blank slash (Some stop) = refl

-- a line ends, and the next one begins after its end
abbrev Ends : ℕ → ℕ → LineState → ℕ → List ℕ → List ℕ → Type 0
Ends line from r at end behind = physical_lines line from r at (end ++ behind) ≡ physical_line line from at (at + length end) r ∷ physical_lines (line + 1) (at + length end) line_start (at + length end) behind

ends-lf : (line from : ℕ) (r : LineState) (at : ℕ) (behind : List ℕ) → Ends line from r at (10 ∷ []) behind
ends-lf line from r at behind = refl

ends-cr_lf : (line from : ℕ) (r : LineState) (at : ℕ) (behind : List ℕ) → Ends line from r at (13 ∷ 10 ∷ []) behind
ends-cr_lf line from r at behind =
    let two : at + 1 + 1 ≡ at + 2 = omega arith in
    ap (λ (p : PhysicalLine). p ∷ physical_lines (line + 1) (at + 1 + 1) line_start (at + 1 + 1) behind) (cr-same line from at (at + 1 + 1) r.quote r.after_blank r.slash r.stop)
    ∙ ap (λ (k : ℕ). physical_line line from at k r ∷ physical_lines (line + 1) k line_start k behind) two

ends-cr : (line from : ℕ) (r : LineState) (at : ℕ) (behind : List ℕ) → from ≤ at → (first_or 32 behind == 10) ≡ false → Ends line from r at (13 ∷ []) behind
ends-cr line from r at [] l f =
    cond-false (from == at + 1) _ _ (ne_eqb from (at + 1) (λ e. absurd (omega arith)))
    ∙ ap (λ (p : PhysicalLine). p ∷ []) (cr-same line from at (at + 1) r.quote r.after_blank r.slash r.stop)
    ∙ ap (λ (ps : List PhysicalLine). physical_line line from at (at + 1) r ∷ ps) (sym (lines-none (line + 1) (at + 1)))
ends-cr line from r at (next ∷ behind) l f = cond-true (not (next == 10)) _ _ (ap not f)

ends-last : (line from : ℕ) (r : LineState) (at : ℕ) → from < at → Ends line from r at [] []
ends-last line from r at l =
    let zero_more : at ≡ at + 0 = omega arith in
    cond-false (from == at) _ _ (ne_eqb from at (λ e. absurd (omega arith)))
    ∙ ap (λ (ps : List PhysicalLine). physical_line line from at at r ∷ ps) (sym (lines-none (line + 1) at))
    ∙ ap (λ (k : ℕ). physical_line line from at k r ∷ physical_lines (line + 1) k line_start k []) zero_more

lines-ended : (line from : ℕ) (r : LineState) (at : ℕ) (end behind : List ℕ) → IsLineEnd end behind → from ≤ at → from < at + length end → Ends line from r at end behind
lines-ended line from r at end behind (inl e) g l = subst (λ (x : List ℕ). Ends line from r at x behind) (sym e) (ends-lf line from r at behind)
lines-ended line from r at end behind (inr (inl e)) g l = subst (λ (x : List ℕ). Ends line from r at x behind) (sym e) (ends-cr_lf line from r at behind)
lines-ended line from r at end behind (inr (inr (inl (e, f)))) g l = subst (λ (x : List ℕ). Ends line from r at x behind) (sym e) (ends-cr line from r at behind g f)
lines-ended line from r at end behind (inr (inr (inr (e, f)))) g l =
    let long : length end ≡ 0 = ap length e in
    subst (λ (x : List ℕ). Ends line from r at x behind) (sym e) (subst (λ (x : List ℕ). Ends line from r at [] x) (sym f) (ends-last line from r at (omega arith)))

-- the rest after a line's end does not matter
ended-take : (end behind : List ℕ) (n : ℕ) → IsLineEnd end behind → IsLineEnd end (take n behind)
ended-take end behind n (inl e) = inl e
ended-take end behind n (inr (inl e)) = inr (inl e)
ended-take end [] n (inr (inr (inl (e, f)))) = inr (inr (inl (e, elim n as (λ k. (first_or 32 (take k []) == 10) ≡ false) [ zero ↦ refl | suc m ↦ refl ])))
ended-take end (byte ∷ behind) zero (inr (inr (inl (e, f)))) = inr (inr (inl (e, refl)))
ended-take end (byte ∷ behind) (suc n) (inr (inr (inl (e, f)))) = inr (inr (inl (e, f)))
ended-take end behind n (inr (inr (inr (e, f)))) = inr (inr (inr (e, subst (λ (xs : List ℕ). take n xs ≡ []) (sym f) (elim n as (λ k. take {A = ℕ} k [] ≡ []) [ zero ↦ refl | suc m ↦ refl ]))))

none-behind : (behind : List ℕ) → IsLineEnd [] behind → behind ≡ []
none-behind behind (inl e) = absurd cc
none-behind behind (inr (inl e)) = absurd cc
none-behind behind (inr (inr (inl (e, f)))) = absurd cc
none-behind behind (inr (inr (inr (e, f)))) = f

end-first : (end behind other : List ℕ) → IsLineEnd end behind → IsLineEnd end other → first_or_end (end ++ behind) ≡ first_or_end (end ++ other)
end-first [] behind other h g = ap first_or_end (none-behind behind h) ∙ sym (ap first_or_end (none-behind other g))
end-first (byte ∷ end) behind other h g = refl

ends-line : (end behind : List ℕ) → IsLineEnd end behind → ((first_or_end (end ++ behind) == 10) || (first_or_end (end ++ behind) == 13)) ≡ true
ends-line end behind (inl e) = subst (λ (x : List ℕ). ((first_or_end (x ++ behind) == 10) || (first_or_end (x ++ behind) == 13)) ≡ true) (sym e) refl
ends-line end behind (inr (inl e)) = subst (λ (x : List ℕ). ((first_or_end (x ++ behind) == 10) || (first_or_end (x ++ behind) == 13)) ≡ true) (sym e) refl
ends-line end behind (inr (inr (inl (e, f)))) = subst (λ (x : List ℕ). ((first_or_end (x ++ behind) == 10) || (first_or_end (x ++ behind) == 13)) ≡ true) (sym e) refl
ends-line end behind (inr (inr (inr (e, f)))) = subst (λ (x : List ℕ). ((first_or_end (x ++ behind) == 10) || (first_or_end (x ++ behind) == 13)) ≡ true) (sym e) (subst (λ (x : List ℕ). ((first_or_end x == 10) || (first_or_end x == 13)) ≡ true) (sym f) refl)

-- a physical line as a piece of a source
record Stands (source : List ℕ) (p : PhysicalLine) : Type 0 where
  line : List ℕ
  end : List ℕ
  whole : drop p.from source ≡ line ++ (end ++ drop p.next source)
  in_line : All IsInLine line
  ended : IsLineEnd end (drop p.next source)
  forward : p.next ≡ p.from + length line + length end
  some : p.from < p.next
  within : p.next ≤ length source
  is : p ≡ physical_line p.line p.from (p.from + length line) p.next (after_bytes line_start p.from line (first_or_end (end ++ drop p.next source)))

drop-both : (at : ℕ) (source line end behind : List ℕ) → drop at source ≡ line ++ (end ++ behind) → drop (at + length line + length end) source ≡ behind
drop-both at source line end behind e =
    sym (drop-drop (length end) (at + length line) source)
    ∙ ap (λ (xs : List ℕ). drop (length end) xs) (sym (drop-drop (length line) at source) ∙ ap (λ (xs : List ℕ). drop (length line) xs) e ∙ drop-append_seam line (end ++ behind))
    ∙ drop-append_seam end behind

-- the physical lines of a source from a position on
abbrev Chain : List ℕ → ℕ → ℕ → List PhysicalLine → Type 0
Chain source line at [] = at ≡ length source
Chain source line at (p ∷ ps) = (p.line ≡ line) × (p.from ≡ at) × Stands source p × Chain source (line + 1) p.next ps

-- the first physical line of a text that consists of a line, its end and the rest
lines-step : (line at : ℕ) (bytes text end behind : List ℕ) → bytes ≡ text ++ (end ++ behind) → All IsInLine text → IsLineEnd end behind → 0 < length text + length end → physical_lines line at line_start at bytes ≡ physical_line line at (at + length text) (at + length text + length end) (after_bytes line_start at text (first_or_end (end ++ behind))) ∷ physical_lines (line + 1) (at + length text + length end) line_start (at + length text + length end) behind
lines-step line at bytes text end behind e p h l =
    ap (λ (xs : List ℕ). physical_lines line at line_start at xs) e
    ∙ lines-in_line line at line_start at text (end ++ behind) p
    ∙ lines-ended line at (after_bytes line_start at text (first_or_end (end ++ behind))) (at + length text) end behind h (omega arith) (omega arith)

chain-from : (fuel : ℕ) (source : List ℕ) (line at : ℕ) (bytes : List ℕ) → length bytes ≤ fuel → at ≤ length source → drop at source ≡ bytes → Chain source line at (physical_lines line at line_start at bytes)
chain-from fuel source line at [] l h e =
    let all : at ≡ length source = omega (arith, ap length e, length-drop at source) in
    subst (Chain source line at) (sym (lines-none line at)) all
chain-from zero source line at (byte ∷ bytes) l h e = absurd (omega arith)
chain-from (suc fuel) source line at (byte ∷ bytes) l h e =
    let s : Split (byte ∷ bytes) = split (byte ∷ bytes) in
    let next : ℕ = at + length s.line + length s.end in
    let whole : drop at source ≡ s.line ++ (s.end ++ s.behind) = e ∙ s.whole in
    let rest : drop next source ≡ s.behind = drop-both at source s.line s.end s.behind whole in
    let less : length s.behind < suc (length bytes) = s.shorter (omega arith) in
    let sizes : suc (length bytes) ≡ length s.line + (length s.end + length s.behind) = omega (arith, ap length s.whole, length-append s.line (s.end ++ s.behind), length-append s.end s.behind) in
    let some : 0 < length s.line + length s.end = omega arith in
    let fits : next ≤ length source = omega (arith, ap length e, length-drop at source) in
    let stands : Stands source (physical_line line at (at + length s.line) next (after_bytes line_start at s.line (first_or_end (s.end ++ s.behind)))) = record {
      line = s.line;
      end = s.end;
      whole = whole ∙ ap (λ (xs : List ℕ). s.line ++ (s.end ++ xs)) (sym rest);
      in_line = s.in_line;
      ended = subst (λ (xs : List ℕ). IsLineEnd s.end xs) (sym rest) s.ended;
      forward = refl;
      some = omega arith;
      within = fits;
      is = ap (λ (xs : List ℕ). physical_line line at (at + length s.line) next (after_bytes line_start at s.line (first_or_end (s.end ++ xs)))) (sym rest);
    } in
    subst (Chain source line at) (sym (lines-step line at (byte ∷ bytes) s.line s.end s.behind s.whole s.in_line s.ended some))
    (refl, refl, stands, chain-from fuel source (line + 1) next s.behind (omega arith) fits rest)

-- a physical line of a source is the one that the law describes
stands-cut : (source : List ℕ) (p : PhysicalLine) (s : Stands source p) → Cut s.line p.from (after_bytes line_start p.from s.line (first_or_end (s.end ++ drop p.next source)))
stands-cut source p s = line_cut s.line p.from (first_or_end (s.end ++ drop p.next source)) (ends-line s.end (drop p.next source) s.ended) s.in_line

physical : (source : List ℕ) (p : PhysicalLine) → Stands source p → IsPhysicalLine source p
physical source p s =
    let c = stands-cut source p s in
    let next : p.next ≡ p.from + length (s.line ++ s.end) = omega (arith, s.forward, length-append s.line s.end) in
    record {
      line = s.line;
      end = s.end;
      whole =
          ap (λ (k : ℕ). drop p.from (take k source)) next
          ∙ drop-take p.from (length (s.line ++ s.end)) source
          ∙ ap (λ (xs : List ℕ). take (length (s.line ++ s.end)) xs) (s.whole ∙ sym (append_assoc s.line s.end (drop p.next source)))
          ∙ take-append_seam (s.line ++ s.end) (drop p.next source);
      in_line = s.in_line;
      ended = s.ended;
      size = c.size;
      to = ap (λ (q : PhysicalLine). q.to) s.is ∙ c.to;
      cut = subst (λ (b : Bool). IsCut s.line c.size b) (sym (ap (λ (q : PhysicalLine). q.joined) s.is)) c.cut;
    }

text-within : (source : List ℕ) (p : PhysicalLine) → Stands source p → p.to ≤ p.next
text-within source p s =
    let c = stands-cut source p s in
    let to : p.to ≡ p.from + c.size = ap (λ (q : PhysicalLine). q.to) s.is ∙ c.to in
    omega (arith, c.cut.within, s.forward)

-- the physical lines of a logical line: all are joined so far; and of a complete logical line
abbrev Begun : List ℕ → ℕ → ℕ → ℕ → List PhysicalLine → Type 0
Begun source line at end [] = at ≡ end
Begun source line at end (p ∷ ps) = (p.line ≡ line) × (p.from ≡ at) × Stands source p × (p.joined ≡ true) × Begun source (line + 1) p.next end ps

abbrev Group : List ℕ → ℕ → ℕ → ℕ → List PhysicalLine → Type 0
Group source line at end [] = at ≡ end
Group source line at end (p ∷ ps) = (p.line ≡ line) × (p.from ≡ at) × Stands source p × IsJoined source p ps × Group source (line + 1) p.next end ps

begun-more : (source : List ℕ) (line at end : ℕ) (qs : List PhysicalLine) (p : PhysicalLine) → Begun source line at end qs → p.line ≡ line + length qs → p.from ≡ end → Stands source p → p.joined ≡ true → Begun source line at p.next (qs ++ p ∷ [])
begun-more source line at end [] p b e f s j = (omega arith, omega arith, s, j, refl)
begun-more source line at end (q ∷ qs) p (a, b, c, d, r) e f s j = (a, b, c, d, begun-more source (line + 1) q.next end qs p r (omega arith) f s j)

joined-before : (source : List ℕ) (q : PhysicalLine) (qs : List PhysicalLine) (p : PhysicalLine) → q.joined ≡ true → IsJoined source q (qs ++ p ∷ [])
joined-before source q [] p h = h
joined-before source q (x ∷ xs) p h = h

begun-last : (source : List ℕ) (line at end : ℕ) (qs : List PhysicalLine) (p : PhysicalLine) → Begun source line at end qs → p.line ≡ line + length qs → p.from ≡ end → Stands source p → (p.joined ≡ true → p.next ≡ length source) → Group source line at p.next (qs ++ p ∷ [])
begun-last source line at end [] p b e f s j = (omega arith, omega arith, s, j, refl)
begun-last source line at end (q ∷ qs) p (a, b, c, d, r) e f s j = (a, b, c, joined-before source q qs p d, begun-last source (line + 1) q.next end qs p r (omega arith) f s j)

joined-all : (source : List ℕ) (line end : ℕ) (q : PhysicalLine) (qs : List PhysicalLine) → q.joined ≡ true → Begun source line q.next end qs → end ≡ length source → IsJoined source q qs
joined-all source line end q [] h r e = λ j. r ∙ e
joined-all source line end q (x ∷ xs) h r e = h

begun-all : (source : List ℕ) (line at end : ℕ) (qs : List PhysicalLine) → Begun source line at end qs → end ≡ length source → Group source line at end qs
begun-all source line at end [] b e = b
begun-all source line at end (q ∷ qs) (a, b, c, d, r) e = (a, b, c, joined-all source (line + 1) end q qs d r e, begun-all source (line + 1) q.next end qs r e)

group-joined : (source : List ℕ) (line at end : ℕ) (ps : List PhysicalLine) → Group source line at end ps → AreJoined source line at end ps
group-joined source line at end [] g = g
group-joined source line at end (p ∷ ps) (a, b, c, d, r) = (a, b, physical source p c, d, group-joined source (line + 1) p.next end ps r)

group-forward : (source : List ℕ) (line at end : ℕ) (ps : List PhysicalLine) → Group source line at end ps → at ≤ end
group-forward source line at end [] g = omega arith
group-forward source line at end (p ∷ ps) (a, b, c, d, r) = let rest = group-forward source (line + 1) p.next end ps r in omega (arith, c.some)

-- a logical line is split into the same physical lines again
nil-of : (xs : List ℕ) → length xs ≡ 0 → xs ≡ []
nil-of [] h = refl
nil-of (x ∷ xs) h = absurd (omega arith)

cut-again : (source : List ℕ) (line at end : ℕ) (ps : List PhysicalLine) → end ≤ length source → Group source line at end ps → physical_lines line at line_start at (drop at (take end source)) ≡ ps
cut-again source line at end [] l g =
    let none : drop at (take end source) ≡ [] = nil-of (drop at (take end source)) (omega (arith, length-drop at (take end source), length-take end source)) in
    ap (λ (xs : List ℕ). physical_lines line at line_start at xs) none ∙ lines-none line at
cut-again source line at end (p ∷ ps) l (a, b, s, j, g) =
    let le : p.next ≤ end = group-forward source (line + 1) p.next end ps g in
    let m : ℕ = end - p.next in
    let rest : List ℕ = take m (drop p.next source) in
    let next : ℕ = at + length s.line + length s.end in
    let next_is : next ≡ p.next = omega (arith, s.forward) in
    let far : end ≡ at + (length (s.line ++ s.end) + m) = omega (arith, s.forward, length-append s.line s.end) in
    let near : end ≡ p.next + m = omega arith in
    let here : drop at source ≡ (s.line ++ s.end) ++ drop p.next source = ap (λ (k : ℕ). drop k source) (sym b) ∙ s.whole ∙ sym (append_assoc s.line s.end (drop p.next source)) in
    let text : drop at (take end source) ≡ s.line ++ (s.end ++ rest) =
    ap (λ (k : ℕ). drop at (take k source)) far
    ∙ drop-take at (length (s.line ++ s.end) + m) source
    ∙ ap (λ (xs : List ℕ). take (length (s.line ++ s.end) + m) xs) here
    ∙ take-append-add (s.line ++ s.end) (drop p.next source) m
    ∙ append_assoc s.line s.end rest in
    let ended : IsLineEnd s.end rest = ended-take s.end (drop p.next source) m s.ended in
    let some : 0 < length s.line + length s.end = omega (arith, s.some, s.forward) in
    let n : ℕ = first_or_end (s.end ++ rest) in
    let built : ℕ → ℕ → ℕ → ℕ → PhysicalLine = λ i f k c. physical_line i f (f + length s.line) k (after_bytes line_start f s.line c) in
    let head : built line at next n ≡ p =
    ap (λ (i : ℕ). built i at next n) (sym a)
    ∙ ap (λ (f : ℕ). built p.line f next n) (sym b)
    ∙ ap (λ (k : ℕ). built p.line p.from k n) next_is
    ∙ ap (λ (c : ℕ). built p.line p.from p.next c) (end-first s.end rest (drop p.next source) ended s.ended)
    ∙ sym s.is in
    let tail : physical_lines (line + 1) next line_start next rest ≡ ps =
    ap (λ (k : ℕ). physical_lines (line + 1) k line_start k rest) next_is
    ∙ ap (λ (xs : List ℕ). physical_lines (line + 1) p.next line_start p.next xs) (sym (ap (λ (k : ℕ). drop p.next (take k source)) near ∙ drop-take p.next m source))
    ∙ cut-again source (line + 1) p.next end ps l g in
    lines-step line at (drop at (take end source)) s.line s.end rest text s.in_line ended some
    ∙ ap (λ (q : PhysicalLine). q ∷ physical_lines (line + 1) next line_start next rest) head
    ∙ ap (λ (qs : List PhysicalLine). p ∷ qs) tail

-- the parts of a logical line are parts of the source that contains it
abbrev opening_step : List ℕ → PhysicalLine → List Part → List PhysicalLine → List Part
opening_step text p parts ps = if is_skipped text then [] else part_after (dropped text) p ∷ (if list_all is_blank text then parts else map (part_after 0) ps)

opening-same : (source : List ℕ) (line at end : ℕ) (ps : List PhysicalLine) → Group source line at end ps → opening_parts (take end source) ps ≡ opening_parts source ps
opening-same source line at end [] g = refl
opening-same source line at end (p ∷ ps) (a, b, s, j, g) =
    let le : p.next ≤ end = group-forward source (line + 1) p.next end ps g in
    let within : p.to ≤ p.next = text-within source p s in
    let text : physical_text (take end source) p ≡ physical_text source p = ap (λ (xs : List ℕ). drop p.from xs) (take-take p.to end source (omega arith)) in
    ap (λ (t : List ℕ). opening_step t p (opening_parts (take end source) ps) ps) text
    ∙ ap (λ (qs : List Part). opening_step (physical_text source p) p qs ps) (opening-same source (line + 1) p.next end ps g)

abbrev HasTexts : List ℕ → Logical → Type 0
HasTexts source l = (ps : List PhysicalLine) × AreJoined source l.first_line l.from l.to ps × (parts_in source l ≡ opening_parts source ps)

has_texts : (source : List ℕ) (l : Logical) (ps : List PhysicalLine) → l.to ≤ length source → Group source l.first_line l.from l.to ps → HasTexts source l
unfolding parts_in
has_texts source l ps h g = (
  ps,
  group-joined source l.first_line l.from l.to ps g,
  ap (λ (qs : List PhysicalLine). opening_parts (take l.to source) qs) (cut-again source l.first_line l.from l.to ps h g)
      ∙ opening-same source l.first_line l.from l.to ps g,
)

-- the logical lines of physical lines
abbrev HasBegun : List ℕ → ℕ → ℕ → Option Logical → Type 0
HasBegun source line at None = Unit {0}
HasBegun source line at (Some l) = (qs : List PhysicalLine) × Begun source l.first_line l.from at qs × (line ≡ l.first_line + length qs) × (l.to ≡ at)

gather-texts : (source : List ℕ) (begun : Option Logical) (line at : ℕ) (ps : List PhysicalLine) → HasBegun source line at begun → Chain source line at ps → All (HasTexts source) (gather begun ps)
gather-texts source None line at [] b chain = All-nil (HasTexts source)
gather-texts source (Some l) line at [] (qs, b, n, t) chain =
    let group : Group source l.first_line l.from l.to qs = subst (λ (k : ℕ). Group source l.first_line l.from k qs) (sym t) (begun-all source l.first_line l.from at qs b chain) in
    All-cons (HasTexts source) l [] (has_texts source l qs (omega arith) group) (All-nil (HasTexts source))
gather-texts source None line at (p ∷ ps) b (e, f, s, rest) =
    cond_both p.joined _ _ (All (HasTexts source))
    (λ j. gather-texts source (Some (extended None p)) (line + 1) p.next ps
    (p ∷ [], begun-more source p.line p.from p.from [] p refl (omega arith) refl s j, omega arith, refl) rest)
    (λ j. All-cons (HasTexts source) (extended None p) _
    (has_texts source (extended None p) (p ∷ []) s.within (begun-last source p.line p.from p.from [] p refl (omega arith) refl s (λ e. clash p.joined e j)))
    (gather-texts source None (line + 1) p.next ps tt rest))
gather-texts source (Some l) line at (p ∷ ps) (qs, b, n, t) (e, f, s, rest) =
    cond_both p.joined _ _ (All (HasTexts source))
    (λ j. gather-texts source (Some (extended (Some l) p)) (line + 1) p.next ps
    (qs ++ p ∷ [], begun-more source l.first_line l.from at qs p b (e ∙ n) f s j, omega (arith, length-append qs (p ∷ [])), refl) rest)
    (λ j. All-cons (HasTexts source) (extended (Some l) p) _
    (has_texts source (extended (Some l) p) (qs ++ p ∷ []) s.within (begun-last source l.first_line l.from at qs p b (e ∙ n) f s (λ e. clash p.joined e j)))
    (gather-texts source None (line + 1) p.next ps tt rest))

pub parts_are_texts : PartsAreTexts
unfolding logicals
parts_are_texts source =
    gather-texts source None 1 (bom_size source) (physical_lines_at 1 (bom_size source) source) tt
    (chain-from (length (drop (bom_size source) source)) source 1 (bom_size source) (drop (bom_size source) source) (omega arith) (mark-within source) refl)
