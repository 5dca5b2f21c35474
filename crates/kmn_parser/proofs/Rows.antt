-- A text made of whole lines has these logical lines, each of one part.
use Rattle.std.proofs.Common.{◌≡◌, ℕ, suc, ◌+◌, inl, inr, Bool, true, false, if◌then◌else◌, ◌==◌, List, [], ◌∷◌, ◌++◌, length, take, drop, Option, None, is_some, refl, sym, ◌∙◌, ap, arith, append_assoc, length-append}
use Rattle.std.specs.Prelude.{All, unwrap_or, codes}
use Rattle.std.specs.List.{list_all, starts_with}
use Rattle.std.specs.Prelude.{nat_lt}
use Rattle.std.specs.Char.{to_ascii_lowercase}
use Rattle.std.proofs.lemmas.List.{drop-take}
use Rattle.std.proofs.lemmas.Bool.{ne_eqb, cases_lt, lt-ltb, cond-true, cond-false, not-true, and_left, and_parts, or_parts, or_from}
use Rattle.std.proofs.lemmas.List.Elements.{All-head, All-tail}
use Rattle.std.proofs.Math.Seq.{take-append_seam}
use Rattle.kmn_base.specs.Bytes.{is_blank}
use Rattle.kmn_lines.specs.Bytes.{first_or_end}
use Rattle.kmn_base.specs.Names.{same_name}
use Rattle.kmn_base.specs.Texts.{bom_size}
use Rattle.kmn_lines.specs.Lines.{ends_line, line_start, after_byte, physical_line, physical_lines, physical_lines_at, gather, logicals, blanks, begins_with, begins_other, is_skipped, dropped, physical_text, part_after, opening_parts, parts_in}
use Rattle.kmn_lines.specs.declared.line_state.LineState.{LineState}
use Rattle.kmn_lines.specs.declared.line_state.PhysicalLine.{PhysicalLine}
use Rattle.kmn_lines.specs.declared.logical.Logical.{Logical}
use Rattle.kmn_lines.specs.declared.logical.Part.{Part}
use Rattle.kmn_lines.proofs.LineTexts.{no-end, lines-none}
use Rattle.kmn_parser.specs.Names.{is_inner}
use Rattle.kmn_parser.specs.Printed.{rows}
use Rattle.kmn_parser.proofs.LineForms.{IsWholeLine, begins_plainly, read_on, row_lines}

next-same : (bytes rest : List ℕ) → first_or_end (bytes ++ 10 ∷ rest) ≡ first_or_end bytes
next-same [] rest = refl
next-same (byte ∷ bytes) rest = refl

-- the physical line that consists of a line and its LF
line-physical : (line number from : ℕ) (r : LineState) (at : ℕ) (bytes rest : List ℕ) → list_all is_inner bytes ≡ true
    → physical_lines number from r at (bytes ++ 10 ∷ rest)
    ≡ physical_line number from (at + length bytes) (at + length bytes + 1) (read_on r at bytes) ∷ physical_lines (number + 1) (at + length bytes + 1) line_start (at + length bytes + 1) rest
line-physical line number from r at [] rest e =
    let same : at ≡ at + 0 = omega arith in
    ap (λ (k : ℕ). physical_line number from k (k + 1) r ∷ physical_lines (number + 1) (k + 1) line_start (k + 1) rest) same
line-physical line number from r at (byte ∷ bytes) rest e =
    let two = and_parts (is_inner byte) (list_all is_inner bytes) e in
    let none = not-true _ two.0 in
    let same : at + 1 + length bytes ≡ at + suc (length bytes) = omega arith in
    cond-false (ends_line byte (first_or_end (bytes ++ 10 ∷ rest))) _ _ (no-end (byte == 10) (byte == 13) _ none)
    ∙ ap (λ (n : ℕ). physical_lines number from (after_byte r at byte n) (at + 1) (bytes ++ 10 ∷ rest)) (next-same bytes rest)
    ∙ line-physical line number from (after_byte r at byte (first_or_end bytes)) (at + 1) bytes rest two.1
    ∙ ap (λ (k : ℕ). physical_line number from k (k + 1) (read_on r at (byte ∷ bytes)) ∷ physical_lines (number + 1) (k + 1) line_start (k + 1) rest) same

whole-physical : (number from to next : ℕ) (r : LineState) → r.stop ≡ None → r.slash ≡ None → physical_line number from to next r ≡ record { line = number; from = from; to = to; next = next; joined = false }
whole-physical number from to next r e f =
    ap (λ (s : Option ℕ). record { line = number; from = from; to = unwrap_or s (unwrap_or r.stop to); next = next; joined = is_some s }) f
    ∙ ap (λ (s : Option ℕ). record { line = number; from = from; to = unwrap_or s to; next = next; joined = false }) e

-- a whole line
abbrev whole : ℕ → ℕ → List ℕ → PhysicalLine
whole number at line = record { line = number; from = at; to = at + length line; next = at + length line + 1; joined = false }

line-whole : (number at : ℕ) (line rest : List ℕ) → IsWholeLine line
    → physical_lines number at line_start at (line ++ 10 ∷ rest) ≡ whole number at line ∷ physical_lines (number + 1) (at + length line + 1) line_start (at + length line + 1) rest
line-whole number at line rest ok =
    line-physical 0 number at line_start at line rest ok.inner
    ∙ ap (λ (p : PhysicalLine). p ∷ physical_lines (number + 1) (at + length line + 1) line_start (at + length line + 1) rest)
    (whole-physical number at (at + length line) (at + length line + 1) (read_on line_start at line) (ok.stop at) (ok.slash at))

rows_gathered : (number at : ℕ) (lines : List (List ℕ)) → All IsWholeLine lines → gather None (physical_lines number at line_start at (rows lines)) ≡ row_lines number at lines
rows_gathered number at [] ok = ap (gather None) (lines-none number at)
rows_gathered number at (line ∷ lines) ok =
    ap (gather None) (line-whole number at line (rows lines) (All-head IsWholeLine line lines ok))
    ∙ ap (λ (ls : List Logical). record { first_line = number; from = at; to = at + length line + 1 } ∷ ls) (rows_gathered (number + 1) (at + length line + 1) lines (All-tail IsWholeLine line lines ok))

-- the first byte is not that of a byte order mark
marks-not : (lines : List (List ℕ)) → starts_with (λ a b. a == b) (rows lines) (0xEF ∷ 0xBB ∷ 0xBF ∷ []) ≡ false → bom_size (rows lines) ≡ 0
marks-not lines e = cond-false _ 3 0 e

pub rows_logicals : (lines : List (List ℕ)) → starts_with (λ a b. a == b) (rows lines) (0xEF ∷ 0xBB ∷ 0xBF ∷ []) ≡ false → All IsWholeLine lines → logicals (rows lines) ≡ row_lines 1 0 lines
unfolding logicals
rows_logicals lines e ok =
    ap (λ (n : ℕ). gather None (physical_lines_at 1 n (rows lines))) (marks-not lines e) ∙ rows_gathered 1 0 lines ok

-- there is no prefix
lower-not : (byte : ℕ) → (byte == 36) ≡ false → (to_ascii_lowercase byte == 36) ≡ false
lower-not byte e = elim (cases_lt byte 65) [
  | inl l ↦ ap (λ (b : ℕ). b == 36) (cond-true (nat_lt byte 65) byte _ (lt-ltb byte 65 l)) ∙ e
  | inr g ↦ ap (λ (b : ℕ). b == 36) (cond-false (nat_lt byte 65) byte _ (grind (arith, g)))
      ∙ (elim (cases_lt byte 91) [
        | inl l ↦ ap (λ (b : ℕ). b == 36) (cond-true (nat_lt byte 91) (byte + 32) byte (lt-ltb byte 91 l)) ∙ ne_eqb (byte + 32) 36 (omega arith)
        | inr k ↦ ap (λ (b : ℕ). b == 36) (cond-false (nat_lt byte 91) (byte + 32) byte (grind (arith, k))) ∙ e
      ])
]

not-prefix : (byte : ℕ) (bytes word : List ℕ) → (byte == 36) ≡ false → begins_with (byte ∷ bytes) (36 ∷ word) ≡ false
unfolding same_name
not-prefix byte bytes word e = and_left (to_ascii_lowercase byte == 36) _ (lower-not byte e)

no-blanks : (byte : ℕ) (bytes : List ℕ) → is_blank byte ≡ false → drop (blanks (byte ∷ bytes)) (byte ∷ bytes) ≡ byte ∷ bytes
no-blanks byte bytes e = ap (λ (n : ℕ). drop n (byte ∷ bytes)) (cond-false (is_blank byte) (1 + blanks bytes) 0 e)

not-skipped : (text : List ℕ) → begins_plainly text ≡ true → is_skipped text ≡ false
unfolding is_skipped
not-skipped [] e = absurd cc
not-skipped (byte ∷ bytes) e =
    let two = or_parts (is_blank byte) (byte == 36) (not-true _ e) in
    ap begins_other (no-blanks byte bytes two.0)
    ∙ or_from _ _ (not-prefix byte bytes (drop 1 (codes "$keymanweb:")) two.1) (not-prefix byte bytes (drop 1 (codes "$kmfl:")) two.1)

none-dropped : (text : List ℕ) → begins_plainly text ≡ true → dropped text ≡ 0
unfolding dropped
none-dropped [] e = absurd cc
none-dropped (byte ∷ bytes) e =
    let two = or_parts (is_blank byte) (byte == 36) (not-true _ e) in
    cond-false _ _ _ (ap (λ (words : List ℕ). begins_with words (codes "$keyman:")) (no-blanks byte bytes two.0) ∙ not-prefix byte bytes (drop 1 (codes "$keyman:")) two.1)
    ∙ cond-false _ _ _ (ap (λ (words : List ℕ). begins_with words (codes "$keymanonly:")) (no-blanks byte bytes two.0) ∙ not-prefix byte bytes (drop 1 (codes "$keymanonly:")) two.1)

pub if-same : {A : Type 0} (b : Bool) (x : A) → (if b then x else x) ≡ x
if-same true x = refl
if-same false x = refl

-- the text of a line as a part of its source
pub line-text : (source : List ℕ) (at : ℕ) (line rest : List ℕ) → drop at source ≡ line ++ rest → drop at (take (at + length line) source) ≡ line
line-text source at line rest e = drop-take at (length line) source ∙ ap (λ (xs : List ℕ). take (length line) xs) e ∙ take-append_seam line rest

ended : (source : List ℕ) (at : ℕ) (line rest : List ℕ) → drop at source ≡ line ++ 10 ∷ rest → drop at (take (at + length line + 1) source) ≡ line ++ 10 ∷ []
ended source at line rest e =
    let long : at + length (line ++ 10 ∷ []) ≡ at + length line + 1 = (let l = length-append line (10 ∷ []) in omega (arith, l)) in
    let split : line ++ 10 ∷ rest ≡ (line ++ 10 ∷ []) ++ rest = sym (append_assoc line (10 ∷ []) rest) in
    ap (λ (n : ℕ). drop at (take n source)) (sym long) ∙ line-text source at (line ++ 10 ∷ []) rest (e ∙ split)

one-part : (text : List ℕ) (number at : ℕ) (line : List ℕ) → drop at text ≡ line ++ 10 ∷ [] → begins_plainly line ≡ true
    → opening_parts text (whole number at line ∷ []) ≡ record { line = number; from = at; to = at + length line } ∷ []
one-part text number at line e plain =
    let is : physical_text text (whole number at line) ≡ line = line-text text at line (10 ∷ []) e in
    let same : at + 0 ≡ at = omega arith in
    cond-false (is_skipped (physical_text text (whole number at line))) _ _ (ap is_skipped is ∙ not-skipped line plain)
    ∙ ap (λ (ps : List Part). part_after (dropped (physical_text text (whole number at line))) (whole number at line) ∷ ps) (if-same (list_all is_blank (physical_text text (whole number at line))) [])
    ∙ ap (λ (n : ℕ). part_after n (whole number at line) ∷ []) (ap dropped is ∙ none-dropped line plain)
    ∙ ap (λ (n : ℕ). record { line = number; from = n; to = at + length line } ∷ []) same

-- a line in a source is one part
pub row_parts : (source : List ℕ) (number at : ℕ) (line rest : List ℕ) → drop at source ≡ line ++ 10 ∷ rest → IsWholeLine line
    → parts_in source (record { first_line = number; from = at; to = at + length line + 1 }) ≡ record { line = number; from = at; to = at + length line } ∷ []
unfolding parts_in
row_parts source number at line rest e ok =
    let text : List ℕ = take (at + length line + 1) source in
    let here : drop at text ≡ line ++ 10 ∷ [] = ended source at line rest e in
    ap (λ (xs : List ℕ). opening_parts text (physical_lines number at line_start at xs)) here
    ∙ ap (opening_parts text) (line-whole number at line [] ok)
    ∙ ap (λ (ps : List PhysicalLine). opening_parts text (whole number at line ∷ ps)) (lines-none (number + 1) (at + length line + 1))
    ∙ one-part text number at line here ok.start
