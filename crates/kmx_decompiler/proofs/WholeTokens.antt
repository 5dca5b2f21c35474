-- If no token rule refuses a source, each of its tokens is the whole of a text that does not end a line.
use Rattle.std.proofs.Common.{◌≡◌, ℕ, zero, suc, ◌+◌, ◌-◌, ◌<◌, Bool, true, false, not, ◌&&◌, if◌then◌else◌, List, [], ◌∷◌, length, take, drop, map, Option, None, refl, sym, ◌∙◌, ap, subst, arith, length-drop, length-append, inl, inr}
use Rattle.std.specs.Prelude.{All}
use Rattle.std.specs.List.{list_all}
use Rattle.std.specs.Option.{option_or}
use Rattle.std.proofs.lemmas.Bool.{cases_lt, cond_both}
use Rattle.std.proofs.lemmas.List.{length-take, drop-take, drop-drop, take-take, take-append-le}
use Rattle.std.proofs.lemmas.List.Elements.{All-cons, All-nil, All-append, All-head, All-tail, All-take, All-drop}
use Rattle.kmn_base.specs.declared.codes.Code.{Code}
use Rattle.kmn_base.specs.Bytes.{is_blank}
use Rattle.kmn_base.proofs.Options.{option_or-none}
use Rattle.kmn_lines.specs.declared.line_state.PhysicalLine.{PhysicalLine}
use Rattle.kmn_lines.specs.declared.logical.Logical.{Logical}
use Rattle.kmn_lines.specs.declared.logical.Part.{Part}
use Rattle.kmn_lines.specs.declared.token.Token.{Token}
use Rattle.kmn_lines.specs.declared.token.TokenKind.{TokenKind}
use Rattle.kmn_lines.specs.Lines.{logicals, is_skipped, dropped, physical_text, part_after, opening_parts, parts_in}
use Rattle.kmn_lines.specs.Laws.{IsInLine, IsPhysicalLine, AreJoined}
use Rattle.kmn_lines.specs.Tokens.{token_size, token_text, token_kind, token_at, token_fault, scanned, first_fault, part_text, parts_tokens, parts_fault, line_tokens, line_refusal, tokens_refusal}
use Rattle.kmn_lines.proofs.LineTexts.{parts_are_texts}
use Rattle.kmn_lines.proofs.Numbered.{drop-next}
use Rattle.kmn_items.specs.TokenTexts.{LineToken, text_of, with_text, with_texts}
use Rattle.kmn_parser.proofs.SoundTokens.{IsSoundToken, HasTexts, HasSoundTokens, text-at, no-refusal, lines-sound}
use Rattle.kmn_parser.specs.Names.{is_inner}
use Rattle.kmx_decompiler.proofs.RetakenTokens.{token_alone}

-- ---- parts do not end a line

module _ (source : List ℕ) where
  abbrev IsInner : Part → Type 0
  IsInner p = All IsInLine (part_text source p)

  text-taken : (p : PhysicalLine) (line : IsPhysicalLine source p) → All IsInLine (take line.size (drop p.from source))
  text-taken p line =
      elim (cases_lt p.next (p.from + line.size)) [
        | inl short ↦
            let whole = ap length line.whole in
            let parts = length-append line.line line.end in
            let long = length-drop p.from (take p.next source) in
            let most = length-take p.next source in
            let within = line.cut.within in
            let none : line.size ≡ 0 = omega (arith, whole, parts, long, most, within, short) in
            subst (λ (n : ℕ). All IsInLine (take n (drop p.from source))) (sym none) (All-nil IsInLine)
        | inr le ↦
            let same : take line.size (drop p.from source) ≡ take line.size line.line =
            sym (drop-take p.from line.size source)
            ∙ (ap (drop p.from) (sym (take-take (p.from + line.size) p.next source le))
            ∙ (drop-take p.from line.size (take p.next source)
            ∙ (ap (take line.size) line.whole
            ∙ take-append-le line.size line.line line.end line.cut.within))) in
            subst (All IsInLine) (sym same) (All-take IsInLine line.size line.line line.in_line)
      ]

  line-inner : (p : PhysicalLine) → IsPhysicalLine source p → All IsInLine (physical_text source p)
  line-inner p line =
      let same : physical_text source p ≡ take line.size (drop p.from source) = ap (λ (to : ℕ). drop p.from (take to source)) line.to ∙ drop-take p.from line.size source in
      subst (All IsInLine) (sym same) (text-taken p line)

  behind-inner : (n : ℕ) (p : PhysicalLine) → IsPhysicalLine source p → IsInner (part_after n p)
  behind-inner n p line =
      subst (All IsInLine) (drop-drop n p.from (take p.to source)) (All-drop IsInLine n (physical_text source p) (line-inner p line))

  all-inner : (number at end : ℕ) (ps : List PhysicalLine) → AreJoined source number at end ps → All IsInner (map (part_after 0) ps)
  all-inner number at end [] h = All-nil IsInner
  all-inner number at end (p ∷ ps) h = All-cons IsInner (part_after 0 p) (map (part_after 0) ps) (behind-inner 0 p h.2) (all-inner (number + 1) p.next end ps h.4)

  opening-inner : (number at end : ℕ) (ps : List PhysicalLine) → AreJoined source number at end ps → All IsInner (opening_parts source ps)
  opening-inner number at end [] h = All-nil IsInner
  opening-inner number at end (p ∷ ps) h =
      let first : Part = part_after (dropped (physical_text source p)) p in
      let here = behind-inner (dropped (physical_text source p)) p h.2 in
      let later = opening-inner (number + 1) p.next end ps h.4 in
      let others = all-inner (number + 1) p.next end ps h.4 in
      cond_both (is_skipped (physical_text source p)) _ _ (All IsInner) (λ t. All-nil IsInner)
      (λ t. cond_both (list_all is_blank (physical_text source p)) _ _ (λ rest. All IsInner (first ∷ rest))
      (λ u. All-cons IsInner first (opening_parts source ps) here later)
      (λ u. All-cons IsInner first (map (part_after 0) ps) here others))

  abbrev HasInnerParts : Logical → Type 0
  HasInnerParts l = All IsInner (parts_in source l)

  lines-inner : All HasInnerParts (logicals source)
  lines-inner = λ k d less.
      let parts = parts_are_texts source k d less in
      subst (All IsInner) (sym parts.2) (opening-inner _ _ _ parts.0 parts.1)

-- ---- tokens are whole texts

-- a text that is one token, which no token rule refuses and which does not end a line
pub record IsWhole (sort : TokenKind) (text : List ℕ) : Type 0 where
  pub is : sort ≡ token_kind text
  pub faultless : token_fault text ≡ None
  pub size : token_size text ≡ length text
  pub inner : list_all is_inner text ≡ true

inner-bytes : (text : List ℕ) → All IsInLine text → list_all is_inner text ≡ true
inner-bytes [] h = refl
inner-bytes (b ∷ text) h = λ i. not (All-head IsInLine b text h i) && inner-bytes text (All-tail IsInLine b text h) i

abbrev IsWholeIn : List ℕ → Token → Type 0
IsWholeIn source t = IsWhole t.kind (text_of source t)

token-whole : (source : List ℕ) (end line at : ℕ) (bytes : List ℕ) → drop at (take end source) ≡ bytes → 0 < length bytes → All IsInLine bytes
    → token_fault (token_text bytes) ≡ None → IsWholeIn source (token_at line at (token_text bytes))
token-whole source end line at bytes e some inner faultless =
    let same = text-at source end line at (token_size bytes) bytes e some in
    subst (IsWhole (token_kind (token_text bytes))) (sym same)
    (record { is = refl; faultless = faultless; size = token_alone bytes some; inner = inner-bytes (token_text bytes) (All-take IsInLine (token_size bytes) bytes inner) })

scanned-if : (source : List ℕ) (blank : Bool) (here more : List Token) (fault rest : Option Code)
    → (rest ≡ None → All (IsWholeIn source) here) → (fault ≡ None → All (IsWholeIn source) more)
    → (if blank then rest else fault) ≡ None → All (IsWholeIn source) (if blank then here else more)
scanned-if source true here more fault rest g h none = g none
scanned-if source false here more fault rest g h none = h none

scanned-whole : (source : List ℕ) (end line n at : ℕ) (bytes : List ℕ) → drop at (take end source) ≡ bytes → All IsInLine bytes
    → first_fault n bytes ≡ None → All (IsWholeIn source) (scanned line n at bytes)
scanned-whole source end line n at [] e inner none = All-nil (IsWholeIn source)
scanned-whole source end line (suc n) at (byte ∷ bytes) e inner none =
    scanned-whole source end line n (at + 1) bytes (drop-next at (take end source) byte bytes e) (All-tail IsInLine byte bytes inner) none
scanned-whole source end line zero at (byte ∷ bytes) e inner none =
    let text : List ℕ = byte ∷ bytes in
    let next = drop-next at (take end source) byte bytes e in
    let rest = All-tail IsInLine byte bytes inner in
    scanned-if source (is_blank byte) (scanned line zero (at + 1) bytes)
    (token_at line at (token_text text) ∷ scanned line (token_size text - 1) (at + 1) bytes)
    (option_or (token_fault (token_text text)) (first_fault (token_size text - 1) bytes)) (first_fault zero bytes)
    (λ f. scanned-whole source end line zero (at + 1) bytes next rest f)
    (λ f.
    let parts = option_or-none (token_fault (token_text text)) (first_fault (token_size text - 1) bytes) f in
    All-cons (IsWholeIn source) (token_at line at (token_text text)) (scanned line (token_size text - 1) (at + 1) bytes)
    (token-whole source end line at text e (omega arith) inner parts.0)
    (scanned-whole source end line (token_size text - 1) (at + 1) bytes next rest parts.1))
    none

parts-whole : (source : List ℕ) (ps : List Part) → All (IsInner source) ps → parts_fault source ps ≡ None → All (IsWholeIn source) (parts_tokens source ps)
parts-whole source [] inner none = All-nil (IsWholeIn source)
parts-whole source (p ∷ ps) inner none =
    let both = option_or-none (first_fault 0 (part_text source p)) (parts_fault source ps) none in
    All-append (IsWholeIn source) (scanned p.line 0 p.from (part_text source p)) (parts_tokens source ps)
    (scanned-whole source p.to p.line 0 p.from (part_text source p) refl (All-head (IsInner source) p ps inner) both.0)
    (parts-whole source ps (All-tail (IsInner source) p ps inner) both.1)

line-whole : (source : List ℕ) (line : Logical) → HasInnerParts source line → line_refusal source line ≡ None → All (IsWholeIn source) (line_tokens source line)
unfolding line_tokens line_refusal
line-whole source line inner none = parts-whole source (parts_in source line) inner (no-refusal line.first_line (parts_fault source (parts_in source line)) none)

-- a token that is sound and the whole of its text
pub record IsWholeToken (token : LineToken) : Type 0 where
  pub sound : IsSoundToken token
  pub whole : IsWhole token.kind token.text

abbrev pub HasWholeTokens : List ℕ → Logical → Type 0
HasWholeTokens source line = All IsWholeToken (with_texts source (line_tokens source line))

both-all : (f : Token → LineToken) (tokens : List Token) → All IsSoundToken (map f tokens) → All (λ (t : Token). IsWhole (f t).kind (f t).text) tokens → All IsWholeToken (map f tokens)
both-all f [] sound whole = All-nil IsWholeToken
both-all f (t ∷ tokens) sound whole =
    All-cons IsWholeToken (f t) (map f tokens)
    (record { sound = All-head IsSoundToken (f t) (map f tokens) sound; whole = All-head (λ (u : Token). IsWhole (f u).kind (f u).text) t tokens whole })
    (both-all f tokens (All-tail IsSoundToken (f t) (map f tokens) sound) (All-tail (λ (u : Token). IsWhole (f u).kind (f u).text) t tokens whole))

lines-both : (source : List ℕ) (lines : List Logical) → All (HasSoundTokens source) lines → All (HasInnerParts source) lines → tokens_refusal source lines ≡ None → All (HasWholeTokens source) lines
lines-both source [] sound inner none = All-nil (HasWholeTokens source)
lines-both source (line ∷ lines) sound inner none =
    let both = option_or-none (line_refusal source line) (tokens_refusal source lines) none in
    All-cons (HasWholeTokens source) line lines
    (both-all (with_text source) (line_tokens source line) (All-head (HasSoundTokens source) line lines sound) (line-whole source line (All-head (HasInnerParts source) line lines inner) both.0))
    (lines-both source lines (All-tail (HasSoundTokens source) line lines sound) (All-tail (HasInnerParts source) line lines inner) both.1)

-- if no token rule refuses a source, the tokens of all its lines are whole
pub lines_whole : (source : List ℕ) → All (HasTexts source) (logicals source) → tokens_refusal source (logicals source) ≡ None → All (HasWholeTokens source) (logicals source)
lines_whole source texts none = lines-both source (logicals source) (lines-sound source (logicals source) texts none) (lines-inner source) none
