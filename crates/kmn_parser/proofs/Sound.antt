-- A line that is printed from sound tokens is read back, and is a whole line.
use Rattle.std.proofs.Common.{◌≡◌, ℕ, Bool, true, false, not, ◌&&◌, ◌||◌, if◌then◌else◌, ◌==◌, List, [], ◌∷◌, ◌++◌, Option, None, Some, refl, sym, ◌∙◌, ap, subst, append_assoc}
use Rattle.std.specs.List.{list_all}
use Rattle.std.proofs.lemmas.List.Folds.{list_all-append}
use Rattle.std.proofs.lemmas.Bool.{and_from, and_parts}
use Rattle.kmn_base.specs.Bytes.{is_blank}
use Rattle.kmn_lines.specs.Bytes.{first_or_end}
use Rattle.kmn_lines.specs.Lines.{starts_comment}
use Rattle.kmn_lines.specs.declared.token.TokenKind.{TokenKind}
use Rattle.kmn_lines.specs.declared.token.TokenKind.TheVariants as kind
use Rattle.kmn_items.specs.TokenTexts.{LineToken}
use Rattle.kmn_lines.specs.Lines.{line_start}
use Rattle.kmn_parser.specs.Names.{is_inner}
use Rattle.kmn_parser.specs.Printed.{printed}
use Rattle.kmn_parser.proofs.LineForms.{AreReadBack, AreSound, IsFollowed, IsQuotedText, IsReadBack, IsTokenText, IsWholeLine, begins_plainly, is_alone_c, is_clean, is_plain_byte, is_still_byte}
use Rattle.kmn_parser.proofs.Words.{word_back, opening_back, closing_back, bracket_opening_back, bracket_closing_back, arrow_back, plus_back, equal_back, comma_back, unequal_back, quoted_back}
use Rattle.kmn_parser.proofs.Hex.{number_back, digits-safe, is_safe_byte}
use Rattle.kmn_parser.proofs.Still.{Quiet, quiet-nil, quiet-blank, quiet-word, quiet-quoted, quiet-sign, quiet-run, before-plain}

moved : (k : TokenKind) (text other rest : List ℕ) → text ≡ other → IsReadBack (record { kind = k; text = other }) rest → IsReadBack (record { kind = k; text = text }) rest
moved k text other rest e back = subst (λ (xs : List ℕ). IsReadBack (record { kind = k; text = xs }) rest) (sym e) back

token-back : (k : TokenKind) (blank : Bool) (text rest : List ℕ) → IsTokenText k text → IsFollowed k blank text rest → IsReadBack (record { kind = k; text = text }) rest
token-back kind.Word blank text rest is follows = word_back text rest is.0 follows.0
token-back (kind.Number c) blank text rest is follows = number_back c text rest is follows
token-back kind.Quoted blank text rest (true, is) follows = moved kind.Quoted text _ rest is.is (quoted_back 34 is.bytes rest refl refl refl refl is.apart is.allowed)
token-back kind.Quoted blank text rest (false, is) follows = moved kind.Quoted text _ rest is.is (quoted_back 39 is.bytes rest refl refl refl refl is.apart is.allowed)
token-back kind.Open blank text rest is follows = moved kind.Open text _ rest is (opening_back rest)
token-back kind.Close blank text rest is follows = moved kind.Close text _ rest is (closing_back rest)
token-back kind.BracketOpen blank text rest is follows = moved kind.BracketOpen text _ rest is (bracket_opening_back rest)
token-back kind.BracketClose blank text rest is follows = moved kind.BracketClose text _ rest is (bracket_closing_back rest)
token-back kind.Arrow blank text rest is follows = moved kind.Arrow text _ rest is (arrow_back rest)
token-back kind.Plus blank text rest is follows = moved kind.Plus text _ rest is (plus_back rest)
token-back kind.Equal blank text rest is follows = moved kind.Equal text _ rest is (equal_back rest)
token-back kind.Comma blank text rest is follows = moved kind.Comma text _ rest is (comma_back rest)
token-back kind.Unequal blank text rest is follows = moved kind.Unequal text _ rest is (unequal_back rest)

pub sound_back : (blank clean : Bool) (ps : List (Option LineToken)) → AreSound blank clean ps → AreReadBack ps
sound_back blank clean [] sound = tt
sound_back blank clean (None ∷ ps) sound = sound_back true clean ps sound
sound_back blank clean (Some token ∷ ps) (is, follows, sound) = (token-back token.kind blank token.text (printed ps) is follows, sound_back false (is_clean token.kind token.text) ps sound)

-- a word that is not only a c does not begin a comment
comment-word : (blank : Bool) (byte : ℕ) (bytes rest : List ℕ) → list_all is_still_byte (byte ∷ bytes) ≡ true → (blank ≡ true → is_alone_c (byte ∷ bytes) ≡ false) → starts_comment blank byte (first_or_end (bytes ++ rest)) ≡ false
comment-word false byte bytes rest still lone = refl
comment-word true byte [] rest still lone = ap (λ b. b && (is_blank (first_or_end rest) || (first_or_end rest == 10) || (first_or_end rest == 13))) (lone refl)
comment-word true byte (next ∷ bytes) rest still lone = before-plain true byte next (and_parts (is_still_byte next) (list_all is_still_byte bytes) (and_parts (is_still_byte byte) _ still).1).0

quiet-moved : (blank clean : Bool) (text other rest : List ℕ) → text ≡ other → Quiet blank clean (other ++ rest) → Quiet blank clean (text ++ rest)
quiet-moved blank clean text other rest e quiet = subst (λ (xs : List ℕ). Quiet blank clean (xs ++ rest)) (sym e) quiet

quiet-quote : (blank clean : Bool) (quote : ℕ) (text rest : List ℕ) (is : IsQuotedText quote text) → Quiet blank clean (quote ∷ (is.bytes ++ quote ∷ rest)) → Quiet blank clean (text ++ rest)
quiet-quote blank clean quote text rest is quiet =
    quiet-moved blank clean text (quote ∷ (is.bytes ++ quote ∷ [])) rest is.is
    (subst (λ (xs : List ℕ). Quiet blank clean (quote ∷ xs)) (sym (append_assoc is.bytes (quote ∷ []) rest)) quiet)

number-quiet : (upper blank clean : Bool) (digits rest : List ℕ) → list_all is_safe_byte digits ≡ true → Quiet false true rest
    → Quiet blank clean ((if upper then 85 else 117) ∷ 43 ∷ (digits ++ rest))
number-quiet true blank clean digits rest safe more =
    quiet-sign blank clean 85 (43 ∷ (digits ++ rest)) refl refl refl refl refl (quiet-sign false true 43 (digits ++ rest) refl refl refl refl refl (quiet-run digits rest safe more))
number-quiet false blank clean digits rest safe more =
    quiet-sign blank clean 117 (43 ∷ (digits ++ rest)) refl refl refl refl refl (quiet-sign false true 43 (digits ++ rest) refl refl refl refl refl (quiet-run digits rest safe more))

token-quiet : (k : TokenKind) (blank clean : Bool) (text rest : List ℕ) → IsTokenText k text → IsFollowed k blank text rest → Quiet false (is_clean k text) rest → Quiet blank clean (text ++ rest)
token-quiet kind.Word blank clean [] rest is follows more = absurd (let bad : false ≡ true = is.0 in cc)
token-quiet kind.Word blank clean (byte ∷ bytes) rest is follows more = quiet-word blank clean byte bytes rest is.1 (comment-word blank byte bytes rest is.1 follows.1) more
token-quiet (kind.Number c) blank clean text rest is follows more =
    quiet-moved blank clean text ((if is.upper then 85 else 117) ∷ 43 ∷ is.digits) rest is.is (number-quiet is.upper blank clean is.digits rest (digits-safe is.digits is.all) more)
token-quiet kind.Quoted blank clean text rest (true, is) follows more =
    quiet-quote blank clean 34 text rest is (quiet-quoted blank clean 34 is.bytes rest refl refl refl refl refl refl is.apart is.inner more)
token-quiet kind.Quoted blank clean text rest (false, is) follows more =
    quiet-quote blank clean 39 text rest is (quiet-quoted blank clean 39 is.bytes rest refl refl refl refl refl refl is.apart is.inner more)
token-quiet kind.Open blank clean text rest is follows more = quiet-moved blank clean text (40 ∷ []) rest is (quiet-sign blank clean 40 rest refl refl refl refl refl more)
token-quiet kind.Close blank clean text rest is follows more = quiet-moved blank clean text (41 ∷ []) rest is (quiet-sign blank clean 41 rest refl refl refl refl refl more)
token-quiet kind.BracketOpen blank clean text rest is follows more = quiet-moved blank clean text (91 ∷ []) rest is (quiet-sign blank clean 91 rest refl refl refl refl refl more)
token-quiet kind.BracketClose blank clean text rest is follows more = quiet-moved blank clean text (93 ∷ []) rest is (quiet-sign blank clean 93 rest refl refl refl refl refl more)
token-quiet kind.Arrow blank clean text rest is follows more = quiet-moved blank clean text (62 ∷ []) rest is (quiet-sign blank clean 62 rest refl refl refl refl refl more)
token-quiet kind.Plus blank clean text rest is follows more = quiet-moved blank clean text (43 ∷ []) rest is (quiet-sign blank clean 43 rest refl refl refl refl refl more)
token-quiet kind.Equal blank clean text rest is follows more = quiet-moved blank clean text (61 ∷ []) rest is (quiet-sign blank clean 61 rest refl refl refl refl refl more)
token-quiet kind.Comma blank clean text rest is follows more = quiet-moved blank clean text (44 ∷ []) rest is (quiet-sign blank clean 44 rest refl refl refl refl refl more)
token-quiet kind.Unequal blank clean text rest is follows more =
    quiet-moved blank clean text (33 ∷ 61 ∷ []) rest is (quiet-sign blank clean 33 (61 ∷ rest) refl refl refl refl refl (quiet-sign false true 61 rest refl refl refl refl refl more))

pub sound_quiet : (blank clean : Bool) (ps : List (Option LineToken)) → AreSound blank clean ps → Quiet blank clean (printed ps)
sound_quiet blank clean [] sound = subst (λ k. Quiet blank k []) (sym sound) (quiet-nil blank)
sound_quiet blank clean (None ∷ ps) sound = quiet-blank blank clean (printed ps) (sound_quiet true clean ps sound)
sound_quiet blank clean (Some token ∷ ps) (is, follows, sound) =
    token-quiet token.kind blank clean token.text (printed ps) is follows (sound_quiet false (is_clean token.kind token.text) ps sound)

still-inner : (bytes : List ℕ) → list_all is_still_byte bytes ≡ true → list_all is_inner bytes ≡ true
still-inner [] e = refl
still-inner (byte ∷ bytes) e =
    let two = and_parts (is_still_byte byte) (list_all is_still_byte bytes) e in
    and_from _ _ (and_parts (is_plain_byte byte) (is_inner byte) two.0).1 (still-inner bytes two.1)

safe-inner : (bytes : List ℕ) → list_all is_safe_byte bytes ≡ true → list_all is_inner bytes ≡ true
safe-inner [] e = refl
safe-inner (byte ∷ bytes) e =
    let two = and_parts (is_safe_byte byte) (list_all is_safe_byte bytes) e in
    and_from _ _ (and_parts (is_plain_byte byte) (is_inner byte) (and_parts (is_still_byte byte) (not (byte == 92)) two.0).0).1 (safe-inner bytes two.1)

quoted-inner : (quote : ℕ) (bytes : List ℕ) → list_all is_inner bytes ≡ true → is_inner quote ≡ true → list_all is_inner (quote ∷ (bytes ++ quote ∷ [])) ≡ true
quoted-inner quote bytes e q = and_from _ _ q (list_all-append is_inner bytes (quote ∷ []) ∙ and_from _ _ e (and_from _ _ q refl))

number-inner : (upper : Bool) (digits : List ℕ) → list_all is_inner digits ≡ true → list_all is_inner ((if upper then 85 else 117) ∷ 43 ∷ digits) ≡ true
number-inner true digits e = e
number-inner false digits e = e

-- the bytes of a token are bytes inside a line
token-inner : (k : TokenKind) (text : List ℕ) → IsTokenText k text → list_all is_inner text ≡ true
token-inner kind.Word text is = still-inner text is.1
token-inner (kind.Number c) text is = ap (list_all is_inner) is.is ∙ number-inner is.upper is.digits (safe-inner is.digits (digits-safe is.digits is.all))
token-inner kind.Quoted text (true, is) = ap (list_all is_inner) is.is ∙ quoted-inner 34 is.bytes is.inner refl
token-inner kind.Quoted text (false, is) = ap (list_all is_inner) is.is ∙ quoted-inner 39 is.bytes is.inner refl
token-inner kind.Open text is = ap (list_all is_inner) is
token-inner kind.Close text is = ap (list_all is_inner) is
token-inner kind.BracketOpen text is = ap (list_all is_inner) is
token-inner kind.BracketClose text is = ap (list_all is_inner) is
token-inner kind.Arrow text is = ap (list_all is_inner) is
token-inner kind.Plus text is = ap (list_all is_inner) is
token-inner kind.Equal text is = ap (list_all is_inner) is
token-inner kind.Comma text is = ap (list_all is_inner) is
token-inner kind.Unequal text is = ap (list_all is_inner) is

pub line_inner : (blank clean : Bool) (ps : List (Option LineToken)) → AreSound blank clean ps → list_all is_inner (printed ps) ≡ true
line_inner blank clean [] sound = refl
line_inner blank clean (None ∷ ps) sound = line_inner true clean ps sound
line_inner blank clean (Some token ∷ ps) (is, follows, sound) =
    list_all-append is_inner token.text (printed ps) ∙ and_from _ _ (token-inner token.kind token.text is) (line_inner false (is_clean token.kind token.text) ps sound)

-- a line that is printed from sound tokens is whole
pub sound_whole : (ps : List (Option LineToken)) → AreSound true true ps → begins_plainly (printed ps) ≡ true → IsWholeLine (printed ps)
sound_whole ps sound plain = record {
  inner = line_inner true true ps sound;
  start = plain;
  stop = λ at. (sound_quiet true true ps sound line_start at (record { quote = refl; stop = refl; after = refl; slash = λ e. refl })).0;
  slash = λ at. (sound_quiet true true ps sound line_start at (record { quote = refl; stop = refl; after = refl; slash = λ e. refl })).1;
}
