-- A printed line begins no comment and joins no lines.
use Rattle.std.proofs.Common.{◌≡◌, ℕ, ◌+◌, Bool, true, false, not, ◌&&◌, ◌||◌, if◌then◌else◌, ◌==◌, List, [], ◌∷◌, ◌++◌, Option, None, Some, is_some, refl, sym, ◌∙◌, ap, subst}
use Rattle.std.specs.List.{list_all, list_any}
use Rattle.std.proofs.lemmas.Bool.{cond-true, cond-false, not-true, and_right, and_parts, or_parts, or_from}
use Rattle.kmn_base.specs.Bytes.{is_blank, is_quote}
use Rattle.kmn_lines.specs.Bytes.{first_or_end}
use Rattle.kmn_lines.specs.Lines.{starts_comment, outside, inside, in_line, after_byte}
use Rattle.kmn_lines.specs.declared.line_state.LineState.{LineState}
use Rattle.kmn_parser.specs.Names.{is_inner}
use Rattle.kmn_parser.proofs.LineForms.{ends_clean, is_plain_byte, is_still_byte, read_on}
use Rattle.kmn_parser.proofs.Words.{plain-byte}

-- the state is outside quotes and comments, after a blank or not, and if it is clean, no backslash is followed only by blanks
pub record IsOutside (blank clean : Bool) (r : LineState) : Type 0 where
  pub quote : r.quote ≡ None
  pub stop : r.stop ≡ None
  pub after : r.after_blank ≡ blank
  pub slash : clean ≡ true → r.slash ≡ None

-- if a text is read from this state on, it ends the line without a comment and without a join
abbrev pub Ends : LineState → ℕ → List ℕ → Type 0
Ends r at text = ((read_on r at text).stop ≡ None) × ((read_on r at text).slash ≡ None)

abbrev pub Quiet : Bool → Bool → List ℕ → Type 0
Quiet blank clean text = (r : LineState) (at : ℕ) → IsOutside blank clean r → Ends r at text

pub quiet-nil : (blank : Bool) → Quiet blank true []
quiet-nil blank r at is = (is.stop, is.slash refl)

-- a byte outside quotes
outside-byte : (blank clean : Bool) (r : LineState) (at byte next : ℕ) → IsOutside blank clean r → (byte == 13) ≡ false → after_byte r at byte next ≡ outside r at byte next
outside-byte blank clean r at byte next is e =
    cond-false (is_some r.stop) _ _ (ap is_some is.stop) ∙ cond-false (byte == 13) _ _ e ∙ ap (λ (q : Option ℕ). in_line q r at byte next) is.quote

pub quiet-blank : (blank clean : Bool) (text : List ℕ) → Quiet true clean text → Quiet blank clean (32 ∷ text)
quiet-blank blank clean text rest r at is =
    subst (λ (k : LineState). Ends k (at + 1) text) (sym (outside-byte blank clean r at 32 (first_or_end text) is refl))
    (rest (record r { after_blank = true }) (at + 1) (record { quote = is.quote; stop = is.stop; after = refl; slash = is.slash }))

abbrev is_c : ℕ → Bool
is_c byte = (byte == 99) || (byte == 67)

-- a byte that is not a blank or a quote and does not begin a comment
quiet-solid : (blank clean : Bool) (byte : ℕ) (text : List ℕ) → is_blank byte ≡ false → is_quote byte ≡ false → (byte == 13) ≡ false
    → starts_comment blank byte (first_or_end text) ≡ false → Quiet false (not (byte == 92)) text → Quiet blank clean (byte ∷ text)
quiet-solid blank clean byte text b q c s rest r at is =
    let first : after_byte r at byte (first_or_end text) ≡ (if byte == 92 then record r { after_blank = false; slash = Some at } else record r { quote = None; after_blank = false; slash = None }) =
    outside-byte blank clean r at byte (first_or_end text) is c
    ∙ cond-false (is_blank byte) _ _ b
    ∙ cond-false (starts_comment r.after_blank byte (first_or_end text)) _ _ (ap (λ (a : Bool). starts_comment a byte (first_or_end text)) is.after ∙ s)
    ∙ ap (λ (k : Option ℕ). if byte == 92 then record r { after_blank = false; slash = Some at } else record r { quote = k; after_blank = false; slash = None }) (cond-false (is_quote byte) _ _ q) in
    subst (λ (k : LineState). Ends k (at + 1) text) (sym first)
    (elim (byte == 92) as (λ k. Quiet false (not k) text → Ends (if k then record r { after_blank = false; slash = Some at } else record r { quote = None; after_blank = false; slash = None }) (at + 1) text) [
      | true ↦ λ more. more (record r { after_blank = false; slash = Some at }) (at + 1) (record { quote = is.quote; stop = is.stop; after = refl; slash = λ e. absurd cc })
      | false ↦ λ more. more (record r { quote = None; after_blank = false; slash = None }) (at + 1) (record { quote = refl; stop = is.stop; after = refl; slash = λ e. refl })
    ] rest)

inner-return : (byte : ℕ) → is_inner byte ≡ true → (byte == 13) ≡ false
inner-return byte e = (or_parts (byte == 10) (byte == 13) (not-true _ e)).1

-- a byte before a byte of a word does not begin a comment
pub before-plain : (blank : Bool) (byte next : ℕ) → is_still_byte next ≡ true → starts_comment blank byte next ≡ false
before-plain blank byte next e =
    let two = and_parts (is_plain_byte next) (is_inner next) e in
    let three = or_parts (next == 10) (next == 13) (not-true _ two.1) in
    and_right (blank && is_c byte) _ (or_from _ _ (or_from _ _ (plain-byte next two.0).blank three.0) three.1)

-- a word whose first byte does not begin a comment
pub quiet-word : (blank clean : Bool) (byte : ℕ) (bytes rest : List ℕ) → list_all is_still_byte (byte ∷ bytes) ≡ true → starts_comment blank byte (first_or_end (bytes ++ rest)) ≡ false
    → Quiet false (ends_clean (byte ∷ bytes)) rest → Quiet blank clean ((byte ∷ bytes) ++ rest)
quiet-word blank clean byte [] rest e s more =
    let two = and_parts (is_still_byte byte) true e in
    let both = and_parts (is_plain_byte byte) (is_inner byte) two.0 in
    let plain = plain-byte byte both.0 in
    quiet-solid blank clean byte rest plain.blank plain.quote (inner-return byte both.1) s more
quiet-word blank clean byte (next ∷ bytes) rest e s more =
    let two = and_parts (is_still_byte byte) (list_all is_still_byte (next ∷ bytes)) e in
    let both = and_parts (is_plain_byte byte) (is_inner byte) two.0 in
    let plain = plain-byte byte both.0 in
    quiet-solid blank clean byte ((next ∷ bytes) ++ rest) plain.blank plain.quote (inner-return byte both.1) s
    (quiet-word false (not (byte == 92)) next bytes rest two.1 refl more)

-- the state is inside quotes
pub record IsInside (quote : ℕ) (r : LineState) : Type 0 where
  pub in_quote : r.quote ≡ Some quote
  pub stop : r.stop ≡ None
  pub slash : r.slash ≡ None
  pub after : r.after_blank ≡ false

inside-byte : (quote : ℕ) (r : LineState) (at byte next : ℕ) → IsInside quote r → (byte == 13) ≡ false → after_byte r at byte next ≡ inside r quote byte
inside-byte quote r at byte next is e =
    cond-false (is_some r.stop) _ _ (ap is_some is.stop) ∙ cond-false (byte == 13) _ _ e ∙ ap (λ (q : Option ℕ). in_line q r at byte next) is.in_quote

quiet-inside : (quote : ℕ) (bytes rest : List ℕ) (r : LineState) (at : ℕ) → IsInside quote r → (quote == quote) ≡ true → (quote == 13) ≡ false → list_any (λ b. b == quote) bytes ≡ false → list_all is_inner bytes ≡ true
    → Quiet false true rest → Ends r at (bytes ++ quote ∷ rest)
quiet-inside quote [] rest r at is same c none inner more =
    subst (λ (k : LineState). Ends k (at + 1) rest) (sym (inside-byte quote r at quote (first_or_end rest) is c ∙ cond-true (quote == quote) _ _ same))
    (more (record r { quote = None }) (at + 1) (record { quote = refl; stop = is.stop; after = is.after; slash = λ e. is.slash }))
quiet-inside quote (byte ∷ bytes) rest r at is same c none inner more =
    let two = and_parts (is_inner byte) (list_all is_inner bytes) inner in
    let apart = or_parts (byte == quote) (list_any (λ b. b == quote) bytes) none in
    subst (λ (k : LineState). Ends k (at + 1) (bytes ++ quote ∷ rest)) (sym (inside-byte quote r at byte (first_or_end (bytes ++ quote ∷ rest)) is (inner-return byte two.0) ∙ cond-false (byte == quote) _ _ apart.0))
    (quiet-inside quote bytes rest r (at + 1) is same c apart.1 two.1 more)

comment-not : (blank : Bool) (byte next : ℕ) → is_c byte ≡ false → starts_comment blank byte next ≡ false
comment-not true byte next e = ap (λ b. b && (is_blank next || (next == 10) || (next == 13))) e
comment-not false byte next e = refl

pub quiet-quoted : (blank clean : Bool) (quote : ℕ) (bytes rest : List ℕ) → is_blank quote ≡ false → is_quote quote ≡ true → (quote == quote) ≡ true → (quote == 13) ≡ false → is_c quote ≡ false → (quote == 92) ≡ false
    → list_any (λ b. b == quote) bytes ≡ false → list_all is_inner bytes ≡ true → Quiet false true rest → Quiet blank clean (quote ∷ (bytes ++ quote ∷ rest))
quiet-quoted blank clean quote bytes rest b q same c z s none inner more r at is =
    let next = first_or_end (bytes ++ quote ∷ rest) in
    subst (λ (k : LineState). Ends k (at + 1) (bytes ++ quote ∷ rest))
    (sym (outside-byte blank clean r at quote next is c ∙ cond-false (is_blank quote) _ _ b
    ∙ cond-false (starts_comment r.after_blank quote next) _ _ (comment-not r.after_blank quote next z)
    ∙ cond-false (quote == 92) _ _ s
    ∙ ap (λ (k : Option ℕ). record r { quote = k; after_blank = false; slash = None }) (cond-true (is_quote quote) _ _ q)))
    (quiet-inside quote bytes rest (record r { quote = Some quote; after_blank = false; slash = None }) (at + 1) (record { in_quote = refl; stop = is.stop; slash = refl; after = refl }) same c none inner more)

-- a symbol
pub quiet-sign : (blank clean : Bool) (byte : ℕ) (rest : List ℕ) → is_blank byte ≡ false → is_quote byte ≡ false → (byte == 13) ≡ false → is_c byte ≡ false → (byte == 92) ≡ false → Quiet false true rest → Quiet blank clean (byte ∷ rest)
quiet-sign blank clean byte rest b q c z s more =
    quiet-solid blank clean byte rest b q c (comment-not blank byte (first_or_end rest) z) (subst (λ k. Quiet false (not k) rest) (sym s) more)

-- bytes of a word without a backslash
pub quiet-run : (bytes rest : List ℕ) → list_all (λ b. is_still_byte b && not (b == 92)) bytes ≡ true → Quiet false true rest → Quiet false true (bytes ++ rest)
quiet-run [] rest e more = more
quiet-run (byte ∷ bytes) rest e more =
    let two = and_parts (is_still_byte byte && not (byte == 92)) (list_all (λ b. is_still_byte b && not (b == 92)) bytes) e in
    let safe = and_parts (is_still_byte byte) (not (byte == 92)) two.0 in
    let both = and_parts (is_plain_byte byte) (is_inner byte) safe.0 in
    let plain = plain-byte byte both.0 in
    quiet-solid false true byte (bytes ++ rest) plain.blank plain.quote (inner-return byte both.1) refl (subst (λ k. Quiet false k (bytes ++ rest)) (sym safe.1) (quiet-run bytes rest two.1 more))
