-- Each kind of token is read back.
use Rattle.std.proofs.Common.{◌≡◌, ℕ, suc, ◌<◌, Bool, true, false, not, ◌&&◌, ◌||◌, ◌==◌, List, [], ◌∷◌, ◌++◌, length, Option, None, Some, is_some, refl, sym, ◌∙◌, ap, subst, arith, length-append}
use Rattle.std.specs.Prelude.{unwrap_or}
use Rattle.std.proofs.lemmas.List.{append-nil}
use Rattle.std.specs.List.{list_all, list_any}
use Rattle.std.proofs.lemmas.Bool.{ne_eqb, not-true, both_ways, and_left, and_right, or_left, or_right, cond-true, cond-false, and_parts, or_parts}
use Rattle.kmn_base.specs.Bytes.{is_blank, is_quote, hex_digit}
use Rattle.kmn_lines.specs.Bytes.{first_or_end}
use Rattle.kmn_lines.specs.Tokens.{single, is_unequal, in_word, word_size, quoted_size, starts_number, token_size, token_kind, has_forbidden, begins_forbidden, is_closed, token_fault}
use Rattle.kmn_lines.specs.Laws.{IsPlain}
use Rattle.kmn_lines.specs.declared.token.TokenKind.TheVariants as kind
use Rattle.kmn_lines.proofs.TextSizes.{in_word-plain, in_word-from}
use Rattle.kmn_items.specs.TokenTexts.{LineToken}
use Rattle.kmn_parser.specs.Texts.{arrow, bracket_closing, bracket_opening, closing, comma, equal, opening, plus, quoted_token, unequal, word}
use Rattle.kmn_parser.proofs.LineForms.{IsReadBack, ends_byte, ends_word, is_plain_byte, is_word_text}

pub plain-byte : (byte : ℕ) → is_plain_byte byte ≡ true → IsPlain byte
plain-byte byte h =
    let one = or_parts (is_blank byte || is_quote byte) (is_some (single byte)) (not-true _ h) in
    let two = or_parts (is_blank byte) (is_quote byte) one.0 in
    record { blank = two.0; quote = two.1; alone = one.1 }

-- if a test succeeds for one byte and fails for another, the bytes differ
pub differ : (f : ℕ → Bool) (a byte : ℕ) → f byte ≡ true → f a ≡ false → (byte == a) ≡ false
differ f a byte e g = ne_eqb byte a (λ same. both_ways (f byte) (ap f same ∙ g) e)

-- if a text has only plain bytes and is followed by the end of a word, its next byte is not a + or a =
next-not : (a : ℕ) (bytes rest : List ℕ) → is_plain_byte a ≡ false → ends_byte a ≡ false → (10 == a) ≡ false
    → list_all is_plain_byte bytes ≡ true → ends_word rest ≡ true → (first_or_end (bytes ++ rest) == a) ≡ false
next-not a [] [] p q r h e = r
next-not a [] (byte ∷ rest) p q r h e = differ ends_byte a byte e q
next-not a (byte ∷ bytes) rest p q r h e = differ is_plain_byte a byte (and_parts (is_plain_byte byte) (list_all is_plain_byte bytes) h).0 p

word-byte : (byte : ℕ) (bytes rest : List ℕ) → is_plain_byte byte ≡ true → list_all is_plain_byte bytes ≡ true → ends_word rest ≡ true → in_word byte (first_or_end (bytes ++ rest)) ≡ true
word-byte byte bytes rest p h e =
    let plain = plain-byte byte p in
    in_word-from byte (first_or_end (bytes ++ rest)) plain.blank plain.quote plain.alone
    (and_right (byte == 33) (first_or_end (bytes ++ rest) == 61) (next-not 61 bytes rest refl refl refl h e))

ended-byte : (byte next : ℕ) (rest : List ℕ) → ends_word (byte ∷ rest) ≡ true → in_word byte next ≡ false
ended-byte byte next rest e = elim (in_word byte next) as (λ b. in_word byte next ≡ b → b ≡ false) [
  | false ↦ λ f. refl
  | true ↦ λ f. let p = in_word-plain byte next f in grind (arith, p.blank, p.alone, e)
] refl

pub word_size-ended : (bytes rest : List ℕ) → list_all is_plain_byte bytes ≡ true → ends_word rest ≡ true → word_size (bytes ++ rest) ≡ length bytes
word_size-ended [] [] h e = refl
word_size-ended [] (byte ∷ rest) h e = cond-false (in_word byte (first_or_end rest)) _ _ (ended-byte byte (first_or_end rest) rest e)
word_size-ended (byte ∷ bytes) rest h e =
    let two = and_parts (is_plain_byte byte) (list_all is_plain_byte bytes) h in
    cond-true (in_word byte (first_or_end (bytes ++ rest))) _ _ (word-byte byte bytes rest two.0 two.1 e)
    ∙ (let more = word_size-ended bytes rest two.1 e in omega (arith, more))

third-no : (a b c : Bool) → b ≡ false → ((a && b) && c) ≡ false
third-no true b c e = and_left b c e
third-no false b c e = refl

pub number-second : (a : ℕ) (bytes : List ℕ) → (first_or_end bytes == 43) ≡ false → starts_number (a ∷ bytes) ≡ false
number-second a [] e = refl
number-second a (b ∷ []) e = refl
number-second a (b ∷ c ∷ bytes) e = third-no ((a == 85) || (a == 117)) (b == 43) (is_some (hex_digit c)) e

word-size : (byte : ℕ) (bytes rest : List ℕ) → list_all is_plain_byte (byte ∷ bytes) ≡ true → ends_word rest ≡ true → token_size ((byte ∷ bytes) ++ rest) ≡ suc (length bytes)
unfolding token_size
word-size byte bytes rest h e =
    let two = and_parts (is_plain_byte byte) (list_all is_plain_byte bytes) h in
    let plain = plain-byte byte two.0 in
    let next = first_or_end (bytes ++ rest) in
    cond-false (starts_number (byte ∷ (bytes ++ rest))) _ _ (number-second byte (bytes ++ rest) (next-not 43 bytes rest refl refl refl two.1 e))
    ∙ cond-false (is_quote byte) _ _ plain.quote
    ∙ cond-false (is_unequal byte next) _ _ (and_right (byte == 33) (next == 61) (next-not 61 bytes rest refl refl refl two.1 e))
    ∙ cond-false (is_some (single byte)) _ _ plain.alone
    ∙ word_size-ended (byte ∷ bytes) rest h e

pub none-or : {A : Type 0} (o : Option A) (d : A) → is_some o ≡ false → unwrap_or o d ≡ d
none-or None d e = refl
none-or (Some x) d e = absurd cc

word-number : (byte : ℕ) (bytes : List ℕ) → list_all is_plain_byte (byte ∷ bytes) ≡ true → starts_number (byte ∷ bytes) ≡ false
word-number byte bytes h =
    let two = and_parts (is_plain_byte byte) (list_all is_plain_byte bytes) h in
    number-second byte bytes (subst (λ (xs : List ℕ). (first_or_end xs == 43) ≡ false) (append-nil bytes) (next-not 43 bytes [] refl refl refl two.1 refl))

word-kind : (byte : ℕ) (bytes : List ℕ) → list_all is_plain_byte (byte ∷ bytes) ≡ true → token_kind (byte ∷ bytes) ≡ kind.Word
unfolding token_kind
word-kind byte bytes h =
    let two = and_parts (is_plain_byte byte) (list_all is_plain_byte bytes) h in
    let plain = plain-byte byte two.0 in
    let next = first_or_end bytes in
    cond-false (starts_number (byte ∷ bytes)) _ _ (word-number byte bytes h)
    ∙ cond-false (is_quote byte) _ _ plain.quote
    ∙ cond-false (is_unequal byte next) _ _ (and_right (byte == 33) (next == 61) (subst (λ (xs : List ℕ). (first_or_end xs == 61) ≡ false) (append-nil bytes) (next-not 61 bytes [] refl refl refl two.1 refl)))
    ∙ none-or (single byte) kind.Word plain.alone

closed-plain : (a b : Bool) → a ≡ false → not (not a || b) ≡ false
closed-plain true b e = absurd cc
closed-plain false b e = refl

word-sound : (byte : ℕ) (bytes : List ℕ) → list_all is_plain_byte (byte ∷ bytes) ≡ true → has_forbidden (byte ∷ bytes) ≡ false → token_fault (byte ∷ bytes) ≡ None
unfolding token_fault
word-sound byte bytes h f =
    let two = and_parts (is_plain_byte byte) (list_all is_plain_byte bytes) h in
    let plain = plain-byte byte two.0 in
    cond-false (has_forbidden (byte ∷ bytes)) _ _ f
    ∙ cond-false (not (is_closed (byte ∷ bytes))) _ _ (closed-plain (is_quote byte) _ plain.quote)
    ∙ cond-false (starts_number (byte ∷ bytes)) _ _ (word-number byte bytes h)

-- a word before a byte that ends it
pub word_back : (text rest : List ℕ) → is_word_text text ≡ true → ends_word rest ≡ true → IsReadBack (word text) rest
word_back [] rest h e = absurd cc
word_back (byte ∷ bytes) rest h e =
    let two = and_parts (list_all is_plain_byte (byte ∷ bytes)) (not (has_forbidden (byte ∷ bytes))) h in
    let first = and_parts (is_plain_byte byte) (list_all is_plain_byte bytes) two.0 in
    record {
      some = omega arith;
      solid = (plain-byte byte first.0).blank;
      size = word-size byte bytes rest two.0 e;
      kind = word-kind byte bytes two.0;
      sound = word-sound byte bytes two.0 (not-true _ two.1);
    }

-- symbols
number-not : (a : ℕ) (rest : List ℕ) → ((a == 85) || (a == 117)) ≡ false → starts_number (a ∷ rest) ≡ false
number-not a [] e = refl
number-not a (b ∷ []) e = refl
number-not a (b ∷ c ∷ bytes) e = and_left _ (is_some (hex_digit c)) (and_left _ (b == 43) e)

pub sign_back : (token : LineToken) (byte : ℕ) (rest : List ℕ) → token.text ≡ byte ∷ [] → ((byte == 85) || (byte == 117)) ≡ false → (byte == 33) ≡ false → is_blank byte ≡ false → is_quote byte ≡ false
    → is_some (single byte) ≡ true → unwrap_or (single byte) kind.Word ≡ token.kind → has_forbidden (byte ∷ []) ≡ false → IsReadBack token rest
unfolding token_size token_kind token_fault
sign_back token byte rest is u n b q s k f =
    record {
      some = subst (λ (xs : List ℕ). 0 < length xs) (sym is) (omega arith);
      solid = subst (λ (xs : List ℕ). is_blank (first_or_end xs) ≡ false) (sym is) b;
      size = subst (λ (xs : List ℕ). token_size (xs ++ rest) ≡ length xs) (sym is)
          (cond-false (starts_number (byte ∷ rest)) _ _ (number-not byte rest u)
          ∙ cond-false (is_quote byte) _ _ q
          ∙ cond-false (is_unequal byte (first_or_end rest)) _ _ (and_left (byte == 33) _ n)
          ∙ cond-true (is_some (single byte)) _ _ s);
      kind = subst (λ (xs : List ℕ). token_kind xs ≡ token.kind) (sym is)
          (cond-false (is_quote byte) _ _ q ∙ cond-false (is_unequal byte 10) _ _ (and_left (byte == 33) _ n) ∙ k);
      sound = subst (λ (xs : List ℕ). token_fault xs ≡ None) (sym is)
          (cond-false (has_forbidden (byte ∷ [])) _ _ f ∙ cond-false (not (is_closed (byte ∷ []))) _ _ (closed-plain (is_quote byte) _ q));
    }

pub opening_back : (rest : List ℕ) → IsReadBack opening rest
unfolding begins_forbidden
opening_back rest = sign_back opening 40 rest refl refl refl refl refl refl refl refl

pub closing_back : (rest : List ℕ) → IsReadBack closing rest
unfolding begins_forbidden
closing_back rest = sign_back closing 41 rest refl refl refl refl refl refl refl refl

pub bracket_opening_back : (rest : List ℕ) → IsReadBack bracket_opening rest
unfolding begins_forbidden
bracket_opening_back rest = sign_back bracket_opening 91 rest refl refl refl refl refl refl refl refl

pub bracket_closing_back : (rest : List ℕ) → IsReadBack bracket_closing rest
unfolding begins_forbidden
bracket_closing_back rest = sign_back bracket_closing 93 rest refl refl refl refl refl refl refl refl

pub arrow_back : (rest : List ℕ) → IsReadBack arrow rest
unfolding begins_forbidden
arrow_back rest = sign_back arrow 62 rest refl refl refl refl refl refl refl refl

pub plus_back : (rest : List ℕ) → IsReadBack plus rest
unfolding begins_forbidden
plus_back rest = sign_back plus 43 rest refl refl refl refl refl refl refl refl

pub equal_back : (rest : List ℕ) → IsReadBack equal rest
unfolding begins_forbidden
equal_back rest = sign_back equal 61 rest refl refl refl refl refl refl refl refl

pub comma_back : (rest : List ℕ) → IsReadBack comma rest
unfolding begins_forbidden
comma_back rest = sign_back comma 44 rest refl refl refl refl refl refl refl refl

pub unequal_back : (rest : List ℕ) → IsReadBack unequal rest
unfolding token_size token_kind token_fault begins_forbidden
unequal_back rest =
    record {
      some = omega arith;
      solid = refl;
      size = cond-false (starts_number (33 ∷ 61 ∷ rest)) _ _ (number-not 33 (61 ∷ rest) refl);
      kind = refl;
      sound = refl;
    }

-- a text in quotes
quoted-size : (quote : ℕ) (bytes rest : List ℕ) → list_any (λ b. b == quote) bytes ≡ false → (quote == quote) ≡ true → quoted_size quote ((bytes ++ quote ∷ []) ++ rest) ≡ suc (length bytes)
quoted-size quote [] rest h same = cond-true (quote == quote) _ _ same
quoted-size quote (byte ∷ bytes) rest h same =
    let two = or_parts (byte == quote) (list_any (λ b. b == quote) bytes) h in
    cond-false (byte == quote) _ _ two.0 ∙ (let more = quoted-size quote bytes rest two.1 same in omega (arith, more))

any-last : (quote : ℕ) (bytes : List ℕ) → (quote == quote) ≡ true → list_any (λ b. b == quote) (bytes ++ quote ∷ []) ≡ true
any-last quote [] same = or_left (quote == quote) false same
any-last quote (byte ∷ bytes) same = or_right (byte == quote) _ (any-last quote bytes same)

closed-quote : (a b : Bool) → a ≡ true → b ≡ true → not (not a || b) ≡ false
closed-quote true true e f = refl
closed-quote true false e f = absurd cc
closed-quote false b e f = absurd cc

pub quoted_back : (quote : ℕ) (bytes rest : List ℕ) → is_quote quote ≡ true → (quote == quote) ≡ true → ((quote == 85) || (quote == 117)) ≡ false → is_blank quote ≡ false
    → list_any (λ b. b == quote) bytes ≡ false → has_forbidden (quote ∷ (bytes ++ quote ∷ [])) ≡ false → IsReadBack (quoted_token quote bytes) rest
unfolding token_size token_kind token_fault
quoted_back quote bytes rest q same u b h f =
    record {
      some = omega arith;
      solid = b;
      size = cond-false (starts_number (quote ∷ ((bytes ++ quote ∷ []) ++ rest))) _ _ (number-not quote ((bytes ++ quote ∷ []) ++ rest) u)
          ∙ cond-true (is_quote quote) _ _ q ∙ (let size = quoted-size quote bytes rest h same in let long = length-append bytes (quote ∷ []) in omega (arith, size, long));
      kind = cond-false (starts_number (quote ∷ (bytes ++ quote ∷ []))) _ _ (number-not quote (bytes ++ quote ∷ []) u) ∙ cond-true (is_quote quote) _ _ q;
      sound = cond-false (has_forbidden (quote ∷ (bytes ++ quote ∷ []))) _ _ f
          ∙ cond-false (not (is_closed (quote ∷ (bytes ++ quote ∷ [])))) _ _ (closed-quote (is_quote quote) _ q (any-last quote bytes same))
          ∙ cond-false (starts_number (quote ∷ (bytes ++ quote ∷ []))) _ _ (number-not quote (bytes ++ quote ∷ []) u);
    }
