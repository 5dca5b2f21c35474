-- Names that are one token.
use Rattle.std.proofs.Common.{◌≡◌, ℕ, suc, ◌+◌, ◌==◌, Bool, true, false, not, ◌&&◌, ◌||◌, nat_eq, if◌then◌else◌, List, [], ◌∷◌, length, Option, Some, None, refl, sym, ap, ◌∙◌, arith}
use Rattle.std.specs.Prelude.{is_some, unwrap_or}
use Rattle.std.specs.List.{list_all}
use Rattle.std.proofs.lemmas.Bool.Decides.{nat_tests}
use Rattle.std.proofs.Math.Bool.{and-false}
use Rattle.kmn_base.specs.Bytes.{is_blank, is_quote}
use Rattle.kmn_base.specs.declared.codes.Code.{Code}
use Rattle.kmn_base.specs.declared.codes.Code.TheVariants.{L02, L03}
use Rattle.kmn_lines.specs.Bytes.{first_or_end}
use Rattle.kmn_lines.specs.Tokens.{single, is_unequal, in_word, word_size, quoted_size, starts_number, token_size, token_kind, token_fault, has_forbidden, is_closed, digits_fault}
use Rattle.kmn_lines.specs.declared.token.TokenKind.{TokenKind}
use Rattle.kmn_lines.specs.declared.token.TokenKind.TheVariants.{Quoted, Word, Open, Close, BracketOpen, BracketClose, Arrow, Plus, Equal, Unequal, Comma}
use Rattle.kmn_items.specs.TokenTexts.{is_wordy}
use Rattle.kmn_items.specs.Words.{is_name}
use Rattle.kmn_parser.specs.Names.{is_inner, is_source_name}
use Rattle.decompile_program.specs.SourceNames.{is_token, is_one_name}

none_apart : (n : ℕ) → nat_eq 0 (suc n) ≡ false
none_apart n = grind (arith, nat_tests)

both_false : (one : Bool) (n : ℕ) (rest : Bool) → (one && false) ≡ (nat_eq 0 (suc n) && rest)
both_false one n rest = and-false one ∙ sym (ap (λ (b : Bool). b && rest) (none_apart n))

-- if a byte is a token by itself, this token is not a word
sign_kind : (a b c d e f g h : Bool)
    → is_some (if a then Some Open else if b then Some Close else if c then Some BracketOpen else if d then Some BracketClose else if e then Some Arrow else if f then Some Plus else if g then Some Equal else if h then Some Comma else None) ≡ true
    → is_wordy (unwrap_or (if a then Some Open else if b then Some Close else if c then Some BracketOpen else if d then Some BracketClose else if e then Some Arrow else if f then Some Plus else if g then Some Equal else if h then Some Comma else None) Word) ≡ false
sign_kind true b c d e f g h p = refl
sign_kind false true c d e f g h p = refl
sign_kind false false true d e f g h p = refl
sign_kind false false false true e f g h p = refl
sign_kind false false false false true f g h p = refl
sign_kind false false false false false true g h p = refl
sign_kind false false false false false false true h p = refl
sign_kind false false false false false false false true p = refl
sign_kind false false false false false false false false p = absurd (grind (arith, p))

word_kind : (found : Option TokenKind) → is_some found ≡ false → is_wordy (unwrap_or found Word) ≡ true
word_kind None p = refl
word_kind (Some kind) p = absurd (grind (arith, p))

-- the token of a text that is not a number, by its first byte
plain : (quote blank unequal sign forbidden closed rest : Bool) (kind : TokenKind) (quoted size others : ℕ)
    → (quote ≡ false → closed ≡ true) → (sign ≡ true → is_wordy kind ≡ false) → (sign ≡ false → is_wordy kind ≡ true)
    → (nat_eq (if quote then quoted else if unequal then 2 else if sign then 1 else (if not (blank || quote || sign || unequal) then 1 + size else 0)) (suc others)
    && (is_wordy (if quote then Quoted else if unequal then Unequal else kind) && (not (is_some (if forbidden then Some L02 else if not closed then Some L03 else None)) && rest)))
    ≡ (nat_eq (if not (blank || quote || sign || unequal) then 1 + size else 0) (suc others) && (not forbidden && rest))
plain true true unequal sign forbidden closed rest kind quoted size others c s w = both_false (nat_eq quoted (suc others)) others (not forbidden && rest)
plain true false unequal sign forbidden closed rest kind quoted size others c s w = both_false (nat_eq quoted (suc others)) others (not forbidden && rest)
plain false true true sign forbidden closed rest kind quoted size others c s w = both_false (nat_eq 2 (suc others)) others (not forbidden && rest)
plain false false true true forbidden closed rest kind quoted size others c s w = both_false (nat_eq 2 (suc others)) others (not forbidden && rest)
plain false false true false forbidden closed rest kind quoted size others c s w = both_false (nat_eq 2 (suc others)) others (not forbidden && rest)
plain false true false true forbidden closed rest kind quoted size others c s w = rw (s refl) (both_false (nat_eq 1 (suc others)) others (not forbidden && rest))
plain false false false true forbidden closed rest kind quoted size others c s w = rw (s refl) (both_false (nat_eq 1 (suc others)) others (not forbidden && rest))
plain false true false false forbidden closed rest kind quoted size others c s w =
    ap (λ (b : Bool). b && (is_wordy kind && (not (is_some (if forbidden then Some L02 else if not closed then Some L03 else None)) && rest))) (none_apart others)
    ∙ sym (ap (λ (b : Bool). b && (not forbidden && rest)) (none_apart others))
plain false false false false true closed rest kind quoted size others c s w = rw (w refl) refl
plain false false false false false closed rest kind quoted size others c s w = rw (w refl) (rw (c refl) refl)

-- the token of a number, which contains no quote
numeric : (same forbidden closed rest : Bool) (fault : Option Code) → closed ≡ true
    → (same && (true && (not (is_some (if forbidden then Some L02 else if not closed then Some L03 else fault)) && rest))) ≡ ((same && not (is_some fault)) && (not forbidden && rest))
numeric false forbidden closed rest fault c = refl
numeric true true closed rest None c = refl
numeric true true closed rest (Some code) c = refl
numeric true false closed rest fault c = rw c refl

two_by : (w l : ℕ) (same : Bool) → nat_eq w l ≡ same → nat_eq (2 + w) (suc (suc l)) ≡ same
two_by w l true e = grind (arith, nat_tests)
two_by w l false e = grind (arith, nat_tests)

two_more : (w l : ℕ) → nat_eq (2 + w) (suc (suc l)) ≡ nat_eq w l
two_more w l = two_by w l (nat_eq w l) refl

closed_number : (a b c : ℕ) (bytes : List ℕ) → starts_number (a ∷ b ∷ c ∷ bytes) ≡ true → is_closed (a ∷ b ∷ c ∷ bytes) ≡ true
closed_number a b c bytes e =
    let apart : is_quote a ≡ false = grind (arith, nat_tests) in
    rw apart refl

by_number : (byte : ℕ) (bytes : List ℕ) (number : Bool) → starts_number (byte ∷ bytes) ≡ number
    → is_source_name (byte ∷ bytes) ≡ (is_token (byte ∷ bytes) && (not (has_forbidden (byte ∷ bytes)) && (is_name (byte ∷ bytes) && list_all is_inner (byte ∷ bytes))))
unfolding token_size token_kind token_fault in_word
by_number byte bytes false e =
    rw e
    (plain (is_quote byte) (is_blank byte) (is_unequal byte (first_or_end bytes)) (is_some (single byte)) (has_forbidden (byte ∷ bytes)) (is_closed (byte ∷ bytes))
    (is_name (byte ∷ bytes) && list_all is_inner (byte ∷ bytes)) (unwrap_or (single byte) Word) (1 + quoted_size byte bytes) (word_size bytes) (length bytes)
    (λ q. rw q refl)
    (sign_kind (byte == 40) (byte == 41) (byte == 91) (byte == 93) (byte == 62) (byte == 43) (byte == 61) (byte == 44))
    (word_kind (single byte)))
by_number byte [] true e = absurd (grind (arith, e))
by_number byte (next ∷ []) true e = absurd (grind (arith, e))
by_number byte (next ∷ digit ∷ bytes) true e =
    let text : List ℕ = byte ∷ next ∷ digit ∷ bytes in
    let is_closed_text : is_closed text ≡ true = closed_number byte next digit bytes e in
    rw e
    (ap (λ (b : Bool). b && (true && (not (is_some (if has_forbidden text then Some L02 else if not (is_closed text) then Some L03 else digits_fault (digit ∷ bytes))) && (is_name text && list_all is_inner text))))
    (two_more (word_size (digit ∷ bytes)) (length (digit ∷ bytes)))
    ∙ numeric (nat_eq (word_size (digit ∷ bytes)) (length (digit ∷ bytes))) (has_forbidden text) (is_closed text) (is_name text && list_all is_inner text)
    (digits_fault (digit ∷ bytes)) is_closed_text)

-- a text is a source name exactly where it is one token without U+0000 and U+FFFF, in one line
pub source_name : (text : List ℕ) → is_source_name text ≡ is_one_name text
unfolding token_size token_kind token_fault in_word is_one_name
source_name [] = refl
source_name (byte ∷ bytes) = by_number byte bytes (starts_number (byte ∷ bytes)) refl
