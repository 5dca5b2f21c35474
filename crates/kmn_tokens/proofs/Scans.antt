-- One step of a scan: the token at the beginning of the bytes, and the rest after it.
use Rattle.std.proofs.Common.{◌≡◌, ℕ, zero, suc, ◌+◌, ◌-◌, ◌<◌, ◌≤◌, Bool, true, false, ◌||◌, if◌then◌else◌, List, [], ◌∷◌, ◌++◌, length, take, drop, get_or, Option, None, is_some, Ok, refl, sym, ◌∙◌, ap, subst, arith, append_assoc}
use Rattle.std.proofs.lemmas.Bool.{cond-false, or_left}
use Rattle.std.specs.Option.{option_or}
use Rattle.kmn_base.specs.declared.codes.Code.{Code}
use Rattle.kmn_base.specs.Bytes.{is_blank, is_quote}
use Rattle.kmn_base.proofs.Elements.{drop-next}
use Rattle.kmn_lines.specs.Bytes.{first_or_end}
use Rattle.kmn_lines.specs.Tokens.{single, is_unequal, in_word, word_size, token_size, token_fault, token_at, scanned, first_fault, begins_forbidden, has_forbidden}
use Rattle.kmn_lines.specs.declared.token.Token.{Token}
use Rattle.kmn_lines.proofs.TextSizes.{none_of}
use Rattle.kmn_tokens.specs.Scanning.{Steps}

some-if : (b : Bool) (n m : ℕ) → b ≡ true → 0 < n → 0 < (if b then n else m)
some-if true n m e h = h
some-if false n m e h = cc

-- a byte that is not a blank, a quote or a token by itself begins a word
pub word_some : (text : List ℕ) → 0 < length text → is_blank (first_or_end text) ≡ false → is_quote (first_or_end text) ≡ false → is_unequal (first_or_end text) (first_or_end (drop 1 text)) ≡ false → is_some (single (first_or_end text)) ≡ false → 0 < word_size text
unfolding in_word
word_some [] some blank quote unequal alone = omega arith
word_some (byte ∷ bytes) some blank quote unequal alone =
    some-if (in_word byte (first_or_end bytes)) _ _ (none_of (is_blank byte) (is_quote byte) (is_some (single byte)) (is_unequal byte (first_or_end bytes)) blank quote alone unequal) (omega arith)

-- the bytes of the previous token are skipped
pub scanned_skip : (line n at : ℕ) (bytes : List ℕ) → scanned line n at bytes ≡ scanned line 0 (at + n) (drop n bytes)
scanned_skip line zero at bytes = ap (λ (k : ℕ). scanned line 0 k bytes) (omega arith)
scanned_skip line (suc n) at [] = refl
scanned_skip line (suc n) at (byte ∷ bytes) = scanned_skip line n (at + 1) bytes ∙ ap (λ (k : ℕ). scanned line 0 k (drop n bytes)) (omega arith)

pub first_fault_skip : (n : ℕ) (bytes : List ℕ) → first_fault n bytes ≡ first_fault 0 (drop n bytes)
first_fault_skip zero bytes = refl
first_fault_skip (suc n) [] = refl
first_fault_skip (suc n) (byte ∷ bytes) = first_fault_skip n bytes

drop_behind : (byte : ℕ) (bytes : List ℕ) (size : ℕ) → 0 < size → drop (size - 1) bytes ≡ drop size (byte ∷ bytes)
drop_behind byte bytes zero h = absurd (omega arith)
drop_behind byte bytes (suc n) h = ap (λ (k : ℕ). drop k bytes) (omega arith)

-- the token at the beginning of the bytes is followed by the tokens of the bytes after it
pub scanned_step : (line at byte : ℕ) (bytes : List ℕ) (size : ℕ) → is_blank byte ≡ false → size ≡ token_size (byte ∷ bytes) → 0 < size → scanned line 0 at (byte ∷ bytes) ≡ token_at line at (take size (byte ∷ bytes)) ∷ scanned line 0 (at + size) (drop size (byte ∷ bytes))
scanned_step line at byte bytes size blank e some =
    let rest : scanned line (size - 1) (at + 1) bytes ≡ scanned line 0 (at + size) (drop size (byte ∷ bytes)) =
    scanned_skip line (size - 1) (at + 1) bytes
    ∙ ap (λ (k : ℕ). scanned line 0 k (drop (size - 1) bytes)) (omega arith)
    ∙ ap (λ (bs : List ℕ). scanned line 0 (at + size) bs) (drop_behind byte bytes size some) in
    cond-false (is_blank byte) _ _ blank
    ∙ subst (λ (n : ℕ). token_at line at (take n (byte ∷ bytes)) ∷ scanned line (n - 1) (at + 1) bytes ≡ token_at line at (take size (byte ∷ bytes)) ∷ scanned line 0 (at + size) (drop size (byte ∷ bytes))) e
    (ap (λ (ts : List Token). token_at line at (take size (byte ∷ bytes)) ∷ ts) rest)

-- the first fault is the fault of the token at the beginning of the bytes, else the first fault of the bytes after it
pub first_fault_step : (byte : ℕ) (bytes : List ℕ) (size : ℕ) → is_blank byte ≡ false → size ≡ token_size (byte ∷ bytes) → 0 < size → first_fault 0 (byte ∷ bytes) ≡ option_or (token_fault (take size (byte ∷ bytes))) (first_fault 0 (drop size (byte ∷ bytes)))
first_fault_step byte bytes size blank e some =
    let rest : first_fault (size - 1) bytes ≡ first_fault 0 (drop size (byte ∷ bytes)) =
    first_fault_skip (size - 1) bytes ∙ ap (λ (bs : List ℕ). first_fault 0 bs) (drop_behind byte bytes size some) in
    cond-false (is_blank byte) _ _ blank
    ∙ subst (λ (n : ℕ). option_or (token_fault (take n (byte ∷ bytes))) (first_fault (n - 1) bytes) ≡ option_or (token_fault (take size (byte ∷ bytes))) (first_fault 0 (drop size (byte ∷ bytes)))) e
    (ap (λ (f : Option Code). option_or (token_fault (take size (byte ∷ bytes))) f) rest)

-- a step over a token without a fault
pub step_on : (old new : List Token) (line at : ℕ) (bytes text : List ℕ) (size : ℕ) (token : Token) → 0 < length bytes → is_blank (get_or bytes 0 0) ≡ false → size ≡ token_size bytes → size ≤ length bytes → 0 < size → text ≡ take size bytes → token_fault text ≡ None → token ≡ token_at line at text → new ≡ old ++ token ∷ [] → Steps old new line at bytes (Ok size)
step_on old new line at [] text size token long blank e within some f none g h = absurd (omega arith)
step_on old new line at (byte ∷ bytes) text size token long blank e within some f none g h =
    let here : token ≡ token_at line at (take size (byte ∷ bytes)) = g ∙ ap (λ (xs : List ℕ). token_at line at xs) f in
    let rest : List Token = scanned line 0 (at + size) (drop size (byte ∷ bytes)) in
    let tokens : token ∷ rest ≡ scanned line 0 at (byte ∷ bytes) = ap (λ (t : Token). t ∷ rest) here ∙ sym (scanned_step line at byte bytes size blank e some) in
    let fine : token_fault (take size (byte ∷ bytes)) ≡ None = ap token_fault (sym f) ∙ none in (
      some,
      within,
      ap (λ (ts : List Token). ts ++ rest) h ∙ append_assoc old (token ∷ []) rest ∙ ap (λ (ts : List Token). old ++ ts) tokens,
      sym (first_fault_step byte bytes size blank e some ∙ ap (λ (f : Option Code). option_or f (first_fault 0 (drop size (byte ∷ bytes)))) fine),
    )

pub first_is : (text : List ℕ) → 0 < length text → get_or text 0 0 ≡ first_or_end text
first_is [] h = absurd (omega arith)
first_is (byte ∷ bytes) h = refl

either-false : (a b : Bool) → a ≡ false → (a || b) ≡ b
either-false true b e = cc
either-false false b e = refl

-- a forbidden character at a position
pub forbidden_here : (text : List ℕ) (at : ℕ) → at < length text → begins_forbidden (drop at text) ≡ true → has_forbidden (drop at text) ≡ true
forbidden_here text at h e =
    let cons = drop-next text at 0 h in
    ap has_forbidden cons ∙ or_left (begins_forbidden (get_or text at 0 ∷ drop (at + 1) text)) (has_forbidden (drop (at + 1) text)) (ap begins_forbidden (sym cons) ∙ e)

-- a position without a forbidden character
pub forbidden_step : (text : List ℕ) (at : ℕ) → at < length text → begins_forbidden (drop at text) ≡ false → has_forbidden (drop (at + 1) text) ≡ has_forbidden (drop at text)
forbidden_step text at h e =
    let cons = drop-next text at 0 h in
    sym (ap has_forbidden cons ∙ either-false (begins_forbidden (get_or text at 0 ∷ drop (at + 1) text)) (has_forbidden (drop (at + 1) text)) (ap begins_forbidden (sym cons) ∙ e))
