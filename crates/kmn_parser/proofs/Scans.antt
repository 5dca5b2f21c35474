-- Tokenizing a printed line returns its tokens.
use Rattle.std.proofs.Common.{◌≡◌, ℕ, zero, suc, ◌+◌, ◌-◌, ◌≤◌, Bool, true, false, if◌then◌else◌, List, [], ◌∷◌, ◌++◌, length, take, drop, Option, None, Some, refl, sym, ◌∙◌, ap, arith}
use Rattle.std.proofs.lemmas.List.{drop-take}
use Rattle.std.proofs.Math.Seq.{take-append_seam, drop-append_seam}
use Rattle.std.proofs.lemmas.Bool.{cond-false}
use Rattle.std.specs.Option.{option_or}
use Rattle.kmn_base.specs.Bytes.{is_blank}
use Rattle.kmn_lines.specs.Bytes.{first_or_end}
use Rattle.kmn_lines.specs.Tokens.{token_kind, token_size, token_text, token_at, token_fault, scanned, first_fault}
use Rattle.kmn_lines.specs.declared.token.Token.{Token}
use Rattle.kmn_lines.proofs.TextSizes.{token_size-within}
use Rattle.kmn_lines.proofs.Numbered.{drop-next}
use Rattle.kmn_items.specs.TokenTexts.{LineToken, with_texts, with_text, text_of}
use Rattle.kmn_parser.specs.Printed.{printed}
use Rattle.kmn_parser.proofs.LineForms.{AreReadBack, IsReadBack, tokens_in}
use Rattle.kmn_tokens.proofs.Scans.{first_fault_skip}

-- a token by its text
abbrev token_of : List ℕ → LineToken
token_of text = record { kind = token_kind text; text = text }

-- the tokens of a text without their positions, if its first bytes belong to the previous token
abbrev lexed : ℕ → List ℕ → List LineToken
lexed n [] = []
lexed (suc n) (byte ∷ bytes) = lexed n bytes
lexed zero (byte ∷ bytes) =
    if is_blank byte then lexed zero bytes
    else token_of (token_text (byte ∷ bytes)) ∷ lexed (token_size (byte ∷ bytes) - 1) bytes

with_texts-if : (source : List ℕ) (b : Bool) (ts us : List Token) (xs ys : List LineToken) → with_texts source ts ≡ xs → with_texts source us ≡ ys → with_texts source (if b then ts else us) ≡ (if b then xs else ys)
with_texts-if source true ts us xs ys g h = g
with_texts-if source false ts us xs ys g h = h

-- the token of a text at a position of a source
placed-token : (source : List ℕ) (line at : ℕ) (text rest : List ℕ) → drop at source ≡ text ++ rest → with_text source (token_at line at text) ≡ token_of text
placed-token source line at text rest e =
    let same : text_of source (token_at line at text) ≡ text =
    drop-take at (length text) source ∙ ap (λ (xs : List ℕ). take (length text) xs) e ∙ take-append_seam text rest in
    ap (λ (xs : List ℕ). record { kind = token_kind text; text = xs }) same

take-split : (n : ℕ) (bytes rest : List ℕ) → n ≤ length bytes → bytes ++ rest ≡ take n bytes ++ (drop n bytes ++ rest)
take-split zero bytes rest h = refl
take-split (suc n) [] rest h = refl
take-split (suc n) (byte ∷ bytes) rest h = ap (λ (xs : List ℕ). byte ∷ xs) (take-split n bytes rest (omega arith))

with_texts-lexed : (source : List ℕ) (line n at : ℕ) (bytes rest : List ℕ) → drop at source ≡ bytes ++ rest → with_texts source (scanned line n at bytes) ≡ lexed n bytes
with_texts-lexed source line n at [] rest e = refl
with_texts-lexed source line (suc n) at (byte ∷ bytes) rest e =
    with_texts-lexed source line n (at + 1) bytes rest (drop-next at source byte (bytes ++ rest) e)
with_texts-lexed source line zero at (byte ∷ bytes) rest e =
    let next : drop (at + 1) source ≡ bytes ++ rest = drop-next at source byte (bytes ++ rest) e in
    let whole : List ℕ = byte ∷ bytes in
    let size : ℕ = token_size whole in
    let within : size ≤ suc (length bytes) = token_size-within whole (omega arith) in
    with_texts-if source (is_blank byte) _ _ _ _
    (with_texts-lexed source line zero (at + 1) bytes rest next)
    (ap (λ (t : LineToken). t ∷ with_texts source (scanned line (size - 1) (at + 1) bytes))
    (placed-token source line at (take size whole) (drop size whole ++ rest) (e ∙ take-split size whole rest within))
    ∙ ap (λ (ts : List LineToken). token_of (token_text whole) ∷ ts) (with_texts-lexed source line (size - 1) (at + 1) bytes rest next))

lexed-skip : (n : ℕ) (bytes : List ℕ) → lexed n bytes ≡ lexed 0 (drop n bytes)
lexed-skip zero [] = refl
lexed-skip (suc n) [] = refl
lexed-skip zero (byte ∷ bytes) = refl
lexed-skip (suc n) (byte ∷ bytes) = lexed-skip n bytes

lexed-token : (token : LineToken) (text rest : List ℕ) → token.text ≡ text → IsReadBack token rest → lexed 0 (text ++ rest) ≡ token ∷ lexed 0 rest
lexed-token token [] rest e back = let some = back.some in let none : length token.text ≡ 0 = ap length e in absurd (omega arith)
lexed-token token (byte ∷ bytes) rest e back =
    let whole : List ℕ = byte ∷ (bytes ++ rest) in
    let size : token_size whole ≡ suc (length bytes) = ap (λ (xs : List ℕ). token_size (xs ++ rest)) (sym e) ∙ back.size ∙ ap length e in
    let solid : is_blank byte ≡ false = ap (λ (xs : List ℕ). is_blank (first_or_end xs)) (sym e) ∙ back.solid in
    let less : token_size whole - 1 ≡ length bytes = omega (arith, size) in
    let here : token_text whole ≡ token.text = ap (λ (n : ℕ). take n whole) size ∙ take-append_seam (byte ∷ bytes) rest ∙ sym e in
    let is : token_of (token_text whole) ≡ token = ap token_of here ∙ ap (λ k. record { kind = k; text = token.text }) back.kind in
    cond-false (is_blank byte) _ _ solid
    ∙ ap (λ (t : LineToken). t ∷ lexed (token_size whole - 1) (bytes ++ rest)) is
    ∙ ap (λ (ts : List LineToken). token ∷ ts) (lexed-skip (token_size whole - 1) (bytes ++ rest) ∙ ap (λ (n : ℕ). lexed 0 (drop n (bytes ++ rest))) less ∙ ap (λ (xs : List ℕ). lexed 0 xs) (drop-append_seam bytes rest))

lexed-printed : (ps : List (Option LineToken)) → AreReadBack ps → lexed 0 (printed ps) ≡ tokens_in ps
lexed-printed [] back = refl
lexed-printed (None ∷ ps) back = lexed-printed ps back
lexed-printed (Some token ∷ ps) (here, back) = lexed-token token token.text (printed ps) refl here ∙ ap (λ (ts : List LineToken). token ∷ ts) (lexed-printed ps back)

fault-token : (token : LineToken) (text rest : List ℕ) → token.text ≡ text → IsReadBack token rest → first_fault 0 (text ++ rest) ≡ first_fault 0 rest
fault-token token [] rest e back = let some = back.some in let none : length token.text ≡ 0 = ap length e in absurd (omega arith)
fault-token token (byte ∷ bytes) rest e back =
    let whole : List ℕ = byte ∷ (bytes ++ rest) in
    let size : token_size whole ≡ suc (length bytes) = ap (λ (xs : List ℕ). token_size (xs ++ rest)) (sym e) ∙ back.size ∙ ap length e in
    let solid : is_blank byte ≡ false = ap (λ (xs : List ℕ). is_blank (first_or_end xs)) (sym e) ∙ back.solid in
    let less : token_size whole - 1 ≡ length bytes = omega (arith, size) in
    let here : token_text whole ≡ token.text = ap (λ (n : ℕ). take n whole) size ∙ take-append_seam (byte ∷ bytes) rest ∙ sym e in
    cond-false (is_blank byte) _ _ solid
    ∙ ap (λ f. option_or f (first_fault (token_size whole - 1) (bytes ++ rest))) (ap token_fault here ∙ back.sound)
    ∙ first_fault_skip (token_size whole - 1) (bytes ++ rest) ∙ ap (λ (n : ℕ). first_fault 0 (drop n (bytes ++ rest))) less ∙ ap (λ (xs : List ℕ). first_fault 0 xs) (drop-append_seam bytes rest)

fault-printed : (ps : List (Option LineToken)) → AreReadBack ps → first_fault 0 (printed ps) ≡ None
fault-printed [] back = refl
fault-printed (None ∷ ps) back = fault-printed ps back
fault-printed (Some token ∷ ps) (here, back) = fault-token token token.text (printed ps) refl here ∙ fault-printed ps back

-- the tokens of a line in a source are those that were written
pub tokens_read_back : (source : List ℕ) (line at : ℕ) (ps : List (Option LineToken)) (rest : List ℕ) → drop at source ≡ printed ps ++ rest → AreReadBack ps
    → (with_texts source (scanned line 0 at (printed ps)) ≡ tokens_in ps) × (first_fault 0 (printed ps) ≡ None)
tokens_read_back source line at ps rest e back = (with_texts-lexed source line 0 at (printed ps) rest e ∙ lexed-printed ps back, fault-printed ps back)
