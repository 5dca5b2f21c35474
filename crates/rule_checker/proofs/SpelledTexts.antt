-- The characters of a text, counted byte by byte.
use Rattle.std.proofs.Common.{◌≡◌, ℕ, zero, suc, ◌+◌, ◌-◌, ◌*◌, ◌<◌, ◌≤◌, List, [], ◌∷◌, length, drop, get_or, refl, sym, ap, ◌∙◌, arith}
use Rattle.std.specs.Str.{chars, chars_after, continuation_len, lead_bits}
use Rattle.std.proofs.lemmas.Bool.Decides.{nat_tests}
use Rattle.std.proofs.lemmas.List.{drop_all, drop_more}
use Rattle.rule_checker.specs.Counting.{capped, to_come, character_ends}

-- the number of characters that end in bytes, if `coming` bytes of a character are still expected
abbrev pub ending_in : ℕ → List ℕ → ℕ
ending_in coming [] = 0
ending_in coming (byte ∷ bytes) = character_ends (to_come coming byte) + ending_in (to_come coming byte) bytes

spelled_after : (coming c : ℕ) (bytes : List ℕ) → length (chars_after coming c bytes) ≡ character_ends coming + ending_in coming bytes
spelled_after zero c [] = refl
spelled_after zero c (b ∷ bytes) = omega (arith, spelled_after (continuation_len b) (lead_bits b) bytes)
spelled_after (suc n) c [] = let more : 0 ≡ character_ends (suc n) + 0 = grind (arith, nat_tests) in more
spelled_after (suc n) c (b ∷ bytes) =
    let next : to_come (suc n) b ≡ n = grind (arith, nat_tests) in
    let more : character_ends (suc n) ≡ 0 = grind (arith, nat_tests) in
    let from : character_ends n + ending_in n bytes ≡ 0 + (character_ends n + ending_in n bytes) = omega arith in
    spelled_after n (c * 64 + (b - 128)) bytes ∙ from
    ∙ (λ j. sym more j + (character_ends (sym next j) + ending_in (sym next j) bytes))

-- the number of characters of a text is the number that end in its bytes
pub spelled_all : (text : List ℕ) → length (chars text) ≡ ending_in 0 text
unfolding chars
spelled_all [] = refl
spelled_all (b ∷ bytes) = spelled_after (continuation_len b) (lead_bits b) bytes

-- the count from an index on is the count of its byte and the count from the next index on
pub spelled_next : (coming i byte : ℕ) (text : List ℕ) → i < length text → byte ≡ get_or text i byte
    → ending_in coming (drop i text) ≡ character_ends (to_come coming byte) + ending_in (to_come coming byte) (drop (i + 1) text)
spelled_next coming i byte text h e = ap (ending_in coming) (drop_more text i byte h ∙ ap (λ b. b ∷ drop (i + 1) text) (sym e))

-- after the last byte the count is the number of characters of the text
pub spelled_through : (count coming i : ℕ) (text : List ℕ) → count ≤ 0xFFFF_FFFF → length text ≤ i
    → capped (count + ending_in coming (drop i text)) ≡ capped (ending_in 0 text) → count ≡ capped (length (chars text))
spelled_through count coming i text fits past is =
    let none : drop i text ≡ [] = drop_all i text past in
    let small : count ≡ capped (count + 0) = omega arith in
    small ∙ ap (λ bytes. capped (count + ending_in coming bytes)) (sym none) ∙ is ∙ ap capped (sym (spelled_all text))
