-- Texts without U+0000 and U+FFFF, and the number of characters of a text.
use Rattle.std.proofs.Common.{◌≡◌, ◌≢◌, ℕ, zero, suc, ◌+◌, ◌/◌, ◌%◌, ◌==◌, ◌<◌, ◌≤◌, Bool, true, false, ◌||◌, cond, nat_lt, nat_le, List, [], ◌∷◌, ◌++◌, length, take, drop, refl, sym, ◌∙◌, ap, subst, arith}
use Rattle.std.specs.Prelude.{All, IsUtf8, chars}
use Rattle.std.specs.List.{starts_with}
use Rattle.std.proofs.lemmas.Bool.{and_parts, or_parts, or_from, and_right}
use Rattle.std.proofs.lemmas.Bool.Decides.{nat_tests}
use Rattle.std.proofs.lemmas.List.Elements.{All-cons, All-nil}
use Rattle.std.proofs.lemmas.List.Sums.{sum_by-append}
use Rattle.std.proofs.lemmas.Str.{encodes-chars, scalars-chars}
use lib.Utf8.{scalar, scalars, encode, encodes}
use Rattle.kmn_lines.specs.Tokens.{begins_forbidden, has_forbidden}
use Rattle.kmn_base.specs.Texts.{character_count}
use Rattle.kmn_parser.specs.ProgramLaws.{IsCharacter}

-- the bytes of U+FFFF
abbrev last_bytes : List ℕ
last_bytes = 0xEF ∷ 0xBF ∷ 0xBF ∷ []

abbrev begins_last : List ℕ → Bool
begins_last bytes = starts_with (λ a b. a == b) bytes last_bytes

begins_last-take : (n : ℕ) (bytes : List ℕ) → begins_last bytes ≡ false → begins_last (take n bytes) ≡ false
begins_last-take zero bytes e = refl
begins_last-take (suc n) [] e = e
begins_last-take (suc zero) (a ∷ bytes) e = and_right (0xEF == a) false refl
begins_last-take (suc (suc n)) (a ∷ []) e = e
begins_last-take (suc (suc zero)) (a ∷ b ∷ bytes) e = and_right (0xEF == a) _ (and_right (0xBF == b) false refl)
begins_last-take (suc (suc (suc n))) (a ∷ b ∷ []) e = e
begins_last-take (suc (suc (suc n))) (a ∷ b ∷ c ∷ bytes) e = e

-- a part of a clean text is clean
pub clean-take : (n : ℕ) (bytes : List ℕ) → has_forbidden bytes ≡ false → has_forbidden (take n bytes) ≡ false
unfolding begins_forbidden
clean-take zero bytes clean = refl
clean-take (suc n) [] clean = refl
clean-take (suc n) (byte ∷ bytes) clean =
    let both = or_parts _ _ clean in
    let here = or_parts _ _ both.0 in
    or_from _ _ (or_from _ _ here.0 (begins_last-take (suc n) (byte ∷ bytes) here.1)) (clean-take n bytes both.1)

pub clean-drop : (n : ℕ) (bytes : List ℕ) → has_forbidden bytes ≡ false → has_forbidden (drop n bytes) ≡ false
clean-drop zero bytes clean = clean
clean-drop (suc n) [] clean = refl
clean-drop (suc n) (byte ∷ bytes) clean = clean-drop n bytes (or_parts _ _ clean).1

clean-behind : (first bytes : List ℕ) → has_forbidden (first ++ bytes) ≡ false → has_forbidden bytes ≡ false
clean-behind [] bytes clean = clean
clean-behind (byte ∷ first) bytes clean = clean-behind first bytes (or_parts _ _ clean).1

first-unclean : (bytes : List ℕ) → has_forbidden (encode 0 ++ bytes) ≡ true
unfolding encode begins_forbidden
first-unclean bytes = refl

last-unclean : (bytes : List ℕ) → has_forbidden (encode 0xFFFF ++ bytes) ≡ true
unfolding encode begins_forbidden
last-unclean bytes = refl

clean-other : (c wrong : ℕ) (bytes : List ℕ) → has_forbidden (encode wrong ++ bytes) ≡ true → has_forbidden (encode c ++ bytes) ≡ false → c ≢ wrong
clean-other c wrong bytes unclean clean e =
    let same : has_forbidden (encode wrong ++ bytes) ≡ false = subst (λ (n : ℕ). has_forbidden (encode n ++ bytes) ≡ false) e clean in
    let clash : true ≡ false = sym unclean ∙ same in
    absurd (cc)

clean_encoded : (cs : List ℕ) → scalars cs ≡ true → has_forbidden (encodes cs) ≡ false → All IsCharacter cs
clean_encoded [] valid clean = All-nil IsCharacter
clean_encoded (c ∷ cs) valid clean =
    let both = and_parts (scalar c) (scalars cs) valid in
    All-cons IsCharacter c cs
    (record {
      valid = both.0;
      not_first = clean-other c 0 (encodes cs) (first-unclean (encodes cs)) clean;
      not_last = clean-other c 0xFFFF (encodes cs) (last-unclean (encodes cs)) clean;
    })
    (clean_encoded cs both.1 (clean-behind (encode c) (encodes cs) clean))

-- a clean text in UTF-8 has only characters of a keyboard
pub clean-characters : (bytes : List ℕ) → IsUtf8 bytes → has_forbidden bytes ≡ false → All IsCharacter (chars bytes)
clean-characters bytes utf8 clean =
    clean_encoded (chars bytes) (scalars-chars bytes utf8) (subst (λ (text : List ℕ). has_forbidden text ≡ false) (sym (encodes-chars bytes utf8)) clean)

abbrev begins_character : ℕ → Bool
begins_character b = nat_lt b 128 || nat_le 192 b

abbrev one_at : ℕ → ℕ
one_at b = cond (begins_character b) 1 0

at_first : (b : ℕ) → 192 ≤ b → one_at b ≡ 1
at_first b le = grind (arith, nat_tests)

at_ascii : (b : ℕ) → b < 128 → one_at b ≡ 1
at_ascii b lt = grind (arith, nat_tests)

at_next : (b : ℕ) → one_at (128 + b % 64) ≡ 0
at_next b = let lt : b % 64 < 64 = omega arith in grind (arith, nat_tests)

count_either : (test : Bool) (first second : List ℕ) → (test ≡ true → character_count first ≡ 1) → character_count second ≡ 1 → character_count (cond test first second) ≡ 1
count_either true first second one other = one refl
count_either false first second one other = other

one_encoded : (c : ℕ) → character_count (encode c) ≡ 1
unfolding encode
one_encoded c =
    let a = at_first (192 + c / 64) (omega arith) in
    let b = at_first (224 + c / 4096) (omega arith) in
    let d = at_first (240 + c / 262144) (omega arith) in
    let e = at_next c in
    let f = at_next (c / 64) in
    let g = at_next (c / 4096) in
    count_either (nat_lt c 128) _ _ (λ h. let i = at_ascii c (grind (arith, nat_tests)) in omega arith)
    (count_either (nat_lt c 2048) _ _ (λ h. omega arith)
    (count_either (nat_lt c 65536) _ _ (λ h. omega arith) (omega arith)))

count_encoded : (cs : List ℕ) → character_count (encodes cs) ≡ length cs
count_encoded [] = refl
count_encoded (c ∷ cs) =
    let rest = count_encoded cs in
    let one = one_encoded c in
    sum_by-append one_at (encode c) (encodes cs) ∙ omega arith

-- a text in UTF-8 has as many characters as it has bytes that begin one
pub counted-characters : (bytes : List ℕ) → IsUtf8 bytes → character_count bytes ≡ length (chars bytes)
counted-characters bytes utf8 = ap character_count (sym (encodes-chars bytes utf8)) ∙ count_encoded (chars bytes)
