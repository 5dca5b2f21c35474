-- The bytes of a character that is not a space.
use Rattle.std.proofs.Common.{◌≡◌, ℕ, ◌<◌, Bool, true, false, List, [], length, get_or, refl, sym, arith, append-nil}
use Rattle.std.specs.Prelude.{nat_eq, All}
use Rattle.std.specs.Char.{encode_utf8}
use Rattle.std.proofs.lemmas.Bool.Decides.{nat_tests}
use Rattle.std.proofs.lemmas.List.{get_or_default}
use Rattle.std.proofs.lemmas.Str.{inside_one}

-- no byte of a text is a space
abbrev pub HasNoSpace : List ℕ → Type 0
HasNoSpace text = All (λ byte. nat_eq 32 byte ≡ false) text

-- if a character is not a space, none of its bytes is a space
pub bytes_of : (c : ℕ) → nat_eq c 32 ≡ false → HasNoSpace (encode_utf8 c)
bytes_of c other = λ k d below. differ k d below (nat_eq 32 (get_or (encode_utf8 c) k d)) refl
  where
    differ : (k d : ℕ) → k < length (encode_utf8 c) → (same : Bool) → nat_eq 32 (get_or (encode_utf8 c) k d) ≡ same → same ≡ false
    differ k d below false e = refl
    differ k d below true e =
        let byte : get_or (encode_utf8 c) k 0 ≡ get_or (encode_utf8 c) k d = get_or_default (encode_utf8 c) k 0 d below in
        let space : 32 ≡ get_or (encode_utf8 c) k d = grind (arith, nat_tests) in
        let is : c ≡ get_or (encode_utf8 c) k 0 = inside_one c [] (encode_utf8 c) k (sym (append-nil (encode_utf8 c))) below (omega arith) in
        let same : c ≡ 32 = omega arith in
        absurd (grind (arith, nat_tests))
