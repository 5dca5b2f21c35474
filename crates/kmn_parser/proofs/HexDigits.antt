-- Four hexadecimal digits are the digits of a formatted number.
use Rattle.std.proofs.Common.{◌≡◌, ℕ, ◌/◌, ◌<◌, ◌≤◌, ◌==◌, true, ◌∙◌, arith}
use Rattle.std.specs.Fmt.{digits}
use Rattle.std.proofs.lemmas.Bool.{ne_eqb, eq-eqb, cond-true, cond-false}
use Rattle.kmn_parser.specs.Texts.{hex_text}

pub four_digits : (n : ℕ) → 0x1000 ≤ n → n < 0x1_0000 → digits 16 true n ≡ hex_text 4 n
unfolding digits
four_digits n low high =
    cond-false (n / 16 == 0) _ _ (ne_eqb (n / 16) 0 (omega arith))
    ∙ cond-false (n / 16 / 16 == 0) _ _ (ne_eqb (n / 16 / 16) 0 (omega arith))
    ∙ cond-false (n / 16 / 16 / 16 == 0) _ _ (ne_eqb (n / 16 / 16 / 16) 0 (omega arith))
    ∙ cond-true (n / 16 / 16 / 16 / 16 == 0) _ _ (eq-eqb (n / 16 / 16 / 16 / 16) 0 (omega arith))
