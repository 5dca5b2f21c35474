-- The source of a load is the text of its program, which a text can express.
use Rattle.std.proofs.Common.{◌≡◌, ℕ, zero, suc, ◌+◌, ◌-◌, ◌*◌, ◌<◌, ◌≤◌, true, List, [], ◌∷◌, ◌++◌, length, map, codes, refl, ap, sym, ◌∙◌, subst, append_assoc, append-nil, length-append, lit≤, arith}
use Rattle.std.specs.Fmt.{digits}
use Rattle.std.proofs.Math.Utf8.{low_scalar}
use Rattle.kmn_base.specs.declared.limits.TheConstants.{TEXT_BYTES}
use Rattle.kmn_lines.specs.Tokens.{token_size, token_kind, token_fault, in_word, begins_forbidden}
use Rattle.kmn_parser.specs.ProgramLaws.{IsCharacter}
use Rattle.kmn_parser.specs.Printed.{printed, rows}
use Rattle.kmn_parser.specs.Programs.{program_text, rule_line}
use Rattle.kmn_parser.specs.Spelled.{AreSpelledRules, IsSpelled, IsSpelledName}
use Rattle.kmn_parser.specs.Texts.{hex_text}
use Rattle.kmn_parser.proofs.ChainRules.{first_rule_spelled, chain_rule_spelled, first_rule_text, chain_rule_text}
use Rattle.kmn_parser.proofs.HexDigits.{four_digits}
use Rattle.kmn_parser.proofs.Utf8Texts.{ascii}
use Rattle.load_maker.specs.Loads.{hexadecimal, first_lines, rule_lines, load_source, rule_line as source_line}
use Rattle.load_maker.specs.Programs.{load_program, rule_def, rule_defs}

-- the lines of rules from one on
abbrev lines_from : ℕ → ℕ → List ℕ
lines_from i count = rows (map printed (map rule_line (rule_defs i count)))

-- a line of parts, with a line feed and what follows
regrouped : (first a between b rest : List ℕ) → (first ++ (a ++ (between ++ b))) ++ (10 ∷ rest) ≡ ((((first ++ a) ++ between) ++ b) ++ 10 ∷ []) ++ rest
regrouped first a between b rest = simp append_assoc

line_is : (i : ℕ) (rest : List ℕ) → i < 2000 → printed (rule_line (rule_def (suc i))) ++ (10 ∷ rest) ≡ source_line (suc i) ++ rest
line_is i rest less =
    let before : 0x4E00 + i ≡ 0x4E00 + suc i - 1 = omega arith in
    ap (λ (text : List ℕ). text ++ (10 ∷ rest)) (chain_rule_text (i + 4) (0x4E00 + i) (0x4E00 + suc i) (omega arith) (omega arith) (omega arith) (omega arith))
    ∙ regrouped (codes "U+") (hexadecimal (0x4E00 + i)) (codes " + [K_A] > U+") (hexadecimal (0x4E00 + suc i)) rest
    ∙ ap (λ (c : ℕ). (codes "U+" ++ hexadecimal c ++ codes " + [K_A] > U+" ++ hexadecimal (0x4E00 + suc i) ++ codes "\n") ++ rest) before

-- the lines of the first rules, followed by the lines of the rules from there on, are the lines of all rules
lines_are : (i count n : ℕ) → i + count ≡ n → n ≤ 2000 → rule_lines i ++ lines_from (suc i) count ≡ rule_lines n
lines_are i zero n all within = let same : i ≡ n = omega arith in append-nil (rule_lines i) ∙ ap rule_lines same
lines_are i (suc count) n all within =
    ap (λ (text : List ℕ). rule_lines i ++ text) (line_is i (lines_from (suc (suc i)) count) (omega arith))
    ∙ sym (append_assoc (rule_lines i) (source_line (suc i)) (lines_from (suc (suc i)) count))
    ∙ lines_are (suc i) count n (omega arith) within

-- the begin statement and the group, with what follows
abbrev behind_group : List ℕ → List ℕ
behind_group rest = codes "begin Unicode > use(main)\n" ++ (codes "group(main) using keys\n" ++ rest)

pub text_is : (n : ℕ) → n ≤ 2000 → program_text (load_program n) ≡ load_source n
unfolding program_text digits
text_is n within =
    let all : 0 + n ≡ n = omega arith in
    ap (λ lines. behind_group (printed (rule_line (rule_def 0)) ++ (10 ∷ rows (map printed lines)))) (append-nil (map rule_line (rule_defs 1 n)))
    ∙ ap (λ (text : List ℕ). behind_group (text ++ (10 ∷ lines_from 1 n))) (first_rule_text 3 0x4E00 (lit≤ tt) (omega arith))
    ∙ ap (λ (text : List ℕ). first_lines ++ text) (lines_are 0 n n all within)

-- the source is short
line_length : (i : ℕ) → i < 2000 → length (source_line (suc i)) ≡ 24
line_length i less =
    let one : hexadecimal (0x4E00 + suc i - 1) ≡ hex_text 4 (0x4E00 + suc i - 1) = four_digits (0x4E00 + suc i - 1) (omega arith) (omega arith) in
    let two : hexadecimal (0x4E00 + suc i) ≡ hex_text 4 (0x4E00 + suc i) = four_digits (0x4E00 + suc i) (omega arith) (omega arith) in
    λ j. length (codes "U+" ++ one j ++ codes " + [K_A] > U+" ++ two j ++ codes "\n")

lines_length : (n : ℕ) → n ≤ 2000 → length (rule_lines n) ≡ 24 * n
lines_length zero within = refl
lines_length (suc n) within = omega (arith, length-append (rule_lines n) (source_line (suc n)), line_length n (omega arith), lines_length n (omega arith))

source_short : (n : ℕ) → n ≤ 2000 → length (load_source n) ≤ TEXT_BYTES
source_short n within = omega (arith, length-append first_lines (rule_lines n), lines_length n within)

-- the characters of the rules
is_character : (c : ℕ) → 0x4E00 ≤ c → c < 0x6000 → IsCharacter c
is_character c low high = record { valid = low_scalar c (omega arith); not_first = omega arith; not_last = omega arith }

main_spelled : IsSpelledName (codes "main")
unfolding token_size token_kind token_fault in_word begins_forbidden
main_spelled = record { utf8 = ascii (codes "main") refl; read = refl }

rules_spelled : (i count line : ℕ) → i + 4 ≡ line → i + count ≤ 2000 → AreSpelledRules true line (rule_defs (suc i) count)
rules_spelled i zero line is within = tt
rules_spelled i (suc count) line is within = (
  is,
  chain_rule_spelled (i + 4) (0x4E00 + i) (0x4E00 + suc i) (is_character (0x4E00 + i) (omega arith) (omega arith)) (is_character (0x4E00 + suc i) (omega arith) (omega arith)),
  rules_spelled (suc i) count (line + 1) (omega arith) (omega arith),
)

-- a text can express the program
pub program_spelled : (n : ℕ) → n ≤ 2000 → IsSpelled (load_program n)
program_spelled n within = record {
  stores = tt;
  begins = (refl, main_spelled, tt);
  groups = (refl, main_spelled, (refl, first_rule_spelled 3 0x4E00 (is_character 0x4E00 (lit≤ tt) (omega arith)), rules_spelled 0 n 4 refl (omega arith)), tt);
  short = subst (λ (text : List ℕ). length text ≤ TEXT_BYTES) (sym (text_is n within)) (source_short n within);
}
