-- Rules that turn one character into the next by a key: their texts, and that a text can express them.
use Rattle.std.proofs.Common.{◌≡◌, ℕ, ◌<◌, ◌≤◌, true, List, [], ◌∷◌, ◌++◌, Some, refl, sym, ◌∙◌, ap, arith}
use Rattle.std.specs.Prelude.{codes, nat_lt}
use Rattle.std.specs.Fmt.{digits}
use Rattle.std.proofs.lemmas.Bool.{lt-ltb, cond-true}
use Rattle.std.proofs.lemmas.List.{append-nil}
use Rattle.virtual_keys.specs.Keys.{key_codes, shift_flags}
use Rattle.rule_model.specs.declared.program.KeyName.{KeyName}
use Rattle.rule_model.specs.declared.program.SrcItem.TheVariants as source
use Rattle.rule_model.specs.declared.program.RuleKind.TheVariants.{Plain}
use Rattle.rule_model.specs.declared.program.RuleDef.{RuleDef}
use Rattle.kmn_parser.specs.ProgramLaws.{IsCharacter}
use Rattle.kmn_parser.specs.Printed.{printed}
use Rattle.kmn_parser.specs.Texts.{char_text, hex_text}
use Rattle.kmn_parser.specs.Programs.{rule_line}
use Rattle.kmn_parser.specs.Spelled.{IsSpelledKey, IsSpelledRule}
use Rattle.kmn_parser.proofs.HexDigits.{four_digits}

-- the key K_A
abbrev pub key_a : KeyName
key_a = record { flags = 0x4000; code = 65; name = [] }

pub key_a_spelled : IsSpelledKey key_a
unfolding key_codes
key_a_spelled = record { virtual = refl; flags = refl; own = λ e. absurd cc; known = λ e. (refl, refl) }

-- + [K_A] > a character
abbrev pub first_rule : ℕ → ℕ → RuleDef
first_rule line d = record { line = line; kind = Plain; context = []; key = Some (source.Key key_a); output = source.Char d ∷ [] }

-- a character + [K_A] > another
abbrev pub chain_rule : ℕ → ℕ → ℕ → RuleDef
chain_rule line c d = record { line = line; kind = Plain; context = source.Char c ∷ []; key = Some (source.Key key_a); output = source.Char d ∷ [] }

pub first_rule_spelled : (line d : ℕ) → IsCharacter d → IsSpelledRule true (first_rule line d)
first_rule_spelled line d ok = record { kind = (tt, ((refl, key_a_spelled), refl, tt)); output = (ok, refl, tt); some = omega arith }

pub chain_rule_spelled : (line c d : ℕ) → IsCharacter c → IsCharacter d → IsSpelledRule true (chain_rule line c d)
chain_rule_spelled line c d first ok = record { kind = ((first, refl, tt), ((refl, key_a_spelled), refl, tt)); output = (ok, refl, tt); some = omega arith }

-- a character of four digits as a formatted number
pub char_digits : (c : ℕ) → 0x1000 ≤ c → c < 0x1_0000 → char_text c ≡ 85 ∷ 43 ∷ digits 16 true c
char_digits c low high =
    ap (λ (n : ℕ). 85 ∷ 43 ∷ hex_text n c) (cond-true (nat_lt c 0x1_0000) 4 _ (lt-ltb c 0x1_0000 high))
    ∙ ap (λ (text : List ℕ). 85 ∷ 43 ∷ text) (sym (four_digits c low high))

pub first_rule_text : (line d : ℕ) → 0x1000 ≤ d → d < 0x1_0000 → printed (rule_line (first_rule line d)) ≡ codes "+ [K_A] > U+" ++ digits 16 true d
unfolding key_codes shift_flags
first_rule_text line d low high =
    ap (λ (text : List ℕ). codes "+ [K_A] > " ++ text) (append-nil (char_text d) ∙ char_digits d low high)

pub chain_rule_text : (line c d : ℕ) → 0x1000 ≤ c → c < 0x1_0000 → 0x1000 ≤ d → d < 0x1_0000
    → printed (rule_line (chain_rule line c d)) ≡ codes "U+" ++ (digits 16 true c ++ (codes " + [K_A] > U+" ++ digits 16 true d))
unfolding key_codes shift_flags
chain_rule_text line c d low high from to =
    ap (λ (text : List ℕ). char_text c ++ (codes " + [K_A] > " ++ text)) (append-nil (char_text d) ∙ char_digits d from to)
    ∙ ap (λ (text : List ℕ). text ++ (codes " + [K_A] > U+" ++ digits 16 true d)) (char_digits c low high)
