-- The tokens of a line, or its refusal, as a scan returns them.
use Rattle.std.proofs.Common.{◌≡◌, ℕ, List, Option, Some, None, Result, Ok, Err, refl, sym, ap, ◌∙◌}
use Rattle.kmn_base.specs.declared.refusals.Refusal.{Refusal}
use Rattle.kmn_lines.specs.declared.logical.Logical.{Logical}
use Rattle.kmn_lines.specs.declared.token.Token.{Token}
use Rattle.kmn_lines.specs.Tokens.{line_tokens, line_refusal}
use Rattle.kmn_tokens.specs.Scanning.{or_refused, scanned_line}
use Rattle.kmn_items.specs.TokenTexts.{with_texts}
use Rattle.kmn_parser.specs.Source.{line_statement}
use Rattle.source_faults.specs.declared.found.Found.{Found}
use Rattle.source_faults.specs.Words.{words_of}
use Rattle.source_faults.specs.Reading.{group_for, read_on, token_refused, with_line}

abbrev tokens_in : List Token → Result (List Token) Refusal → List Token
tokens_in other (Ok tokens) = tokens
tokens_in other (Err found) = other

abbrev refusal_in : Refusal → Result (List Token) Refusal → Refusal
refusal_in other (Ok tokens) = other
refusal_in other (Err found) = found

ok_parts : (refused : Option Refusal) (tokens scanned : List Token) → or_refused refused tokens ≡ Ok scanned → (refused ≡ None) × (scanned ≡ tokens)
ok_parts None tokens scanned is = (refl, sym (ap (tokens_in tokens) is))
ok_parts (Some found) tokens scanned is = absurd (cc)

err_part : (refused : Option Refusal) (tokens : List Token) (found : Refusal) → or_refused refused tokens ≡ Err found → refused ≡ Some found
err_part None tokens found is = absurd (cc)
err_part (Some other) tokens found is = ap (λ read. Some (refusal_in found read)) is

pub scanned_tokens : (source : List ℕ) (line : Logical) (scanned : List Token) → scanned_line source line ≡ Ok scanned → (line_refusal source line ≡ None) × (scanned ≡ line_tokens source line)
scanned_tokens source line scanned is = ok_parts (line_refusal source line) (line_tokens source line) scanned is

pub scanned_refusal : (source : List ℕ) (line : Logical) (found : Refusal) → scanned_line source line ≡ Err found → line_refusal source line ≡ Some found
scanned_refusal source line found is = err_part (line_refusal source line) (line_tokens source line) found is

-- a line whose tokens are refused
pub refused_on : (source : List ℕ) (st : Found) (line : Logical) (found : Refusal) (words : List (List ℕ)) → scanned_line source line ≡ Err found
    → words ≡ words_of source line → token_refused st found words ≡ read_on source st line
refused_on source st line found words is same =
    ap (token_refused st found) same
    ∙ sym (ap (λ refused. with_line st refused (line_statement source (group_for st (with_texts source (line_tokens source line))) line) (words_of source line)) (scanned_refusal source line found is))
