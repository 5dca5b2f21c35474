-- A refused text is rewritten if it is a source that can be read.
use Rattle.std.proofs.Common.{◌≡◌, ℕ, ◌<◌, ◌≤◌, Bool, true, false, not, List, length, Result, Err, refl, sym, ap, ◌∙◌, arith, if◌then◌else◌}
use Rattle.std.specs.Prelude.{IsUtf8, nat_lt, ◌||◌}
use Rattle.std.specs.Str.{is_utf8}
use Rattle.std.proofs.lemmas.Bool.Decides.{nat_tests}
use Rattle.std.proofs.lemmas.Str.{is_utf8-from_IsUtf8, IsUtf8-from_is_utf8}
use Rattle.kmn_base.specs.Answers.{and_then}
use Rattle.kmn_base.specs.declared.codes.Code.TheVariants.{L01, L05}
use Rattle.kmn_base.specs.declared.limits.TheConstants.{TEXT_BYTES}
use Rattle.kmn_base.specs.declared.refusals.Refusal.{Refusal}
use Rattle.kmn_lines.specs.Tokens.{refusal}
use Rattle.kmn_parser.specs.Source.{parsed, read_text}
use Rattle.rule_model.specs.declared.program.Program.{Program}
use Rattle.rule_checker.specs.Refused.{refused}
use Rattle.store_table.specs.First.{or_refusal}
use Rattle.kmn_import.specs.declared.change.Imported.{Imported}
use Rattle.kmn_import.specs.Import.{rewritten_source, rewritten_imported, if_accepted, text_imported}

both_pass : (a b : Bool) (x y : Result Imported Refusal) → a ≡ false → b ≡ true → (if a || not b then x else y) ≡ y
both_pass false true x y first second = refl
both_pass false false x y first second = absurd cc
both_pass true b x y first second = absurd cc

second_fails : (a b : Bool) (x y : Result Imported Refusal) → ¬ (b ≡ true) → (if a || not b then x else y) ≡ x
second_fails a true x y other = absurd (other refl)
second_fails true false x y other = refl
second_fails false false x y other = refl

-- a text that is short enough and in UTF-8
pub text_read : (text source : List ℕ) (why : Refusal) → length text ≤ TEXT_BYTES → source ≡ text → IsUtf8 text
    → rewritten_imported (rewritten_source source) ≡ text_imported text (Err why)
text_read text source why few same utf8 =
    let short : nat_lt TEXT_BYTES (length text) ≡ false = grind (arith, nat_tests) in
    ap (λ (old : List ℕ). rewritten_imported (rewritten_source old)) same
    ∙ sym (both_pass (nat_lt TEXT_BYTES (length text)) (is_utf8 text) (Err why) (rewritten_imported (rewritten_source text)) short (is_utf8-from_IsUtf8 text utf8))

true_holds : (a : Bool) (x y : Result Program Refusal) → a ≡ true → (if a then x else y) ≡ x
true_holds true x y holds = refl
true_holds false x y holds = absurd cc

parsed_long : (source : List ℕ) → TEXT_BYTES < length source → parsed source ≡ Err (refusal 1 L05)
unfolding parsed
parsed_long source long =
    let over : nat_lt TEXT_BYTES (length source) ≡ true = grind (arith, nat_tests) in
    true_holds (nat_lt TEXT_BYTES (length source)) (Err (refusal 1 L05)) (if not (is_utf8 source) then Err (refusal 1 L01) else read_text source) over

-- a rewritten text that is longer than a source may be
pub long_refused : (new : Imported) → TEXT_BYTES < length new.text → rewritten_imported new ≡ Err (refusal 1 L05)
long_refused new long = ap (λ (read : Result Program Refusal). if_accepted new (and_then read (λ (program : Program). or_refusal program (refused program)))) (parsed_long new.text long)

-- bytes that are not UTF-8
pub text_refused : (text : List ℕ) (why : Refusal) → ¬ (IsUtf8 text) → text_imported text (Err why) ≡ Err why
text_refused text why other =
    second_fails (nat_lt TEXT_BYTES (length text)) (is_utf8 text) (Err why) (rewritten_imported (rewritten_source text)) (λ e. other (IsUtf8-from_is_utf8 text e))
