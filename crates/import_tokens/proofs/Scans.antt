-- What the scan of a text says of its tokens: they are read, or one of them has a fault, or the text is too long.
use Rattle.std.proofs.Common.{◌≡◌, ℕ, ◌<◌, ◌≤◌, Bool, true, false, List, [], length, Option, None, Some, is_some, Ok, Err, refl, sym, ap, ◌∙◌, arith, if◌then◌else◌}
use Rattle.std.specs.Prelude.{nat_lt, ◌||◌, option_map}
use Rattle.std.proofs.lemmas.Bool.Decides.{nat_tests}
use Rattle.kmn_base.specs.declared.codes.Code.{Code}
use Rattle.kmn_base.specs.declared.limits.TheConstants.{TEXT_BYTES}
use Rattle.kmn_base.specs.declared.refusals.Refusal.{Refusal}
use Rattle.kmn_lines.specs.Tokens.{refusal, scanned, first_fault}
use Rattle.kmn_lines.specs.declared.token.Token.{Token}
use Rattle.kmn_items.specs.TokenTexts.{LineToken, with_texts}
use Rattle.kmn_tokens.specs.Scanning.{or_refused, scanned_text}
use Rattle.import_tokens.specs.Scan.{sound_tokens}

unless_long : (text : List ℕ) (faulty : Bool) (tokens : List LineToken) → length text ≤ TEXT_BYTES → (if nat_lt TEXT_BYTES (length text) || faulty then [] else tokens) ≡ (if faulty then [] else tokens)
unless_long text faulty tokens few = let short : nat_lt TEXT_BYTES (length text) ≡ false = grind (arith, nat_tests) in ap (λ b. if b || faulty then [] else tokens) short

read_of : (text : List ℕ) (fault : Option Code) (all tokens : List Token) → or_refused (option_map (refusal 1) fault) all ≡ Ok tokens → with_texts text tokens ≡ (if is_some fault then [] else with_texts text all)
read_of text None all tokens e = let same : all ≡ tokens = cc in ap (with_texts text) (sym same)
read_of text (Some code) all tokens e = absurd cc

refused_of : (text : List ℕ) (fault : Option Code) (all : List Token) (refused : Refusal) → or_refused (option_map (refusal 1) fault) all ≡ Err refused → [] ≡ (if is_some fault then [] else with_texts text all)
refused_of text None all refused e = absurd cc
refused_of text (Some code) all refused e = refl

pub sound_read : (text : List ℕ) (tokens : List Token) → length text ≤ TEXT_BYTES → scanned_text text ≡ Ok tokens → with_texts text tokens ≡ sound_tokens text
sound_read text tokens few e =
    read_of text (first_fault 0 text) (scanned 1 0 0 text) tokens e ∙ sym (unless_long text (is_some (first_fault 0 text)) (with_texts text (scanned 1 0 0 text)) few)

pub faulty_read : (text : List ℕ) (refused : Refusal) → length text ≤ TEXT_BYTES → scanned_text text ≡ Err refused → [] ≡ sound_tokens text
faulty_read text refused few e =
    refused_of text (first_fault 0 text) (scanned 1 0 0 text) refused e ∙ sym (unless_long text (is_some (first_fault 0 text)) (with_texts text (scanned 1 0 0 text)) few)

pub long_read : (text : List ℕ) → TEXT_BYTES < length text → [] ≡ sound_tokens text
long_read text many =
    let long : nat_lt TEXT_BYTES (length text) ≡ true = grind (arith, nat_tests) in
    sym (ap (λ b. if b || is_some (first_fault 0 text) then [] else with_texts text (scanned 1 0 0 text)) long)
