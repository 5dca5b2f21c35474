-- The table of refused lines with another refusal.
use Rattle.std.proofs.Common.{◌≡◌, ℕ, Bool, true, false, cond, List, [], ◌∷◌, ◌++◌, Option, Some, None, refl, sym, ap, ◌∙◌, arith}
use Rattle.std.specs.Prelude.{nat_eq, is_some}
use Rattle.std.specs.Option.{option_or}
use Rattle.std.specs.Map.{lookup}
use Rattle.std.proofs.lemmas.Bool.Decides.{nat_tests}
use Rattle.kmn_base.specs.declared.codes.Code.{Code}
use Rattle.kmn_base.specs.declared.refusals.Refusal.{Refusal}
use Rattle.source_faults.specs.Stubs.{code_at}
use Rattle.source_faults.specs.RefusedLines.{HasCodes}

code_at_push : (before : List Refusal) (found : Refusal) (line : ℕ)
    → code_at (before ++ found ∷ []) line ≡ option_or (code_at before line) (cond (nat_eq found.line line) (Some found.code) None)
code_at_push [] found line = refl
code_at_push (first ∷ before) found line = by (nat_eq first.line line) (code_at_push before found line)
  where
    by : (t : Bool) → code_at (before ++ found ∷ []) line ≡ option_or (code_at before line) (cond (nat_eq found.line line) (Some found.code) None)
        → cond t (Some first.code) (code_at (before ++ found ∷ []) line)
        ≡ option_or (cond t (Some first.code) (code_at before line)) (cond (nat_eq found.line line) (Some found.code) None)
    by true again = refl
    by false again = again

same_number : (a b : ℕ) → nat_eq a b ≡ true → a ≡ b
same_number a b h = grind (arith, nat_tests)

-- the entries of a list whose last line has been refused before
pub again_has_codes : (before : List Refusal) (found : Refusal) (entries : List (ℕ × Code)) → HasCodes before entries
    → is_some (lookup (nat_eq found.line) entries) ≡ true → HasCodes (before ++ found ∷ []) entries
again_has_codes before found entries are known = record {
  found = λ line. are.found line ∙ sym (code_at_push before found line ∙ by line (code_at before line) refl (nat_eq found.line line) refl);
}
  where
    known_at : (line : ℕ) → nat_eq found.line line ≡ true → code_at before line ≡ None → ⊥
    known_at line same none =
        let no_entry : lookup (nat_eq found.line) entries ≡ None = are.found found.line ∙ ap (code_at before) (same_number found.line line same) ∙ none in
        let not_known : false ≡ true = ap (λ o. is_some o) (sym no_entry) ∙ known in
        absurd (cc)

    by : (line : ℕ) (code : Option Code) → code_at before line ≡ code → (t : Bool) → nat_eq found.line line ≡ t
        → option_or (code_at before line) (cond (nat_eq found.line line) (Some found.code) None) ≡ code_at before line
    by line (Some code) is t same = rw is refl
    by line None is false same = rw (is, same) refl
    by line None is true same = absurd (known_at line same is)

-- the entries of a list whose last line has not been refused before
new_has_codes : (before : List Refusal) (found : Refusal) (entries more : List (ℕ × Code)) → HasCodes before entries
    → lookup (nat_eq found.line) entries ≡ None
    → ((line : ℕ) → lookup (nat_eq line) more ≡ cond (nat_eq found.line line) (Some found.code) (lookup (nat_eq line) entries))
    → HasCodes (before ++ found ∷ []) more
new_has_codes before found entries more are new updates = record {
  found = λ line.
      updates line ∙ ap (cond (nat_eq found.line line) (Some found.code)) (are.found line)
      ∙ sym (code_at_push before found line ∙ by line (code_at before line) refl (nat_eq found.line line) refl);
}
  where
    unknown_at : (line : ℕ) → nat_eq found.line line ≡ true → code_at before line ≡ None
    unknown_at line same = ap (code_at before) (sym (same_number found.line line same)) ∙ sym (are.found found.line) ∙ new

    by : (line : ℕ) (code : Option Code) → code_at before line ≡ code → (t : Bool) → nat_eq found.line line ≡ t
        → option_or (code_at before line) (cond (nat_eq found.line line) (Some found.code) None) ≡ cond (nat_eq found.line line) (Some found.code) (code_at before line)
    by line (Some code) is true same =
        let none : Some code ≡ None = sym is ∙ unknown_at line same in absurd (cc)
    by line (Some code) is false same = rw (is, same) refl
    by line None is true same = rw (is, same) refl
    by line None is false same = rw (is, same) refl

none_if_unknown : (code : Option Code) → is_some code ≡ false → code ≡ None
none_if_unknown None h = refl
none_if_unknown (Some code) h = absurd (cc)

pub unknown_has_codes : (before : List Refusal) (found : Refusal) (entries more : List (ℕ × Code)) → HasCodes before entries
    → is_some (lookup (nat_eq found.line) entries) ≡ false
    → ((line : ℕ) → lookup (nat_eq line) more ≡ cond (nat_eq found.line line) (Some found.code) (lookup (nat_eq line) entries))
    → HasCodes (before ++ found ∷ []) more
unknown_has_codes before found entries more are unknown updates =
    new_has_codes before found entries more are (none_if_unknown (lookup (nat_eq found.line) entries) unknown) updates
