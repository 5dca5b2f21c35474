-- The steps of writing blanks before and after each `..` of a range.
use Rattle.std.proofs.Common.{◌≡◌, ℕ, ◌==◌, ◌≤◌, true, false, not, ◌&&◌, List, [], ◌∷◌, ◌++◌, length, get_or, drop, sym, ◌∙◌, ap, arith, append_assoc}
use Rattle.std.proofs.lemmas.Bool.{and_parts, cond-true, cond-false, eqb-true}
use Rattle.std.specs.Prelude.{is_some, ◌||◌}
use Rattle.import_tokens.specs.declared.scan.ScanState.{ScanState}
use Rattle.import_tokens.specs.Scan.{scan_after, is_dots, with_spaced_dots}

dots_are : (state : ScanState) (a b : ℕ) → is_dots state a b ≡ true → (a ≡ 46) × (b ≡ 46)
dots_are state a b dots =
    let parts = and_parts (a == 46) (b == 46) (and_parts ((a == 46) && (b == 46)) (not (is_some state.quote || state.in_parentheses || state.in_name)) dots).0 in
    (eqb-true a 46 parts.0, eqb-true b 46 parts.1)

-- a `..` between blanks
pub dots_step : (spaced new rest after all : List ℕ) (state : ScanState) → 2 ≤ length rest → is_dots state (get_or rest 0 0) (get_or rest 1 0) ≡ true
    → new ≡ spaced ++ 32 ∷ 46 ∷ 46 ∷ 32 ∷ [] → after ≡ drop 2 rest → spaced ++ with_spaced_dots state rest ≡ all → new ++ with_spaced_dots state after ≡ all
dots_step spaced new [] after all state two dots e behind so_far = absurd (omega arith)
dots_step spaced new (a ∷ []) after all state two dots e behind so_far = absurd (omega arith)
dots_step spaced new (a ∷ b ∷ bytes) after all state two dots e behind so_far =
    let are = dots_are state a b dots in
    let rest : List ℕ = with_spaced_dots state bytes in
    ap (λ (xs : List ℕ). xs ++ with_spaced_dots state after) e
    ∙ ap (λ (xs : List ℕ). (spaced ++ 32 ∷ 46 ∷ 46 ∷ 32 ∷ []) ++ with_spaced_dots state xs) behind
    ∙ append_assoc spaced (32 ∷ 46 ∷ 46 ∷ 32 ∷ []) rest
    ∙ ap (λ (x : ℕ). spaced ++ 32 ∷ x ∷ 46 ∷ 32 ∷ rest) (sym are.0)
    ∙ ap (λ (y : ℕ). spaced ++ 32 ∷ a ∷ y ∷ 32 ∷ rest) (sym are.1)
    ∙ ap (λ (xs : List ℕ). spaced ++ xs) (sym (cond-true (is_dots state a b) (32 ∷ a ∷ b ∷ 32 ∷ rest) (a ∷ with_spaced_dots (scan_after state a) (b ∷ bytes)) dots))
    ∙ so_far

-- another byte
pub byte_step : (spaced new rest after all : List ℕ) (state next : ScanState) → 2 ≤ length rest → is_dots state (get_or rest 0 0) (get_or rest 1 0) ≡ false
    → new ≡ spaced ++ get_or rest 0 0 ∷ [] → next ≡ scan_after state (get_or rest 0 0) → after ≡ drop 1 rest → spaced ++ with_spaced_dots state rest ≡ all
    → new ++ with_spaced_dots next after ≡ all
byte_step spaced new [] after all state next two dots e f behind so_far = absurd (omega arith)
byte_step spaced new (a ∷ []) after all state next two dots e f behind so_far = absurd (omega arith)
byte_step spaced new (a ∷ b ∷ bytes) after all state next two dots e f behind so_far =
    ap (λ (xs : List ℕ). xs ++ with_spaced_dots next after) e
    ∙ ap (λ (s : ScanState). (spaced ++ a ∷ []) ++ with_spaced_dots s after) f
    ∙ ap (λ (xs : List ℕ). (spaced ++ a ∷ []) ++ with_spaced_dots (scan_after state a) xs) behind
    ∙ append_assoc spaced (a ∷ []) (with_spaced_dots (scan_after state a) (b ∷ bytes))
    ∙ ap (λ (xs : List ℕ). spaced ++ xs) (sym (cond-false (is_dots state a b) (32 ∷ a ∷ b ∷ 32 ∷ with_spaced_dots state bytes) (a ∷ with_spaced_dots (scan_after state a) (b ∷ bytes)) dots))
    ∙ so_far
