-- The steps of writing characters as tokens.
use Rattle.std.proofs.Common.{◌≡◌, ℕ, true, false, List, [], ◌∷◌, ◌++◌, sym, ◌∙◌, ap, append_assoc}
use Rattle.std.proofs.lemmas.Bool.{cond-true, cond-false}
use Rattle.kmn_items.specs.TokenTexts.{LineToken}
use Rattle.kmn_parser.specs.Texts.{char_token}
use Rattle.import_tokens.specs.Ranges.{is_clear, run_tokens, spelled}
use Rattle.import_tokens.specs.Spelling.{Spells}

-- a clear character goes into the run
pub clear_spells : (tokens : List LineToken) (run : List ℕ) (c : ℕ) (next : List ℕ) → is_clear c ≡ true → next ≡ run ++ c ∷ [] → Spells tokens run c tokens next
clear_spells tokens run c next clear e rest =
    ap (λ (r : List ℕ). tokens ++ spelled r rest) e
    ∙ ap (λ (ts : List LineToken). tokens ++ ts) (sym (cond-true (is_clear c) (spelled (run ++ c ∷ []) rest) (run_tokens run ++ (char_token c ∷ spelled [] rest)) clear))

-- another one follows the run
pub other_spells : (tokens with_run more : List LineToken) (run : List ℕ) (c : ℕ) (next : List ℕ) → is_clear c ≡ false → with_run ≡ tokens ++ run_tokens run → more ≡ with_run ++ char_token c ∷ [] → next ≡ [] → Spells tokens run c more next
other_spells tokens with_run more run c next other e f g rest =
    ap (λ (r : List ℕ). more ++ spelled r rest) g
    ∙ ap (λ (ts : List LineToken). ts ++ spelled [] rest) (f ∙ ap (λ (ts : List LineToken). ts ++ char_token c ∷ []) e)
    ∙ append_assoc (tokens ++ run_tokens run) (char_token c ∷ []) (spelled [] rest)
    ∙ append_assoc tokens (run_tokens run) (char_token c ∷ spelled [] rest)
    ∙ ap (λ (ts : List LineToken). tokens ++ ts) (sym (cond-false (is_clear c) (spelled (run ++ c ∷ []) rest) (run_tokens run ++ (char_token c ∷ spelled [] rest)) other))
