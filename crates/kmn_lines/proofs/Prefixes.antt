-- The dropped beginning of a text is blanks and a word.
use Rattle.std.proofs.Common.{◌≡◌, ℕ, ◌+◌, ◌⊎◌, inl, inr, true, List, [], ◌∷◌, take, drop, refl, sym, subst}
use Rattle.std.specs.Prelude.{codes}
use Rattle.std.specs.List.{list_all}
use Rattle.std.proofs.lemmas.Bool.{and_from, or_cases, cond_both}
use Rattle.kmn_base.specs.Bytes.{is_blank}
use Rattle.kmn_lines.specs.Lines.{blanks, begins_with, is_skipped, dropped}
use Rattle.kmn_lines.specs.Laws.{IsBlankText, IsPrefix, PrefixesAreDropped}
use Rattle.kmn_lines.proofs.TextSizes.{take-one}

blank-first : (text : List ℕ) → IsBlankText (take (blanks text) text)
blank-first [] = refl
blank-first (byte ∷ bytes) =
    cond_both (is_blank byte) (1 + blanks bytes) 0 (λ n. IsBlankText (take n (byte ∷ bytes)))
    (λ e. subst IsBlankText (sym (take-one (blanks bytes) byte bytes)) (and_from (is_blank byte) (list_all is_blank (take (blanks bytes) bytes)) e (blank-first bytes)))
    (λ e. refl)

abbrev IsDropped : List ℕ → ℕ → Type 0
IsDropped text n = (n ≡ 0) ⊎ (IsPrefix (codes "$keyman:") text n ⊎ IsPrefix (codes "$keymanonly:") text n)

dropped-prefix : (text : List ℕ) → IsDropped text (dropped text)
unfolding dropped
dropped-prefix text =
    let words : List ℕ = drop (blanks text) text in
    cond_both (begins_with words (codes "$keyman:")) (blanks text + 8) _ (IsDropped text)
    (λ e. inr (inl (blanks text, refl, blank-first text, e)))
    (λ e. cond_both (begins_with words (codes "$keymanonly:")) (blanks text + 12) 0 (IsDropped text)
    (λ f. inr (inr (blanks text, refl, blank-first text, f)))
    (λ f. inl refl))

skipped-prefix : (text : List ℕ) → is_skipped text ≡ true → (n : ℕ) × (IsPrefix (codes "$keymanweb:") text n ⊎ IsPrefix (codes "$kmfl:") text n)
unfolding is_skipped
skipped-prefix text h =
    elim (or_cases (begins_with (drop (blanks text) text) (codes "$keymanweb:")) (begins_with (drop (blanks text) text) (codes "$kmfl:")) h) [
      | inl e ↦ (blanks text + 11, inl (blanks text, refl, blank-first text, e))
      | inr e ↦ (blanks text + 6, inr (blanks text, refl, blank-first text, e))
    ]

pub prefixes_are_dropped : PrefixesAreDropped
prefixes_are_dropped text = (dropped-prefix text, skipped-prefix text)
