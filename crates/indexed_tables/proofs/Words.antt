-- The words of a text, taken one by one.
use Rattle.std.proofs.Common.{◌≡◌, ℕ, ◌+◌, ◌-◌, false, List, [], ◌∷◌, ◌++◌, length, length-drop, get_or, take, drop, Some, None, sym, ◌∙◌, ap, arith}
use Rattle.std.proofs.lemmas.Grind.{common_steps}
use Rattle.std.proofs.lemmas.List.{take-append-drop, take_all, drop_more}
use Rattle.std.proofs.lemmas.List.Quantifiers.{position-Some}
use Rattle.std.proofs.lemmas.List.Sums.{fails_before_first}
use Rattle.std.proofs.lemmas.List.Splits.{slice_split_at, slice_split_none}
use Rattle.std.specs.Prelude.{nat_eq}
use Rattle.std.specs.List.{All, position, position_or_len, slice_split}
use Rattle.virtual_keys.proofs.PositionLemmas.{not_below}

-- the first word ends at the first space, and the other words are those of the bytes after it
pub words_parted : (text : List ℕ) (at : ℕ) → position (nat_eq 32) text ≡ Some at → slice_split (nat_eq 32) text ≡ take at text ∷ slice_split (nat_eq 32) (take (length text - (at + 1)) (drop (at + 1) text))
words_parted text at is =
    let found = position-Some (nat_eq 32) text at 0 is in
    let parts : text ≡ take at text ++ (get_or text at 0 ∷ drop (at + 1) text) = sym (take-append-drop at text) ∙ ap (λ l. take at text ++ l) (drop_more text at 0 found.0) in
    let front : All (λ b. nat_eq 32 b ≡ false) (take at text) = λ k d l. let h = found.2 k in grind (arith, common_steps) in
    let behind : take (length text - (at + 1)) (drop (at + 1) text) ≡ drop (at + 1) text = take_all _ (drop (at + 1) text) (omega (arith, length-drop (at + 1) text)) in
    ap (slice_split (nat_eq 32)) parts ∙ slice_split_at (nat_eq 32) (take at text) (get_or text at 0) (drop (at + 1) text) front found.1
    ∙ ap (λ l. take at text ∷ slice_split (nat_eq 32) l) (sym behind)

-- if there is no space, the text is the only word
pub words_alone : (text : List ℕ) → position (nat_eq 32) text ≡ None → slice_split (nat_eq 32) text ≡ text ∷ []
words_alone text is =
    let far = not_below (position_or_len (nat_eq 32) text) (length text) is in
    slice_split_none (nat_eq 32) text (λ k d l. fails_before_first (nat_eq 32) text k d (omega arith))
