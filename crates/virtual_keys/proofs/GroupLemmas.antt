-- The groups of a text, taken one by one.
use Rattle.std.proofs.Common.{◌≡◌, ℕ, ◌+◌, ◌-◌, false, List, [], ◌∷◌, ◌++◌, length, length-drop, get_or, take, drop, Some, None, sym, ◌∙◌, ap, arith}
use Rattle.std.proofs.lemmas.Grind.{common_steps}
use Rattle.std.proofs.lemmas.List.{take-append-drop, take_all, drop_more}
use Rattle.std.proofs.lemmas.List.Quantifiers.{position-Some}
use Rattle.std.proofs.lemmas.List.Sums.{fails_before_first}
use Rattle.std.proofs.lemmas.List.Splits.{slice_split_at, slice_split_none}
use Rattle.std.specs.List.{All, position, position_or_len}
use Rattle.virtual_keys.specs.Dictionary.{groups, is_parting}
use Rattle.virtual_keys.proofs.PositionLemmas.{not_below}

-- the first group ends at the first _, and the other groups are those of the bytes after it
pub groups_parted : (text : List ℕ) (at : ℕ) → position is_parting text ≡ Some at → groups text ≡ take at text ∷ groups (take (length text - (at + 1)) (drop (at + 1) text))
groups_parted text at is =
    let found = position-Some is_parting text at 0 is in
    let parts : text ≡ take at text ++ (get_or text at 0 ∷ drop (at + 1) text) = sym (take-append-drop at text) ∙ ap (λ l. take at text ++ l) (drop_more text at 0 found.0) in
    let front : All (λ b. is_parting b ≡ false) (take at text) = λ k d l. let h = found.2 k in grind (arith, common_steps) in
    let behind : take (length text - (at + 1)) (drop (at + 1) text) ≡ drop (at + 1) text = take_all _ (drop (at + 1) text) (omega (arith, length-drop (at + 1) text)) in
    ap groups parts ∙ slice_split_at is_parting (take at text) (get_or text at 0) (drop (at + 1) text) front found.1 ∙ ap (λ l. take at text ∷ groups l) (sym behind)

-- if there is no _, the text is the only group
pub groups_alone : (text : List ℕ) → position is_parting text ≡ None → groups text ≡ text ∷ []
groups_alone text is =
    let far = not_below (position_or_len is_parting text) (length text) is in
    slice_split_none is_parting text (λ k d l. fails_before_first is_parting text k d (omega arith))
