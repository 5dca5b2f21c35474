-- Items that are removed one by one from the end of a list.
use Rattle.std.proofs.Common.{◌≡◌, ◌+◌, ◌<◌, ◌≤◌, ℕ, List, [], ◌∷◌, ◌++◌, length, take, Option, Some, None, ap, sym, ◌∙◌, arith, length-append}
use Rattle.std.specs.Prelude.{MatchOption}
use Rattle.std.proofs.lemmas.List.{take-append-le}

-- if a list has more items than are kept, removing the last item does not change the kept items
pub kept_when_taken : {X : Type 0} (kept : ℕ) (old new : List X) (last : Option X)
    → MatchOption last ((old ≡ []) × (new ≡ [])) (λ item. old ≡ new ++ item ∷ []) → kept < length old → (kept ≤ length new) × (take kept new ≡ take kept old)
kept_when_taken kept old new None taken more =
    let none : length old ≡ 0 = ap length taken.0 in
    absurd (omega arith)
kept_when_taken kept old new (Some item) taken more =
    let count : length old ≡ length new + 1 = ap length taken ∙ length-append new (item ∷ []) in
    let enough : kept ≤ length new = omega arith in
    (enough, sym (ap (take kept) taken ∙ take-append-le kept new (item ∷ []) enough))
