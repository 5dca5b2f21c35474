-- Sets of lines that are added item by item.
use Rattle.std.proofs.Common.{◌≡◌, ℕ, ◌+◌, ◌<◌, Bool, List, ◌∷◌, flat_map, drop, length, get_or, drop-cons, add-one, ap, sym, ◌∙◌}
use Rattle.std.specs.Ordering.{nat_cmp}
use Rattle.std.specs.List.{fold}
use Rattle.std.specs.BTreeSet.{insert_key}
use Rattle.rule_model.specs.declared.tables.Group.{Group}
use Rattle.std.proofs.lemmas.List.Sums.{fold-append}
use Rattle.core_export.specs.Saves.{group_saving_lines}

pub ruleset folds = fold-append

-- adding the numbers of one more item of a list does not change the final set
pub fold_more : {X : Type 0} (f : X → List ℕ) (xs : List X) (i : ℕ) (d x : X) (before after : List ℕ) → i < length xs → x ≡ get_or xs i d → after ≡ fold (insert_key nat_cmp) before (f x)
    → fold (insert_key nat_cmp) after (flat_map f (drop (i + 1) xs)) ≡ fold (insert_key nat_cmp) before (flat_map f (drop i xs))
fold_more f xs i d x before after within at is =
    let first : drop i xs ≡ get_or xs i d ∷ drop (i + 1) xs = rw add-one (drop-cons xs i d within) in
    let rest : List ℕ = flat_map f (drop (i + 1) xs) in
    ap (λ (set : List ℕ). fold (insert_key nat_cmp) set rest) is ∙ sym (fold-append (insert_key nat_cmp) before (f x) rest)
    ∙ sym (ap (λ list. fold (insert_key nat_cmp) before (flat_map f list)) (first ∙ ap (λ y. y ∷ drop (i + 1) xs) (sym at)))

-- adding the lines of one more group does not change the final set
pub lines_more : (saving used : List Bool) (groups : List Group) (i : ℕ) (d group : Group) (before after : List ℕ) → i < length groups → group ≡ get_or groups i d → used ≡ saving
    → after ≡ fold (insert_key nat_cmp) before (group_saving_lines used group)
    → fold (insert_key nat_cmp) after (flat_map (group_saving_lines saving) (drop (i + 1) groups)) ≡ fold (insert_key nat_cmp) before (flat_map (group_saving_lines saving) (drop i groups))
lines_more saving used groups i d group before after within at same is =
    fold_more (group_saving_lines saving) groups i d group before after within at (is ∙ ap (λ (flags : List Bool). fold (insert_key nat_cmp) before (group_saving_lines flags group)) same)
