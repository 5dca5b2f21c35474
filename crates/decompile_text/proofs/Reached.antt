-- The rest of a list from an index on begins with the item at this index, and so do the lines of groups.
use Rattle.std.proofs.Common.{◌≡◌, ℕ, ◌+◌, List, ◌∷◌, Some, drop, sym, ap, ◌∙◌}
use Rattle.std.specs.Prelude.{slice_get}
use Rattle.std.proofs.lemmas.List.{drop_more}
use Rattle.std.proofs.lemmas.Option.{slice_get_within, get_or_from_slice_get}
use Rattle.rule_model.specs.declared.tables.Group.{Group}
use Rattle.decompile_program.specs.Items.{Names, group_called}
use Rattle.decompile_text.specs.declared.page.Page.{Page}
use Rattle.decompile_text.specs.Pages.{with_text}
use Rattle.decompile_text.specs.Texts.{group_text}
use Rattle.decompile_text.specs.OneByOne.{with_groups}

pub reached : {X : Type 0} (xs : List X) (n : ℕ) (x : X) → Some x ≡ slice_get xs n → drop n xs ≡ x ∷ drop (n + 1) xs
reached {X} xs n x at =
    drop_more xs n x (slice_get_within xs n x (sym at)) ∙ ap (λ (y : X). y ∷ drop (n + 1) xs) (get_or_from_slice_get xs n x x (sym at))

-- appending the lines of the group at an index, then those of the groups after it, is appending the lines of all groups from the index on
pub next_group : (names : Names) (page more whole : Page) (groups : List Group) (n : ℕ) (name : List ℕ) (group : Group)
    → Some group ≡ slice_get groups n → name ≡ group_called names n → more ≡ with_text page (group_text names name group)
    → with_groups names n page (drop n groups) ≡ whole → with_groups names (n + 1) more (drop (n + 1) groups) ≡ whole
next_group names page more whole groups n name group at is put so_far =
    ap (λ (p : Page). with_groups names (n + 1) p (drop (n + 1) groups)) (put ∙ ap (λ (called : List ℕ). with_text page (group_text names called group)) is)
    ∙ (sym (ap (with_groups names n page) (reached groups n group at)) ∙ so_far)
