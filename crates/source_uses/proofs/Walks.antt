-- The uses by items of two lists are those of each.
use Rattle.std.proofs.Common.{◌≡◌, ℕ, List, ◌++◌}
use Rattle.std.proofs.lemmas.List.Concat.{flat_map-append}
use Rattle.rule_model.specs.declared.program.SrcItem.{SrcItem}
use Rattle.source_uses.specs.declared.used.Role.{Role}
use Rattle.source_uses.specs.Uses.{items_uses, named_as, used}

pub items_append : (role : Role) (line : ℕ) (xs ys : List SrcItem) → items_uses role line (xs ++ ys) ≡ items_uses role line xs ++ items_uses role line ys
items_append role line xs ys = flat_map-append (λ (item : SrcItem). used line (named_as role item)) xs ys
