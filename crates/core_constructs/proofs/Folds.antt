-- Sets and maxima over the items of several outputs.
use Rattle.std.proofs.Common.{◌≡◌, ℕ, List, ◌++◌, map, ap, ◌∙◌}
use Rattle.std.specs.Prelude.{max}
use Rattle.std.specs.List.{fold}
use Rattle.std.proofs.lemmas.List.{map-append, set_past}
use Rattle.std.proofs.lemmas.Option.{unwrap_or-slice_get}
use Rattle.std.proofs.lemmas.List.Concat.{flat_map-append}
use Rattle.std.proofs.lemmas.List.Sums.{fold-append}
use Rattle.rule_model.specs.declared.tables.Out.{Out}
use Rattle.core_constructs.specs.Queued.{entered_effects}

pub ruleset folds = (fold-append, flat_map-append)

-- the number at an index, and a list that is set at an index past its end
pub ruleset slots = (set_past, unwrap_or-slice_get)

-- the most effects of two lists of items is that of the second, and at least that of the first
pub entered_most : (used : List ℕ) (least : ℕ) (xs ys : List Out)
    → fold max least (map (entered_effects used) (xs ++ ys)) ≡ fold max (fold max least (map (entered_effects used) xs)) (map (entered_effects used) ys)
entered_most used least xs ys =
    ap (λ list. fold max least list) (map-append (entered_effects used) xs ys) ∙ fold-append max least (map (entered_effects used) xs) (map (entered_effects used) ys)
