use Rattle.std.proofs.Common.{◌≡◌, ◌++◌, ◌∷◌, drop, map, flat_map}
use Rattle.std.specs.String.{string_bytes}
use Rattle.rule_model.specs.Lines.{item_text}
use Rattle.play_script.proofs.transcript.put_items.Given as goal

abbrev pub invariant-loop-item : goal.invariant-loop-item
invariant-loop-item l =
    string_bytes l.line ++ flat_map (λ next. 46 ∷ next) (map item_text (drop l.item-index l.rest))
    ≡ string_bytes l.initial.line ++ flat_map (λ next. 46 ∷ next) (map item_text l.rest)
