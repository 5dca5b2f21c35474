use Rattle.std.proofs.Common.{◌≡◌, ◌++◌, ◌∷◌, drop, map, flat_map}
use Rattle.std.specs.Fmt.{decimal}
use Rattle.std.specs.String.{string_bytes}
use Rattle.rule_model.proofs.lines.put_numbers.Given as goal

abbrev pub invariant-loop-number : goal.invariant-loop-number
invariant-loop-number l =
    string_bytes l.text ++ flat_map (λ next. 46 ∷ next) (map decimal (drop l.number-index l.rest))
    ≡ string_bytes l.initial.text ++ flat_map (λ next. 46 ∷ next) (map decimal l.rest)
