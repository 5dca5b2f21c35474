use Rattle.std.proofs.Common.{◌≡◌, ◌++◌, ◌∷◌, drop, map, flat_map}
use Rattle.std.specs.String.{string_bytes}
use Rattle.rule_model.specs.Transcript.{element_text}
use Rattle.play_script.proofs.transcript.put_elements.Given as goal

abbrev pub invariant-loop-element : goal.invariant-loop-element
invariant-loop-element l =
    string_bytes l.line ++ flat_map (λ next. 46 ∷ next) (map element_text (drop l.element-index l.rest))
    ≡ string_bytes l.initial.line ++ flat_map (λ next. 46 ∷ next) (map element_text l.rest)
