use Rattle.std.proofs.Common.{◌≡◌, ◌++◌, ◌∷◌, drop, map, flat_map}
use Rattle.std.specs.String.{string_bytes}
use Rattle.export_run.specs.Lines.{construct_word}
use Rattle.export_run.proofs.telling.put_words.Given as goal

abbrev pub invariant-loop-construct : goal.invariant-loop-construct
invariant-loop-construct l =
    string_bytes l.line ++ flat_map (λ next. 46 ∷ next) (map construct_word (drop l.construct-index l.rest))
    ≡ string_bytes l.initial.line ++ flat_map (λ next. 46 ∷ next) (map construct_word l.rest)
