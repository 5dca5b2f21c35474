use Rattle.std.proofs.Common.{◌≡◌, ◌+◌, drop}
use Rattle.rule_expand.specs.Sizes.{sized_places}
use Rattle.rule_expand.proofs.sizes.placed_size.Given as goal

abbrev pub invariant-loop-place : goal.invariant-loop-place
invariant-loop-place l = l.size + sized_places l.numbers l.sizes l.place (drop l.place l.elements) ≡ sized_places l.numbers l.sizes 0 l.elements
