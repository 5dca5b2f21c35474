use Rattle.std.proofs.Common.{◌≡◌, ◌++◌, drop, flat_map}
use Rattle.refusal_details.specs.Nearest.{like_definition}
use Rattle.refusal_details.proofs.nearest.like_definitions.Given as goal

abbrev pub invariant-loop-definition : goal.invariant-loop-definition
invariant-loop-definition l =
    l.near ++ flat_map (like_definition l.word) (drop l.definition-index l.definitions) ≡ flat_map (like_definition l.word) l.definitions
