use Rattle.std.proofs.Common.{◌≡◌}
use Rattle.refusal_details.specs.Systems.{systems_below}
use Rattle.refusal_details.proofs.systems.all_like_systems.Given as goal

abbrev pub invariant-loop-id : goal.invariant-loop-id
invariant-loop-id l = l.names ≡ systems_below l.word l.id
