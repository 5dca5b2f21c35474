use Rattle.std.proofs.Common.{◌≡◌, map, take}
use Rattle.core_constructs.specs.Queued.{chain_effects}
use Rattle.core_constructs.proofs.queued.next_effects.Given as goal

abbrev pub invariant-loop-group : goal.invariant-loop-group
invariant-loop-group l = l.next ≡ map (chain_effects l.used) (take l.group-index l.groups)
