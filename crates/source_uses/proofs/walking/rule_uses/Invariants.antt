use Rattle.std.proofs.Common.{◌≡◌, flat_map, take}
use Rattle.source_uses.specs.Uses.{group_uses}
use Rattle.source_uses.proofs.walking.rule_uses.Given as goal

abbrev pub invariant-loop-group : goal.invariant-loop-group
invariant-loop-group l = l.uses.items ≡ flat_map (group_uses l.role l.part) (take l.group-index l.program.groups)
