use Rattle.std.proofs.Common.{◌≡◌, flat_map, take}
use Rattle.source_uses.specs.Choices.{group_choices}
use Rattle.source_uses.proofs.choices.program_choices.Given as goal

abbrev pub invariant-loop-group : goal.invariant-loop-group
invariant-loop-group l = l.choices.items ≡ flat_map (group_choices l.asked) (take l.group-index l.program.groups)
