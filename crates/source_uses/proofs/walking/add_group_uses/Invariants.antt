use Rattle.std.proofs.Common.{◌≡◌, ◌++◌, flat_map, take}
use Rattle.source_uses.specs.Uses.{part_uses}
use Rattle.source_uses.proofs.walking.add_group_uses.Given as goal

abbrev pub invariant-loop-rule : goal.invariant-loop-rule
invariant-loop-rule l = l.uses.items ≡ l.fn.uses.items ++ flat_map (part_uses l.role l.part) (take l.rule-index l.rules)
