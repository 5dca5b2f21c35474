use Rattle.std.proofs.Common.{◌≡◌, map, take}
use Rattle.compile_laws.specs.Compiles.{file_group}
use Rattle.rule_expand.proofs.groups.groups_of.Given as goal

abbrev pub invariant-loop-group : goal.invariant-loop-group
invariant-loop-group l = l.made.items ≡ map (file_group l.numbers) (take l.group-index l.groups)
