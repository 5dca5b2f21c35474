use Rattle.std.proofs.Common.{◌≡◌, ◌++◌, drop, map}
use Rattle.refusal_details.specs.Definitions.{group_definition}
use Rattle.refusal_details.proofs.definitions.group_definitions.Given as goal

abbrev pub invariant-loop-group : goal.invariant-loop-group
invariant-loop-group l = l.list ++ map group_definition (drop l.group-index l.groups) ≡ map group_definition l.groups
