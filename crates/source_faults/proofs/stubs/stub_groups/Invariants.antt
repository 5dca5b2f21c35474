use Rattle.std.proofs.Common.{◌≡◌, ◌++◌, map, take, drop}
use Rattle.source_faults.specs.Stubs.{stub_group}
use Rattle.source_faults.proofs.stubs.stub_groups.Given as goal

abbrev pub invariant-loop-group : goal.invariant-loop-group
invariant-loop-group l = l.groups ≡ map (stub_group l.refused) (take l.group-index l.fn.groups) ++ drop l.group-index l.fn.groups
