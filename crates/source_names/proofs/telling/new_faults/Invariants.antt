use Rattle.std.proofs.Common.{◌≡◌, [], ◌++◌, drop}
use Rattle.source_names.specs.Telling.{groups_lacked, new_after, stores_lacked}
use Rattle.source_names.proofs.telling.new_faults.Given as goal

abbrev pub invariant-loop-fault : goal.invariant-loop-fault
invariant-loop-fault l = record {
  stores : l.told.stores ≡ stores_lacked l.told.faults;
  groups : l.told.groups ≡ groups_lacked l.told.faults;
  faults : l.told.faults ++ new_after l.told.faults (drop l.fault-index l.causes) ≡ new_after [] l.causes;
}
