use Rattle.std.proofs.Common.{◌≡◌, [], ◌++◌, take, drop}
use Rattle.store_table.specs.Names.{group_names}
use Rattle.source_names.specs.Causes.{each_of, group_faults}
use Rattle.source_names.proofs.listing.add_groups.Given as goal

abbrev pub invariant-loop-group : goal.invariant-loop-group
invariant-loop-group l = record {
  before : l.before ≡ group_names (take l.group-index l.groups);
  causes : l.causes.items ++ each_of group_faults (take l.group-index l.groups) (drop l.group-index l.groups) ≡ l.fn.causes.items ++ each_of group_faults [] l.groups;
}
