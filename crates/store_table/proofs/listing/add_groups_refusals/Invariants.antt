use Rattle.std.proofs.Common.{◌≡◌, [], ◌++◌, take, drop}
use Rattle.store_table.specs.First.{all_of}
use Rattle.store_table.specs.Names.{group_names, group_refusal}
use Rattle.store_table.proofs.listing.add_groups_refusals.Given as goal

abbrev pub invariant-loop-group : goal.invariant-loop-group
invariant-loop-group l = record {
  before : l.before ≡ group_names (take l.group-index l.groups);
  refusals : l.refusals ++ all_of group_refusal (take l.group-index l.groups) (drop l.group-index l.groups) ≡ l.fn.refusals ++ all_of group_refusal [] l.groups;
}
