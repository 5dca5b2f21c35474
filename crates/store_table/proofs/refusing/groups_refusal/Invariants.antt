use Rattle.std.proofs.Common.{◌≡◌, [], take, drop}
use Rattle.store_table.specs.First.{earlier, first_of}
use Rattle.store_table.specs.Names.{group_names, group_refusal}
use Rattle.store_table.proofs.refusing.groups_refusal.Given as goal

abbrev pub invariant-loop-group : goal.invariant-loop-group
invariant-loop-group l = record {
  before : l.before ≡ group_names (take l.group-index l.groups);
  first : earlier l.first (first_of group_refusal (take l.group-index l.groups) (drop l.group-index l.groups)) ≡ first_of group_refusal [] l.groups;
}
