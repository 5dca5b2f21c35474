use Rattle.std.proofs.Common.{◌≡◌, ℕ, ◌<◌, ◌≤◌}
use Rattle.std.specs.Prelude.{slice_index_or}
use Rattle.rule_model.specs.declared.tables.Group.{Group}
use Rattle.compile_laws.specs.Compiles.{IsOrderedGroup}
use Rattle.rule_order.proofs.ordering.order_groups.Given as goal

abbrev pub invariant-loop-group : goal.invariant-loop-group
invariant-loop-group l = record {
  ordered : (k : ℕ) (group : Group) → k < l.group-index → IsOrderedGroup (slice_index_or l.fn.groups k group) (slice_index_or l.groups k group);
  left : (k : ℕ) (group : Group) → l.group-index ≤ k → slice_index_or l.groups k group ≡ slice_index_or l.fn.groups k group;
}
