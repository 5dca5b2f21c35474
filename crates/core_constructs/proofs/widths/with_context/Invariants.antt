use Rattle.std.proofs.Common.{◌≡◌, ◌+◌, ◌≤◌, drop}
use Rattle.std.specs.Prelude.{min, sum_by}
use Rattle.core_constructs.specs.Widths.{width_in, with_context}
use Rattle.core_constructs.proofs.widths.with_context.Given as goal

abbrev pub invariant-loop-item : goal.invariant-loop-item
invariant-loop-item l = record {
  same : min 64 (l.total + sum_by (width_in l.facts l.context) (drop l.item-index l.context)) ≡ with_context l.facts l.context l.units;
  few : l.total ≤ 64;
}
