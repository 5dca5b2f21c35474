use Rattle.std.proofs.Common.{◌≡◌, ◌≤◌, drop}
use Rattle.std.specs.Prelude.{sum_by}
use Rattle.core_constructs.specs.Queued.{counted, item_effects, with_effects}
use Rattle.core_constructs.proofs.queued.with_effects.Given as goal

abbrev pub invariant-loop-item : goal.invariant-loop-item
invariant-loop-item l = record {
  same : counted l.total (sum_by (item_effects l.length) (drop l.item-index l.items)) ≡ with_effects l.length l.items l.count;
  few : l.total ≤ 1025;
}
