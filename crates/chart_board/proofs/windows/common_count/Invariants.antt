use Rattle.std.proofs.Common.{◌≡◌, ◌+◌, ◌-◌, ◌≤◌, length, drop}
use Rattle.std.specs.List.{common_prefix_len}
use Rattle.rule_model.specs.Match.{same_item}
use Rattle.chart_board.proofs.windows.common_count.Given as goal

abbrev pub invariant-loop-count : goal.invariant-loop-count
invariant-loop-count l = record {
  value : l.count + common_prefix_len same_item (drop l.count l.old) (drop l.count l.new) ≡ common_prefix_len same_item l.old l.new;
  within : l.count ≤ length l.new;
}

abbrev pub decreases-loop-count : goal.decreases-loop-count
decreases-loop-count l = length l.old - l.count
