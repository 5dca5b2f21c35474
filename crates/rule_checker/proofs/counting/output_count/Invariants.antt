use Rattle.std.proofs.Common.{◌≡◌, drop}
use Rattle.rule_checker.specs.Counting.{output_count_of, total}
use Rattle.rule_checker.proofs.counting.output_count.Given as goal

abbrev pub invariant-loop-item : goal.invariant-loop-item
invariant-loop-item l = total (output_count_of l.counted) l.sum (drop l.item-index l.items) ≡ total (output_count_of l.counted) 0 l.items
