use Rattle.std.proofs.Common.{◌≡◌, drop}
use Rattle.rule_checker.specs.Counting.{count_of, total}
use Rattle.rule_checker.proofs.counting.store_count.Given as goal

abbrev pub invariant-loop-item : goal.invariant-loop-item
invariant-loop-item l = total (count_of l.counted) l.sum (drop l.item-index l.items) ≡ total (count_of l.counted) 0 l.items
