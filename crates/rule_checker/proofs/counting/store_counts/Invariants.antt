use Rattle.std.proofs.Common.{◌≡◌, drop}
use Rattle.rule_checker.specs.Counting.{count_of, records_of, total}
use Rattle.rule_checker.proofs.counting.store_counts.Given as goal

abbrev pub invariant-loop-item : goal.invariant-loop-item
invariant-loop-item l = record {
  elements : total (count_of l.counted) l.elements (drop l.item-index l.items) ≡ total (count_of l.counted) 0 l.items;
  records : total (records_of l.counted) l.records (drop l.item-index l.items) ≡ total (records_of l.counted) 0 l.items;
}
