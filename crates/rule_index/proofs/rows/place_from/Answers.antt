use Rattle.std.proofs.Common.{rules, arith, ltb}
use Rattle.std.proofs.lemmas.Bool.Decides.{nat_tests}
use Rattle.std.proofs.lemmas.List.Sorted.{IsPartitionPoint-from_clause, IsPartitionedBy-ltb}
use Rattle.rule_index.specs.Rows.{rank}
use Rattle.rule_index.proofs.rows.place_from.Goals as goal

pub returns : goal.returns
returns c = λ sorted.
    let at = IsPartitionPoint-from_clause (λ row. ltb (rank row) c.args.start) c.args.rows.now c.partition_point.result
    c.partition_point.ensures.partitioned (IsPartitionedBy-ltb rank c.args.rows.now c.args.start sorted) (λ a r f k. search rules) in
    record {
      before = λ k d a b. grind (arith, nat_tests, at.0 k d);
      behind = λ k d a b. grind (arith, nat_tests, at.1 k d);
    }
