use Rattle.std.proofs.Common.{rules, arith, ltb}
use Rattle.std.proofs.lemmas.Bool.Decides.{nat_tests}
use Rattle.std.proofs.lemmas.List.Sorted.{IsPartitionPoint-from_clause, IsPartitionedBy-ltb}
use Rattle.rule_index.specs.Holdings.{holding_rank}
use Rattle.rule_index.proofs.holdings.place_from.Goals as goal

pub returns : goal.returns
returns c =
    let at = IsPartitionPoint-from_clause (λ row. ltb (holding_rank row) c.args.start) c.args.rows.now c.partition_point.result
    c.partition_point.ensures.partitioned (IsPartitionedBy-ltb holding_rank c.args.rows.now c.args.start c.requires) (λ a r f k. search rules) in
    record {
      within = c.partition_point.ensures.bound;
      before = λ k d a. grind (arith, nat_tests, at.0 k d, c.partition_point.ensures.bound);
      behind = λ k d a b. grind (arith, nat_tests, at.1 k d);
    }
