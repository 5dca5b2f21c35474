use Rattle.std.proofs.Common.{rules, arith, ltb}
use Rattle.std.proofs.lemmas.Bool.Decides.{nat_tests}
use Rattle.std.proofs.lemmas.List.Sorted.{IsPartitionPoint-from_clause, IsPartitionedBy-ltb}
use Rattle.rule_trace.specs.declared.coverage.Hit.{Hit}
use Rattle.rule_trace.proofs.Counting.{lines_rise, found_line}
use Rattle.rule_trace.proofs.coverage.place_of.Goals as goal

pub returns-clause-within : goal.returns-clause-within
returns-clause-within c =
    let at = IsPartitionPoint-from_clause (λ (hit : Hit). ltb hit.line c.args.line) c.args.hits.now c.partition_point.result
    c.partition_point.ensures.partitioned (IsPartitionedBy-ltb (λ (hit : Hit). hit.line) c.args.hits.now c.args.line (lines_rise c.args.hits.now c.requires.rising)) (λ a r f k. search rules) in
    (found_line c.args.hits.now c.args.line c.partition_point.result c.requires.rising c.requires.among
    (λ k d a b. grind (arith, nat_tests, at.0 k d)) (λ k d a b. grind (arith, nat_tests, at.1 k d))).0

pub returns-clause-line : goal.returns-clause-line
returns-clause-line c =
    let at = IsPartitionPoint-from_clause (λ (hit : Hit). ltb hit.line c.args.line) c.args.hits.now c.partition_point.result
    c.partition_point.ensures.partitioned (IsPartitionedBy-ltb (λ (hit : Hit). hit.line) c.args.hits.now c.args.line (lines_rise c.args.hits.now c.requires.rising)) (λ a r f k. search rules) in
    (found_line c.args.hits.now c.args.line c.partition_point.result c.requires.rising c.requires.among
    (λ k d a b. grind (arith, nat_tests, at.0 k d)) (λ k d a b. grind (arith, nat_tests, at.1 k d))).1
