use Rattle.std.proofs.Common.{rules}
use Rattle.std.proofs.lemmas.List.Sorted.{IsNonDecreasingBy-from_sort_by_key}
use Rattle.rule_index.specs.Rows.{rank}
use Rattle.rule_index.proofs.Finding.{index_from}
use Rattle.rule_index.proofs.rows.rows_of.Goals as goal

pub returns : goal.returns
returns c = index_from c.args.classes.now c.in_ok-rows.rows.items c.sort_unstable_by_key.new.self.items c.requires c.in_ok-rows.ensures c.sort_unstable_by_key.ensures.permutation
    (IsNonDecreasingBy-from_sort_by_key rank _ c.sort_unstable_by_key.ensures.sorted (λ a r q k. search rules))
