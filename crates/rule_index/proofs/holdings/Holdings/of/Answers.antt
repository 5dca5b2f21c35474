use Rattle.std.proofs.Common.{rules}
use Rattle.std.proofs.lemmas.List.Sorted.{IsNonDecreasingBy-from_sort_by_key}
use Rattle.rule_index.specs.Holdings.{holding_rank}
use Rattle.rule_index.proofs.Holders.{holdings_from}
use Rattle.rule_index.proofs.holdings.Holdings.of.Goals as goal

pub returns : goal.returns
returns c = holdings_from c.args.stores.now c.in_ok-rows.rows.items c.sort_unstable_by_key.new.self.items c.in_ok-rows.ensures c.sort_unstable_by_key.ensures.permutation
    (IsNonDecreasingBy-from_sort_by_key holding_rank _ c.sort_unstable_by_key.ensures.sorted (λ a r q k. search rules))
