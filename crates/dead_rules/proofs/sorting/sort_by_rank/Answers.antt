use Rattle.std.proofs.Common.{rules, refl}
use Rattle.std.proofs.lemmas.List.Sorted.{IsNonDecreasingBy-from_sort_by_key, answers_always}
use Rattle.source_uses.proofs.InLines.{sorted_is_in_lines}
use Rattle.dead_rules.specs.DeadRules.{rank}
use Rattle.dead_rules.proofs.Ranks.{rank_of_ranked, ranked}
use Rattle.dead_rules.proofs.sorting.sort_by_rank.Goals as goal

pub returns : goal.returns
returns c =
    sorted_is_in_lines rank ranked rank_of_ranked c.args.found.items c.args.found.items c.sort_by_key.new.self.items refl
    (IsNonDecreasingBy-from_sort_by_key rank _ c.in_ok-sort_by_key.ensures.sorted (λ a r q k. search rules))
    (c.in_ok-sort_by_key.ensures.stable rank (answers_always _ _ _ (λ f a r g h. search rules)))
