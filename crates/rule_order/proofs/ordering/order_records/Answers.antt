use Rattle.std.proofs.Common.{length, rules}
use Rattle.std.proofs.lemmas.List.Sorted.{answers_always}
use Rattle.rule_model.specs.declared.tables.Rule.{Rule}
use Rattle.rule_order.proofs.ordering.order_records.Goals as goal

pub returns-clause-in_order : goal.returns-clause-in_order
returns-clause-in_order c =
    c.sort_unstable_by_key.ensures.sorted (λ (r : Rule). (record { 0 = length r.context }, r.line, r.place)) (answers_always _ _ _ (λ f a r g h. search rules))
