use Rattle.std.proofs.Common.{rules, ◌∙◌}
use Rattle.std.proofs.lemmas.List.Sorted.{IsNonDecreasingBy-from_sort_by_key, answers_always}
use Rattle.kmn_base.specs.declared.refusals.Refusal.{Refusal}
use Rattle.source_faults.proofs.InLines.{sorted_is_in_lines}
use Rattle.source_faults.proofs.in_lines.sort_by_line.Goals as goal

pub returns : goal.returns
returns c =
    c.from_vec.ensures
    ∙ sorted_is_in_lines c.args.refusals.now c.in_ok-sorted.sorted.items c.sort_by_key.new.self.items c.in_ok-sorted.ensures.items
    (IsNonDecreasingBy-from_sort_by_key (λ (found : Refusal). found.line) _ c.in_ok-sort_by_key.ensures.sorted (λ a r q k. search rules))
    (c.in_ok-sort_by_key.ensures.stable (λ (found : Refusal). found.line) (answers_always _ _ _ (λ f a r g h. search rules)))
