use Rattle.std.proofs.Common.{rules, ◌∙◌, refl}
use Rattle.std.proofs.lemmas.List.Sorted.{IsNonDecreasingBy-from_sort_by_key, answers_always}
use Rattle.source_names.specs.declared.causes.NameFault.{NameFault}
use Rattle.source_names.proofs.InLines.{sorted_is_in_lines}
use Rattle.source_names.proofs.sorting.sort_by_line.Goals as goal

pub returns : goal.returns
returns c =
    sorted_is_in_lines c.args.causes.items c.args.causes.items c.sort_by_key.new.self.items refl
    (IsNonDecreasingBy-from_sort_by_key (λ (fault : NameFault). fault.line) _ c.in_ok-sort_by_key.ensures.sorted (λ a r q k. search rules))
    (c.in_ok-sort_by_key.ensures.stable (λ (fault : NameFault). fault.line) (answers_always _ _ _ (λ f a r g h. search rules)))
