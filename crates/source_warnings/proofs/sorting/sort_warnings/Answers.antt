use Rattle.std.proofs.Common.{ℕ, rules, refl}
use Rattle.std.proofs.lemmas.List.Sorted.{IsNonDecreasingBy-from_sort_by_key, answers_always}
use Rattle.source_uses.proofs.InLines.{sorted_is_in_lines}
use Rattle.name_warnings.specs.declared.warning.Warning.{Warning}
use Rattle.name_warnings.specs.declared.warning.WarningKind.TheVariants as kind
use Rattle.source_warnings.specs.Warnings.{warning_line}
use Rattle.source_warnings.proofs.sorting.sort_warnings.Goals as goal

abbrev at_line : ℕ → Warning
at_line line = record { line = line; kind = kind.ContradictoryConditions }

pub returns : goal.returns
returns c =
    sorted_is_in_lines warning_line at_line (λ line. refl) c.args.found.items c.args.found.items c.sort_by_key.new.self.items refl
    (IsNonDecreasingBy-from_sort_by_key (λ (found : Warning). found.line) _ c.in_ok-sort_by_key.ensures.sorted (λ a r q k. search rules))
    (c.in_ok-sort_by_key.ensures.stable (λ (found : Warning). found.line) (answers_always _ _ _ (λ f a r g h. search rules)))
