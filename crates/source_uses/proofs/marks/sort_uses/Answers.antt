use Rattle.std.proofs.Common.{ℕ, [], rules, refl}
use Rattle.std.proofs.lemmas.List.Sorted.{IsNonDecreasingBy-from_sort_by_key, answers_always}
use Rattle.source_uses.specs.declared.used.Use.{Use}
use Rattle.source_uses.specs.Marks.{use_line}
use Rattle.source_uses.proofs.InLines.{sorted_is_in_lines}
use Rattle.source_uses.proofs.marks.sort_uses.Goals as goal

abbrev at_line : ℕ → Use
at_line line = record { line = line; name = [] }

pub returns : goal.returns
returns c =
    sorted_is_in_lines use_line at_line (λ line. refl) c.args.uses.items c.args.uses.items c.sort_by_key.new.self.items refl
    (IsNonDecreasingBy-from_sort_by_key (λ (found : Use). found.line) _ c.in_ok-sort_by_key.ensures.sorted (λ a r q k. search rules))
    (c.in_ok-sort_by_key.ensures.stable (λ (found : Use). found.line) (answers_always _ _ _ (λ f a r g h. search rules)))
