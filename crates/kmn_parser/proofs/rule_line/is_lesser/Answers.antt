use Rattle.std.proofs.Common.{refl, ap, ◌∙◌}
use Rattle.std.specs.Ordering.{nat_cmp, is_lt, is_some_and}
use Rattle.std.specs.Cmp.Lexicographic.{slice_cmp, lists_agrees}
use Rattle.kmn_parser.proofs.rule_line.is_lesser.Goals as goal

pub returns : goal.returns
returns c =
    c.lt.ensures
    ∙ ap (is_some_and is_lt) (lists_agrees {R = nat_cmp} (λ x y. refl) c.text.result.now c.text-2.result.now)
    ∙ (λ i. is_lt (slice_cmp nat_cmp (c.text.ensures i) (c.text-2.ensures i)))
