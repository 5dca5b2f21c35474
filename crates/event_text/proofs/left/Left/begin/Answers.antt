use Rattle.std.proofs.Common.{List, ◌∙◌, ap, arith}
use Rattle.kmn_base.specs.declared.items.Item.{Item}
use Rattle.kmn_base.specs.Lists.{window, read_again}
use Rattle.event_text.specs.Texts.{StandingValue}
use Rattle.event_text.proofs.Lefts.{begun_stands}
use Rattle.event_text.proofs.left.Left.begin.Goals as goal

pub invariant_of-result : goal.invariant_of-result
invariant_of-result c =
    let none = ap (λ (t : StandingValue). t.added) c.of.ensures in
    let items = c.sync.ensures ∙ ap (λ (xs : List Item). window (read_again xs c.args.lent.now)) (c.deref_mut.ensures.value ∙ c.into_box-cache.ensures) in (
      omega (arith, none),
      omega arith,
      begun_stands c.args.cache.items c.args.lent.now _ _ items (ap (λ (t : StandingValue). t.text) c.of.ensures),
    )
