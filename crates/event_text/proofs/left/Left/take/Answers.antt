use Rattle.std.proofs.Common.{◌-◌, ◌∙◌, ap, ℕ, List, length, drop, arith}
use Rattle.kmn_base.specs.declared.items.Item.{Item}
use Rattle.kmn_base.specs.Lists.{characters, without_last}
use Rattle.event_text.specs.Texts.{LeftValue}
use Rattle.event_text.proofs.Lefts.{taken_stands}
use Rattle.event_text.proofs.left.Left.take.Goals as goal

pub invariant_of-self : goal.invariant_of-self
invariant_of-self c =
    let gone = c.last_characters-gone.ensures ∙ ap (λ (xs : List Item). length (characters (drop (length xs - c.args.count) xs))) c.deref.ensures in
    let within = ap (λ (v : LeftValue). length v.cache) c.self.view_is in (
      omega arith,
      omega arith,
      taken_stands _ _ c.args.count _ _ c.self.invariant.2 (omega (arith, within))
          (c.take.ensures.text ∙ ap (λ (n : ℕ). without_last n c.self.inside.text.text) gone)
          (c.take-2.ensures ∙ ap (λ (xs : List Item). without_last c.args.count xs) c.deref_mut.ensures.value),
    )
