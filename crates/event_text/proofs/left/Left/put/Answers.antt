use Rattle.std.proofs.Common.{List, [], ◌∷◌, ◌++◌, ◌∙◌, ap, arith}
use Rattle.kmn_base.specs.declared.items.Item.{Item}
use Rattle.kmn_base.specs.Lists.{window}
use Rattle.event_text.specs.Texts.{LeftValue}
use Rattle.event_text.proofs.Lefts.{put_stands}
use Rattle.event_text.proofs.left.Left.put.Goals as goal

pub invariant_of-self : goal.invariant_of-self
invariant_of-self c =
    let few = ap (λ (v : LeftValue). v.put) c.self.view_is in (
      omega (arith, few),
      omega (arith, few),
      put_stands _ _ c.args.item _ _ c.self.invariant.2 c.put.ensures.text
          (c.put-2.ensures ∙ ap (λ (xs : List Item). window (xs ++ c.args.item ∷ [])) c.deref_mut.ensures.value),
    )
