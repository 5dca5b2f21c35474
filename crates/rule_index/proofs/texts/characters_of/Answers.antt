use Rattle.std.proofs.Common.{refl, arith}
use Rattle.kmn_base.specs.declared.items.Element.TheVariants.{Key, Mark}
use Rattle.rule_index.proofs.TextEntries.{not_text}
use Rattle.rule_index.proofs.texts.characters_of.Goals as goal

pub returns-in-Mark : goal.returns-in-Mark
returns-in-Mark c =
    not_text c.args.elements.now c.loop-element.element-index _ (Mark c.in-Mark.field-0) (omega (arith, c.loop-element-test.true)) c.in-Mark.is (λ x. refl)

pub returns-in-Key : goal.returns-in-Key
returns-in-Key c =
    not_text c.args.elements.now c.loop-element.element-index _ (Key c.in-Key.flags c.in-Key.code) (omega (arith, c.loop-element-test.true)) c.in-Key.is (λ x. refl)
