use Rattle.kmn_base.specs.declared.items.Element.TheVariants as element
use Rattle.rule_expand.proofs.CasedCodes.{code_more}
use Rattle.rule_expand.proofs.cased_keys.codes_among.Goals as goal

pub loop-element-preserved : goal.loop-element-preserved
loop-element-preserved c =
    code_more c.loop-element.codes.keys c.add_code.new.codes.keys c.args.elements.now c.loop-element.element-index (element.Char 0) c.loop-element-test.true c.loop-element.invariant
    c.in_ok-add_code.ensures
