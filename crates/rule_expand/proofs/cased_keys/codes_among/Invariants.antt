use Rattle.std.proofs.Common.{take}
use Rattle.rule_model.specs.Src.{codes_among}
use Rattle.rule_expand.specs.CasedCodes.{HasCodes}
use Rattle.rule_expand.proofs.cased_keys.codes_among.Given as goal

abbrev pub invariant-loop-element : goal.invariant-loop-element
invariant-loop-element l = HasCodes l.codes.keys (codes_among (take l.element-index l.elements))
