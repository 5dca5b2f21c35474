use Rattle.std.proofs.Common.{arith}
use Rattle.load_maker.proofs.Lines.{one_rule_more}
use Rattle.load_maker.proofs.load.source_text.Goals as goal

pub loop-i-preserved : goal.loop-i-preserved
loop-i-preserved c = grind (arith, one_rule_more)

pub returns : goal.returns
returns c = grind (arith, one_rule_more)
