use Rattle.std.proofs.Common.{arith}
use Rattle.std.proofs.lemmas.Grind.{common_steps}
use Rattle.kmn_parser.specs.Line.{rule_body}
use Rattle.kmn_parser.proofs.rule_line.rule_body.Goals as goal

pub returns : goal.returns
unfolding rule_body
returns c = grind (arith, common_steps)
