use Rattle.std.proofs.Common.{arith}
use Rattle.std.proofs.lemmas.Grind.{common_steps}
use Rattle.rule_model.specs.Lines.{event_line}
use Rattle.play_script.proofs.transcript.line_of.Goals as goal

pub returns : goal.returns
unfolding event_line
returns c = grind (arith, common_steps)
