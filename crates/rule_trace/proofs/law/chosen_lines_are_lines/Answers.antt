use Rattle.rule_trace.proofs.Among.{chosen_are_lines}
use Rattle.rule_trace.proofs.law.chosen_lines_are_lines.Goals as goal

pub returns : goal.returns
returns c = chosen_are_lines
