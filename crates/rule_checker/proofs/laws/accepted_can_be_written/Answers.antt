use Rattle.rule_checker.proofs.Written.{tables_written}
use Rattle.rule_checker.proofs.laws.accepted_can_be_written.Goals as goal

pub returns : goal.returns
returns c = tables_written
