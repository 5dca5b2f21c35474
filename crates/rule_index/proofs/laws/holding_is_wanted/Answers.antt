use Rattle.rule_index.proofs.Meeting.{holding_is_wanted}
use Rattle.rule_index.proofs.laws.holding_is_wanted.Goals as goal

pub returns : goal.returns
returns c = holding_is_wanted
