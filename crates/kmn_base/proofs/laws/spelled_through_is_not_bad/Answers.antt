use Rattle.kmn_base.proofs.FirstFaults.{spelled_through_is_not_bad}
use Rattle.kmn_base.proofs.laws.spelled_through_is_not_bad.Goals as goal

pub returns : goal.returns
returns c = spelled_through_is_not_bad
