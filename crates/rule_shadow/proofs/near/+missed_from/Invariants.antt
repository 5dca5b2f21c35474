use Rattle.std.proofs.Common.{length}
use Rattle.rule_shadow.proofs.near.+missed_from.Given as goal

abbrev pub decreases-missed_from : goal.decreases-missed_from
decreases-missed_from l = length l.context.now
