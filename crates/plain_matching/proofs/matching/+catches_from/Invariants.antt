use Rattle.std.proofs.Common.{length}
use Rattle.plain_matching.proofs.matching.+catches_from.Given as goal

abbrev pub decreases-catches_from : goal.decreases-catches_from
decreases-catches_from l = length l.patterns.now
