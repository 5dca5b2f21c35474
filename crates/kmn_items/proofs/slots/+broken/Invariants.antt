use Rattle.std.proofs.Common.{length}
use Rattle.kmn_items.proofs.slots.+broken.Given as goal

abbrev pub decreases-broken : goal.decreases-broken
decreases-broken l = length l.slots.now
