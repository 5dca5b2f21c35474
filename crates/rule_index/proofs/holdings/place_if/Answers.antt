use Rattle.std.proofs.Common.{rules}
use Rattle.rule_index.proofs.holdings.place_if.Goals as goal

pub get-requires : goal.get-requires
get-requires c κs = search rules

pub from-requires : goal.from-requires
from-requires c = search rules
