use Rattle.std.proofs.Common.{rules}
use Rattle.rule_matching.proofs.known_places.KnownPlaces.known.Goals as goal

pub deref-requires : goal.deref-requires
deref-requires c κs = search rules

pub overflow_cast-store : goal.overflow_cast-store
overflow_cast-store c = search rules

pub get-requires : goal.get-requires
get-requires c κs = search rules

pub branch-places-requires : goal.branch-places-requires
branch-places-requires c κs = search rules

pub from_residual-requires : goal.from_residual-requires
from_residual-requires c κs = search rules

pub get-requires-2 : goal.get-requires-2
get-requires-2 c κs = search rules

pub branch-cell-requires : goal.branch-cell-requires
branch-cell-requires c κs = search rules

pub from_residual-requires-in_err-cell : goal.from_residual-requires-in_err-cell
from_residual-requires-in_err-cell c κs = search rules

pub overflow_sub-result : goal.overflow_sub-result
overflow_sub-result c = search rules
