use Rattle.std.proofs.Common.{rules}
use Rattle.rule_matching.proofs.store_marks.StoreMarks.is_marked.Goals as goal

pub deref-requires : goal.deref-requires
deref-requires c κs = search rules

pub get-requires : goal.get-requires
get-requires c κs = search rules

pub has_distance-requires : goal.has_distance-requires
has_distance-requires c = search rules
