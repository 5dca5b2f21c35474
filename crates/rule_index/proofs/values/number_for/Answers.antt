use Rattle.std.proofs.Common.{rules}
use Rattle.rule_index.proofs.values.number_for.Goals as goal

pub overflow_add-store : goal.overflow_add-store
overflow_add-store c = search rules

pub get-requires : goal.get-requires
get-requires c κs = search rules

pub bounds-numbers-0 : goal.bounds-numbers-0
bounds-numbers-0 c = search rules
