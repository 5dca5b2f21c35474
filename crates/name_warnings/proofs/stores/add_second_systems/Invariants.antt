use Rattle.std.proofs.Common.{◌≡◌, ◌++◌, [], drop}
use Rattle.name_warnings.specs.Stores.{second_systems}
use Rattle.name_warnings.proofs.stores.add_second_systems.Given as goal

abbrev pub invariant-loop-store : goal.invariant-loop-store
invariant-loop-store l = l.found.items ++ second_systems l.seen (drop l.store-index l.stores) ≡ l.fn.found.items ++ second_systems [] l.stores
