use Rattle.std.proofs.Common.{◌≡◌, ◌++◌, drop, map}
use Rattle.refusal_details.specs.Definitions.{store_definition}
use Rattle.refusal_details.proofs.definitions.store_definitions.Given as goal

abbrev pub invariant-loop-store : goal.invariant-loop-store
invariant-loop-store l = l.list ++ map store_definition (drop l.store-index l.stores) ≡ map store_definition l.stores
