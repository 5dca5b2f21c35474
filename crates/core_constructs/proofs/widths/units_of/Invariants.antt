use Rattle.std.proofs.Common.{◌≡◌, map, take}
use Rattle.core_constructs.specs.Widths.{store_units}
use Rattle.core_constructs.proofs.widths.units_of.Given as goal

abbrev pub invariant-loop-store : goal.invariant-loop-store
invariant-loop-store l = l.units ≡ map store_units (take l.store-index l.stores)
