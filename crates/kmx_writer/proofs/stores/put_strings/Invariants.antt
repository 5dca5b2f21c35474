use Rattle.std.proofs.Common.{◌≡◌, ◌++◌, drop}
use Rattle.std.specs.List.{flat_map}
use Rattle.kmx_format.specs.File.{store_strings}
use Rattle.kmx_writer.proofs.stores.put_strings.Given as goal

abbrev pub invariant-loop-store : goal.invariant-loop-store
invariant-loop-store l = l.out ++ flat_map store_strings (drop l.store-index l.stores) ≡ l.fn.out ++ flat_map store_strings l.stores
