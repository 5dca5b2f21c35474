use Rattle.std.proofs.Common.{◌≡◌, ◌+◌, length, drop}
use Rattle.std.specs.List.{flat_map}
use Rattle.kmx_format.specs.File.{store_strings}
use Rattle.kmx_writer.proofs.stores.all_strings_size.Given as goal

abbrev pub invariant-loop-store : goal.invariant-loop-store
invariant-loop-store l = l.size + length (flat_map store_strings (drop l.store-index l.stores)) ≡ length (flat_map store_strings l.stores)
