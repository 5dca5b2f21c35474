use Rattle.std.proofs.Common.{◌≡◌, ◌+◌, ◌++◌, length, drop}
use Rattle.std.specs.List.{flat_map}
use Rattle.kmx_format.specs.File.{store_strings, store_records}
use Rattle.kmx_writer.proofs.stores.put_records.Given as goal

abbrev pub invariant-loop-store : goal.invariant-loop-store
invariant-loop-store l =
    (l.place + length (flat_map store_strings (drop l.store-index l.stores)) ≡ l.fn.place + length (flat_map store_strings l.stores))
    × (l.out ++ store_records l.place (drop l.store-index l.stores) ≡ l.fn.out ++ store_records l.fn.place l.stores)
