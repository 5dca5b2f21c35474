use Rattle.std.proofs.Common.{◌≡◌, drop}
use Rattle.std.specs.List.{list_any}
use Rattle.core_export.specs.Readable.{is_misread_store}
use Rattle.core_export.proofs.misread.some_store_misread.Given as goal

abbrev pub invariant-loop-store : goal.invariant-loop-store
invariant-loop-store l = list_any is_misread_store (drop l.store-index l.stores) ≡ list_any is_misread_store l.stores
