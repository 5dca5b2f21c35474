use Rattle.std.proofs.Common.{◌≡◌, drop}
use Rattle.std.specs.List.{list_any}
use Rattle.core_export.specs.Readable.{is_nameless}
use Rattle.core_export.proofs.nameless.some_nameless.Given as goal

abbrev pub invariant-loop-store : goal.invariant-loop-store
invariant-loop-store l = list_any (is_nameless l.stores l.set) (drop l.store-index l.reset) ≡ list_any (is_nameless l.stores l.set) l.reset
