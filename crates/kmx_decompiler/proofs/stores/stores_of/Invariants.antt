use Rattle.std.proofs.Common.{◌≡◌, ◌++◌}
use Rattle.kmx_decompiler.proofs.stores.stores_of.Given as goal

abbrev pub invariant-loop-store : goal.invariant-loop-store
invariant-loop-store l = l.stores ++ l.store-iterator ≡ l.file.stores
