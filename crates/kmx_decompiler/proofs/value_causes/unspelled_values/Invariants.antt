use Rattle.std.proofs.Common.{◌≡◌, ◌++◌, drop}
use Rattle.kmx_decompiler.specs.ValueCauses.{unspelled_values}
use Rattle.kmx_decompiler.proofs.value_causes.unspelled_values.Given as goal

abbrev pub invariant-loop-store : goal.invariant-loop-store
invariant-loop-store l = l.unspelled.items ++ unspelled_values (drop l.store-index l.stores) ≡ unspelled_values l.stores
