use Rattle.std.proofs.Common.{◌≡◌, drop}
use Rattle.name_warnings.specs.Values.{with_own_values}
use Rattle.name_warnings.proofs.values.add_own_values.Given as goal

abbrev pub invariant-loop-store : goal.invariant-loop-store
invariant-loop-store l = with_own_values l.contents l.options l.given (drop l.store-index l.stores) ≡ with_own_values l.contents l.options l.fn.given l.stores
