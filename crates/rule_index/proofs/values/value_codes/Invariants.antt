use Rattle.std.proofs.Common.{◌≡◌, ◌++◌, [], ◌∷◌, drop, map}
use Rattle.rule_index.specs.Values.{value_code}
use Rattle.rule_index.proofs.values.value_codes.Given as goal

abbrev pub invariant-loop-store : goal.invariant-loop-store
invariant-loop-store l = l.codes.items ++ map value_code (drop l.store-index l.stores) ≡ map value_code ([] ∷ l.stores)
