use Rattle.std.proofs.Common.{◌≡◌, ◌++◌, take, map}
use Rattle.compile_laws.specs.Numbers.{value_store}
use Rattle.rule_expand.proofs.stores.add_values.Given as goal

abbrev pub invariant-loop-place : goal.invariant-loop-place
invariant-loop-place l = l.stores.items ≡ l.initial.stores.items ++ map value_store (take l.place l.values)
