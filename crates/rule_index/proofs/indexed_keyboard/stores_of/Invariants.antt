use Rattle.std.proofs.Common.{◌≡◌, ◌++◌}
use Rattle.rule_index.specs.Stores.{store_contents}
use Rattle.rule_index.proofs.indexed_keyboard.stores_of.Given as goal

abbrev pub invariant-loop-store : goal.invariant-loop-store
invariant-loop-store l = l.stores.items ++ store_contents l.store-iterator ≡ store_contents l.file.stores
