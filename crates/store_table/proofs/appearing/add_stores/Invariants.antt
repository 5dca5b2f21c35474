use Rattle.std.proofs.Common.{◌≡◌, drop}
use Rattle.rule_model.specs.Naming.{store_items}
use Rattle.store_table.specs.Numbering.{with_items}
use Rattle.store_table.proofs.appearing.add_stores.Given as goal

abbrev pub invariant-loop-store : goal.invariant-loop-store
invariant-loop-store l =
    with_items l.appeared (store_items (drop l.store-index l.stores)) ≡ with_items l.initial.appeared (store_items l.stores)
