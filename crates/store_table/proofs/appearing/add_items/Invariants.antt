use Rattle.std.proofs.Common.{◌≡◌, drop}
use Rattle.store_table.specs.Numbering.{with_items}
use Rattle.store_table.proofs.appearing.add_items.Given as goal

abbrev pub invariant-loop-item : goal.invariant-loop-item
invariant-loop-item l = with_items l.appeared (drop l.item-index l.items) ≡ with_items l.initial.appeared l.items
