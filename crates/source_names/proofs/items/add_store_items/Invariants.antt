use Rattle.std.proofs.Common.{◌≡◌, ◌++◌, take}
use Rattle.source_names.specs.Causes.{items_caused, store_item_cause}
use Rattle.source_names.proofs.items.add_store_items.Given as goal

abbrev pub invariant-loop-item : goal.invariant-loop-item
invariant-loop-item l = l.causes.items ≡ l.fn.causes.items ++ items_caused l.line (store_item_cause l.stores l.before) (take l.item-index l.items)
