use Rattle.std.proofs.Common.{◌≡◌, drop}
use Rattle.store_table.specs.First.{first_code}
use Rattle.store_table.specs.Names.{store_item_code}
use Rattle.store_table.proofs.refusing.store_items_code.Given as goal

abbrev pub invariant-loop-item : goal.invariant-loop-item
invariant-loop-item l = first_code (store_item_code l.stated l.before) (drop l.item-index l.items) ≡ first_code (store_item_code l.stated l.before) l.items
