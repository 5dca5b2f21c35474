use Rattle.std.proofs.Common.{◌≡◌, drop}
use Rattle.store_table.specs.First.{first_code}
use Rattle.item_checker.specs.Items.{store_item_code}
use Rattle.item_checker.proofs.stores.store_items_code.Given as goal

abbrev pub invariant-loop-item : goal.invariant-loop-item
invariant-loop-item l =
    first_code (store_item_code l.facts l.characters l.keys) (drop l.item-index l.items)
    ≡ first_code (store_item_code l.facts l.characters l.keys) l.items
