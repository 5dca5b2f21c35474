use Rattle.std.proofs.Common.{◌≡◌, drop, []}
use Rattle.item_checker.specs.Summaries.{summary, with_items}
use Rattle.item_checker.proofs.summaries.items_summary.Given as goal

abbrev pub invariant-loop-item : goal.invariant-loop-item
invariant-loop-item l =
    with_items l.stores l.sum (drop l.item-index l.items) ≡ with_items l.stores (summary []) l.items
