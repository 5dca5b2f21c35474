use Rattle.std.proofs.Common.{◌≡◌, drop}
use Rattle.item_checker.specs.Summaries.{no_summaries, with_stores}
use Rattle.item_checker.proofs.summaries.stores_summaries.Given as goal

abbrev pub invariant-loop-store : goal.invariant-loop-store
invariant-loop-store l =
    with_stores l.summaries (drop l.store-index l.stores) ≡ with_stores no_summaries l.stores
