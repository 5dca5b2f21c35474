use Rattle.std.proofs.Common.{◌≡◌, drop, map}
use Rattle.rule_checker.specs.Limits.{OfStore}
use Rattle.rule_checker.specs.Listing.{listed}
use Rattle.rule_checker.proofs.listing.list_stores.Given as goal

abbrev pub invariant-loop-store : goal.invariant-loop-store
invariant-loop-store l =
    listed l.shared l.counted l.listing (map OfStore (drop l.store-index l.stores)) ≡ listed l.shared l.counted l.initial.listing (map OfStore l.stores)
