use Rattle.std.proofs.Common.{◌≡◌, drop, map}
use Rattle.rule_checker.specs.Limits.{OfStore}
use Rattle.rule_checker.specs.Walking.{walked}
use Rattle.rule_checker.proofs.walking.walk_stores.Given as goal

abbrev pub invariant-loop-store : goal.invariant-loop-store
invariant-loop-store l =
    walked l.counted l.walk (map OfStore (drop l.store-index l.stores)) ≡ walked l.counted l.initial.walk (map OfStore l.stores)
