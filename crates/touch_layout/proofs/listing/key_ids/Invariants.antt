use Rattle.std.proofs.Common.{◌≡◌, ◌++◌, drop, map}
use Rattle.touch_layout.specs.Keys.{keys_view}
use Rattle.touch_layout.specs.Layout.{id_of}
use Rattle.touch_layout.proofs.listing.key_ids.Given as goal

abbrev pub invariant-loop-key : goal.invariant-loop-key
invariant-loop-key l = l.ids ++ map id_of (keys_view (drop l.key-index l.keys)) ≡ map id_of (keys_view l.keys)
