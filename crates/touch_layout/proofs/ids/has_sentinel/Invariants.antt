use Rattle.std.proofs.Common.{◌≡◌, drop}
use Rattle.touch_layout.specs.Ids.{has_sentinel}
use Rattle.touch_layout.proofs.ids.has_sentinel.Given as goal

abbrev pub invariant-loop-at : goal.invariant-loop-at
invariant-loop-at l =
    has_sentinel (drop l.at l.text) ≡ has_sentinel l.text
