use Rattle.std.proofs.Common.{◌≡◌, ◌++◌, drop, map}
use Rattle.serde_json.specs.View.{view}
use Rattle.touch_board.specs.Caps.{flick_caps}
use Rattle.touch_board.proofs.caps.put_flicks.Given as goal

abbrev pub invariant-loop-direction : goal.invariant-loop-direction
invariant-loop-direction l =
    l.text ++ flick_caps (view l.flick) (map (λ direction. direction.now) (drop l.direction-index l.directions))
    ≡ l.fn.text ++ flick_caps (view l.flick) (map (λ direction. direction.now) l.directions)
