use Rattle.std.proofs.Common.{◌≡◌, drop}
use Rattle.chart_drawing.specs.Touch.{below_boards}
use Rattle.chart_drawing.proofs.touch.below_boards.Given as goal

abbrev pub invariant-loop-layer : goal.invariant-loop-layer
invariant-loop-layer l = below_boards l.place (drop l.layer-index l.layers) ≡ below_boards l.top l.layers
