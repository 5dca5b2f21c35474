use Rattle.std.proofs.Common.{◌≡◌, drop}
use Rattle.chart_drawing.specs.Touch.{widest}
use Rattle.chart_drawing.proofs.touch.widest.Given as goal

abbrev pub invariant-loop-layer : goal.invariant-loop-layer
invariant-loop-layer l = widest l.width (drop l.layer-index l.layers) ≡ widest 960 l.layers
