use Rattle.std.proofs.Common.{◌≡◌, map, take}
use Rattle.chart_cells.specs.Taps.{layer_taps}
use Rattle.chart_cells.proofs.taps.taps_now.Given as goal

abbrev pub invariant-loop-layer : goal.invariant-loop-layer
invariant-loop-layer l = l.taps ≡ map (layer_taps l.session.tables l.session.state) (take l.layer-index l.layers)
