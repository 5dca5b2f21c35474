use Rattle.std.proofs.Common.{◌≡◌, map, take}
use Rattle.chart_cells.specs.Layers.{layer_of}
use Rattle.chart_cells.proofs.layers.layers_in.Given as goal

abbrev pub invariant-loop-mods : goal.invariant-loop-mods
invariant-loop-mods l = l.layers ≡ map (layer_of l.session.tables l.session.state l.keys) (take l.mods-index l.states)
