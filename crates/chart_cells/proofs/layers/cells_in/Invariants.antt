use Rattle.std.proofs.Common.{◌≡◌, map, take}
use Rattle.chart_cells.specs.Layers.{key_cell}
use Rattle.chart_cells.proofs.layers.cells_in.Given as goal

abbrev pub invariant-loop-key : goal.invariant-loop-key
invariant-loop-key l = l.cells ≡ map (key_cell l.session.tables l.session.state l.mods) (take l.key-index l.keys)
