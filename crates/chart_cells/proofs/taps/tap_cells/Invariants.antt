use Rattle.std.proofs.Common.{◌≡◌, map, take}
use Rattle.chart_cells.specs.Taps.{tap_cell}
use Rattle.chart_cells.proofs.taps.tap_cells.Given as goal

abbrev pub invariant-loop-key : goal.invariant-loop-key
invariant-loop-key l = l.cells ≡ map (tap_cell l.session.tables l.session.state l.mods) (take l.key-index l.keys)
