use Rattle.std.proofs.Common.{◌≡◌, ◌++◌, drop, map}
use Rattle.option_store.specs.Cells.{cell_at}
use Rattle.play_session.proofs.options.cells_now.Given as goal

abbrev pub invariant-loop-option : goal.invariant-loop-option
invariant-loop-option l = l.cells.items ++ map (cell_at l.held) (drop l.option l.options) ≡ map (cell_at l.held) l.options
