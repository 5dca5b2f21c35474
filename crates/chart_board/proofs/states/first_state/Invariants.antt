use Rattle.std.proofs.Common.{◌≡◌, drop, find}
use Rattle.chart_board.specs.States.{fits_in}
use Rattle.chart_board.proofs.states.first_state.Given as goal

abbrev pub invariant-loop-mods : goal.invariant-loop-mods
invariant-loop-mods l = find (fits_in l.key) (drop l.mods-index l.states) ≡ find (fits_in l.key) l.states
