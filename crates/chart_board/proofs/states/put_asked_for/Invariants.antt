use Rattle.std.proofs.Common.{◌≡◌, ◌++◌, drop, filter}
use Rattle.chart_board.specs.States.{is_asked_for}
use Rattle.chart_board.proofs.states.put_asked_for.Given as goal

abbrev pub invariant-loop-mods : goal.invariant-loop-mods
invariant-loop-mods l =
    l.states ++ filter (is_asked_for l.tables) (drop l.mods-index l.others) ≡ l.fn.states ++ filter (is_asked_for l.tables) l.others
