use Rattle.std.proofs.Common.{◌≡◌, drop}
use Rattle.std.specs.List.{list_any}
use Rattle.chart_board.specs.States.{group_asks_for}
use Rattle.chart_board.proofs.states.is_asked_for.Given as goal

abbrev pub invariant-loop-group : goal.invariant-loop-group
invariant-loop-group l = list_any (group_asks_for l.mods) (drop l.group-index l.tables.groups) ≡ list_any (group_asks_for l.mods) l.tables.groups
