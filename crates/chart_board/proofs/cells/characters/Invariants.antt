use Rattle.std.proofs.Common.{◌≡◌, ◌++◌, drop}
use Rattle.kmn_base.specs.Lists.{characters}
use Rattle.chart_board.proofs.cells.characters.Given as goal

abbrev pub invariant-loop-item : goal.invariant-loop-item
invariant-loop-item l = l.chars ++ characters (drop l.item-index l.items) ≡ characters l.items
