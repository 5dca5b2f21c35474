-- Laws of what a chart shows.
use Rattle.std.specs.Prelude.{◌≡◌}
use Rattle.kmn_base.specs.declared.keys.KeyPress.{KeyPress}
use Rattle.kmn_base.specs.Lists.{characters}
use Rattle.rule_model.specs.declared.tables.Tables.{Tables}
use Rattle.rule_model.specs.Event.{State, Happening, key_event}
use Rattle.rule_model.specs.Tab.{tab}
use Rattle.chart_board.specs.declared.cells.Cell.{Cell}
use Rattle.chart_board.specs.Cells.{cell}

-- a cell has what an event does: how many characters it deletes, the text that it inserts, whether it is passed on, and its beeps
pub record HasOutcome (cell : Cell) (happened : Happening) : Type 0 where
  pub deleted : cell.deleted ≡ happened.outcome.delete
  pub inserted : characters cell.items ≡ happened.inserted
  pub passed : cell.passed ≡ happened.outcome.pass
  pub beeps : cell.beeps ≡ happened.outcome.beeps

-- the cell of a press has what the press does as the next event in that state, as a preview of it returns it
abbrev pub CellsHaveOutcomes : Type 0
CellsHaveOutcomes = (tables : Tables) (state : State) (press : KeyPress) → HasOutcome (cell tables state press) (key_event (tab tables) press state)
