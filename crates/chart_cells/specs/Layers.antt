-- What all keys of a chart do in the states that it shows.
use Rattle.std.specs.Prelude.{ℕ, ◌-◌, List, map, drop, length}
use Rattle.kmn_base.specs.declared.events.Outcome.{Outcome}
use Rattle.rule_model.specs.declared.tables.Tables.{Tables}
use Rattle.rule_model.specs.Event.{State}
use Rattle.rule_model.specs.Tab.{tab}
use Rattle.rule_engine.specs.Engine.{EngineState}
use Rattle.chart_board.specs.declared.board.Key.{Key}
use Rattle.chart_board.specs.declared.cells.Cell.{Cell}
use Rattle.chart_board.specs.declared.charts.Layer.{Layer}
use Rattle.chart_board.specs.declared.charts.Chart.{Chart}
use Rattle.chart_board.specs.Board.{chart_keys}
use Rattle.chart_board.specs.Cells.{cell}
use Rattle.chart_board.specs.Windows.{put_between}
use Rattle.chart_board.specs.States.{chart_states, press_in}

-- what a press did, from the text before the caret, the outcome that an engine returns for the press, and the engine before and after it
abbrev pub cell_seen : List ℕ → Outcome → EngineState → EngineState → Cell
cell_seen left outcome before after =
    record {
      deleted = outcome.delete;
      items = put_between (drop (length left - outcome.delete) left) after.inserted before.context after.context;
      passed = outcome.pass;
      beeps = outcome.beeps;
    }

-- what a key does in a shift state
abbrev pub key_cell : Tables → State → ℕ → Key → Cell
key_cell tables state mods key = cell tables state (press_in mods key.code)

-- a shift state, with what each key does in it
abbrev pub layer_of : Tables → State → List Key → ℕ → Layer
layer_of tables state keys mods = record { mods = mods; cells = map (key_cell tables state mods) keys }

-- the chart of a keyboard in a state: each key of the board and each of the file's own keys, in each shift state that it shows
unfoldable pub chart_of : List ℕ → Tables → State → Chart
chart_of title tables state =
    record {
      title = title;
      keys = chart_keys (tab tables).dictionary;
      layers = map (layer_of tables state (chart_keys (tab tables).dictionary)) (chart_states tables);
    }
