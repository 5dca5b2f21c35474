-- What tapping the keys of a touch layout does.
use Rattle.std.specs.Prelude.{ℕ, nat_eq, true, false, if◌then◌else◌, List, [], map, codes, Option, Some, None}
use Rattle.kmn_base.specs.declared.items.Item.TheVariants as item
use Rattle.kmn_base.specs.Texts.{decoded}
use Rattle.virtual_keys.specs.Dictionary.{name_chars}
use Rattle.rule_model.specs.declared.tables.Tables.{Tables}
use Rattle.rule_model.specs.Event.{State, setting_event}
use Rattle.chart_board.specs.declared.cells.Cell.{Cell}
use Rattle.chart_board.specs.declared.charts.Layer.{Layer}
use Rattle.chart_board.specs.Cells.{cell, is_empty}
use Rattle.chart_board.specs.States.{press_in}
use Rattle.touch_board.specs.declared.layers.TouchKey.{TouchKey}
use Rattle.touch_board.specs.declared.layers.TouchLayer.{TouchLayer}
use Rattle.touch_board.specs.Words.{layer_mods}

-- what a key without a rule does: it types the characters that its id denotes, if there are any
abbrev pub typed : Option (List ℕ) → Cell
typed None = record { deleted = 0; items = []; passed = true; beeps = 0 }
typed (Some chars) = record { deleted = 0; items = map item.Char chars; passed = false; beeps = 0 }

-- what a press does, or what the key does without a rule if the press is only passed on
abbrev pub unless_passed : List ℕ → Cell → Cell
unless_passed id found = if is_empty found then typed (name_chars id) else found

-- what tapping a key does in a state, with these shift flags; a key without a code has no rule
abbrev pub tap_cell : Tables → State → ℕ → TouchKey → Cell
tap_cell tables state mods key =
    if nat_eq key.key.code 0 then typed (name_chars key.id)
    else unless_passed key.id (cell tables state (press_in mods key.key.code))

-- a state in which the touch keyboard shows a layer
abbrev pub showing : List ℕ → State → State
showing id state = setting_event (codes "&layer") (decoded id) state

-- what tapping the keys of a layer does while the touch keyboard shows it, with the shift flags that its id stands for
abbrev pub layer_taps : Tables → State → TouchLayer → Layer
layer_taps tables state layer =
    record { mods = layer_mods layer.id; cells = map (tap_cell tables (showing layer.id state) (layer_mods layer.id)) layer.keys }
