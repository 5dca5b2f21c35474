use Rattle.std.proofs.Common.{◌≡◌, ◌++◌, drop}
use Rattle.std.specs.String.{string_bytes}
use Rattle.chart_drawing.specs.Touch.{touch_keys}
use Rattle.chart_drawing.proofs.touch.put_touch_keys.Given as goal

abbrev pub invariant-loop-number : goal.invariant-loop-number
invariant-loop-number l =
    string_bytes l.text ++ touch_keys l.mods (drop l.number l.keys) (drop l.number l.cells)
    ≡ string_bytes l.fn.text ++ touch_keys l.mods l.keys l.cells
