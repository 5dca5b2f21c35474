use Rattle.std.proofs.Common.{◌≡◌, ◌++◌, drop}
use Rattle.std.specs.String.{string_bytes}
use Rattle.chart_drawing.specs.Touch.{touch_boards}
use Rattle.chart_drawing.proofs.touch.put_touch_boards.Given as goal

abbrev pub invariant-loop-number : goal.invariant-loop-number
invariant-loop-number l =
    string_bytes l.text ++ touch_boards l.place (drop l.number l.layers) (drop l.number l.taps)
    ≡ string_bytes l.fn.text ++ touch_boards l.top l.layers l.taps
