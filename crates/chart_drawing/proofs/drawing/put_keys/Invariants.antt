use Rattle.std.proofs.Common.{◌≡◌, ◌++◌, drop}
use Rattle.std.specs.String.{string_bytes}
use Rattle.chart_drawing.specs.Boards.{key_drawings}
use Rattle.chart_drawing.proofs.drawing.put_keys.Given as goal

abbrev pub invariant-loop-number : goal.invariant-loop-number
invariant-loop-number l =
    string_bytes l.text ++ key_drawings l.mods (drop l.number l.keys) (drop l.number l.cells)
    ≡ string_bytes l.fn.text ++ key_drawings l.mods l.keys l.cells
