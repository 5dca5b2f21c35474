use Rattle.std.proofs.Common.{◌≡◌, ◌+◌, ◌*◌, ◌++◌, drop}
use Rattle.std.specs.String.{string_bytes}
use Rattle.chart_drawing.specs.Boards.{boards}
use Rattle.chart_drawing.proofs.boards.put_boards.Given as goal

abbrev pub invariant-loop-layer : goal.invariant-loop-layer
invariant-loop-layer l = record {
  top : l.top ≡ 72 + l.layer-index * l.height;
  drawn : string_bytes l.text ++ boards l.keys l.height l.top (drop l.layer-index l.layers) ≡ string_bytes l.fn.text ++ boards l.keys l.height 72 l.layers;
}
