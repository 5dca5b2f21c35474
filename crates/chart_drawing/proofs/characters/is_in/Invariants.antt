use Rattle.std.proofs.Common.{◌≡◌, drop}
use Rattle.chart_drawing.specs.Escaped.{is_in}
use Rattle.chart_drawing.proofs.characters.is_in.Given as goal

abbrev pub invariant-loop-range : goal.invariant-loop-range
invariant-loop-range l = is_in (drop l.range-index l.ranges) l.code ≡ is_in l.ranges l.code
