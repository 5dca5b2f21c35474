use Rattle.std.proofs.Common.{◌≡◌, ◌++◌, drop, flat_map}
use Rattle.std.specs.String.{string_bytes}
use Rattle.chart_drawing.specs.Escaped.{escaped}
use Rattle.chart_drawing.proofs.escaped.put_all_escaped.Given as goal

abbrev pub invariant-loop-c : goal.invariant-loop-c
invariant-loop-c l = string_bytes l.text ++ flat_map escaped (drop l.c-index l.chars) ≡ string_bytes l.fn.text ++ flat_map escaped l.chars
