use Rattle.std.proofs.Common.{◌≡◌, ◌++◌, drop, flat_map}
use Rattle.std.specs.String.{string_bytes}
use Rattle.chart_drawing.specs.Escaped.{shown}
use Rattle.chart_drawing.proofs.escaped.put_all_shown.Given as goal

abbrev pub invariant-loop-c : goal.invariant-loop-c
invariant-loop-c l = string_bytes l.text ++ flat_map shown (drop l.c-index l.chars) ≡ string_bytes l.fn.text ++ flat_map shown l.chars
