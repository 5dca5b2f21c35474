use Rattle.std.proofs.Common.{◌≡◌, ◌++◌, drop, flat_map, map}
use Rattle.std.specs.String.{string_bytes}
use Rattle.chart_drawing.specs.Boards.{flag_word}
use Rattle.chart_drawing.proofs.boards.put_flags.Given as goal

abbrev pub invariant-loop-row : goal.invariant-loop-row
invariant-loop-row l =
    string_bytes l.text ++ flat_map (flag_word l.mods) (map (λ row. (row.0.now, row.1)) (drop l.row-index l.table))
    ≡ string_bytes l.fn.text ++ flat_map (flag_word l.mods) (map (λ row. (row.0.now, row.1)) l.table)
