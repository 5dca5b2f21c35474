use Rattle.std.proofs.Common.{◌≡◌, ◌++◌, drop}
use Rattle.std.specs.Prelude.{filter_map}
use Rattle.shadow_text.specs.Verdicts.{line_at}
use Rattle.shadow_text.proofs.verdicts.lines_at.Given as goal

abbrev pub invariant-loop-number : goal.invariant-loop-number
invariant-loop-number l =
    l.lines.items ++ filter_map (line_at l.rules) (drop l.number-index l.numbers) ≡ filter_map (line_at l.rules) l.numbers
