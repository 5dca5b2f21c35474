use Rattle.std.proofs.Common.{◌≡◌, map, take}
use Rattle.core_constructs.specs.Found.{told_at}
use Rattle.core_constructs.proofs.line_list.told.Given as goal

abbrev pub invariant-loop-line : goal.invariant-loop-line
invariant-loop-line l = l.told ≡ map (told_at l.all) (take l.line-index l.lines)
