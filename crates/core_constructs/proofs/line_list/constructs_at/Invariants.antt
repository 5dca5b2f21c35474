use Rattle.std.proofs.Common.{◌≡◌, ◌++◌, drop}
use Rattle.core_constructs.specs.Found.{found_at}
use Rattle.core_constructs.proofs.line_list.constructs_at.Given as goal

abbrev pub invariant-loop-found : goal.invariant-loop-found
invariant-loop-found l = l.constructs ++ found_at (drop l.found-index l.all) l.line ≡ found_at l.all l.line
