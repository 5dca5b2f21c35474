use Rattle.std.proofs.Common.{◌≡◌, map, take}
use Rattle.core_constructs.specs.Found.{found_of}
use Rattle.core_constructs.proofs.line_list.found_of.Given as goal

abbrev pub invariant-loop-construct : goal.invariant-loop-construct
invariant-loop-construct l = l.all ≡ map (found_of l.tables l.facts l.spent) (take l.construct-index l.constructs)
