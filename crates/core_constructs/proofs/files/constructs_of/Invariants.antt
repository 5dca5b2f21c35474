use Rattle.std.proofs.Common.{◌≡◌, ◌++◌, drop, filter}
use Rattle.core_constructs.specs.Told.{file_has}
use Rattle.core_constructs.proofs.files.constructs_of.Given as goal

abbrev pub invariant-loop-construct : goal.invariant-loop-construct
invariant-loop-construct l = l.list ++ filter (file_has l.flags l.tables l.facts) (drop l.construct-index l.constructs) ≡ filter (file_has l.flags l.tables l.facts) l.constructs
