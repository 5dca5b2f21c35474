use Rattle.std.proofs.Common.{◌≡◌, ◌++◌, take}
use Rattle.source_uses.specs.Uses.{names_of}
use Rattle.source_uses.proofs.first.add_names.Given as goal

abbrev pub invariant-loop-found : goal.invariant-loop-found
invariant-loop-found l = l.names ≡ l.fn.names ++ names_of (take l.found-index l.uses)
