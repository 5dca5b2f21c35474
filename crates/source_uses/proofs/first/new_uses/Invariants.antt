use Rattle.std.proofs.Common.{◌≡◌, ◌++◌, drop}
use Rattle.source_uses.specs.Uses.{new_uses}
use Rattle.source_uses.proofs.first.new_uses.Given as goal

abbrev pub invariant-loop-found : goal.invariant-loop-found
invariant-loop-found l = l.new.items ++ new_uses l.known (drop l.found-index l.uses) ≡ new_uses l.fn.known l.uses
