use Rattle.std.proofs.Common.{◌≡◌, ◌++◌, map, take}
use Rattle.name_warnings.specs.Named.{warned}
use Rattle.name_warnings.proofs.named.add_warned.Given as goal

abbrev pub invariant-loop-place : goal.invariant-loop-place
invariant-loop-place l = l.found.items ≡ l.fn.found.items ++ map (warned l.concern) (take l.place-index l.uses)
