use Rattle.std.proofs.Common.{◌≡◌, ◌++◌, take}
use Rattle.source_warnings.specs.Keys.{stores_keys}
use Rattle.source_warnings.proofs.keys.add_stores_keys.Given as goal

abbrev pub invariant-loop-place : goal.invariant-loop-place
invariant-loop-place l = l.found.items ≡ l.fn.found.items ++ stores_keys l.characters.keys l.contents (take l.place-index l.stores)
