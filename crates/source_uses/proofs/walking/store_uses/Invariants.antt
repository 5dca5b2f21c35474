use Rattle.std.proofs.Common.{◌≡◌, take}
use Rattle.source_uses.specs.Uses.{store_uses}
use Rattle.source_uses.proofs.walking.store_uses.Given as goal

abbrev pub invariant-loop-store : goal.invariant-loop-store
invariant-loop-store l = l.uses.items ≡ store_uses l.role (take l.store-index l.stores)
