use Rattle.std.proofs.Common.{◌≡◌, take}
use Rattle.source_uses.specs.Uses.{stated_stores}
use Rattle.source_uses.proofs.walking.stated_stores.Given as goal

abbrev pub invariant-loop-store : goal.invariant-loop-store
invariant-loop-store l = l.uses.items ≡ stated_stores (take l.store-index l.stores)
