use Rattle.std.proofs.Common.{◌≡◌, drop}
use Rattle.source_uses.specs.Elements.{no_contents, with_stores}
use Rattle.source_uses.proofs.contents.contents_of_stores.Given as goal

abbrev pub invariant-loop-store : goal.invariant-loop-store
invariant-loop-store l = with_stores l.contents (drop l.store-index l.stores) ≡ with_stores no_contents l.stores
