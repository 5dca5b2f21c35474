use Rattle.std.proofs.Common.{◌≡◌, ◌++◌, flat_map, take}
use Rattle.source_warnings.specs.SameKeys.{store_characters}
use Rattle.source_warnings.proofs.same_keys.add_stores_characters.Given as goal

abbrev pub invariant-loop-store : goal.invariant-loop-store
invariant-loop-store l = l.characters ≡ l.fn.characters ++ flat_map (store_characters l.contents) (take l.store-index l.stores)
