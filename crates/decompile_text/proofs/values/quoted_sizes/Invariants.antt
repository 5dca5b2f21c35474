use Rattle.std.proofs.Common.{◌≡◌, ◌++◌, drop}
use Rattle.decompile_text.specs.Sizes.{quoted_sizes}
use Rattle.decompile_text.proofs.values.quoted_sizes.Given as goal

abbrev pub invariant-loop-store : goal.invariant-loop-store
invariant-loop-store l = l.sizes.items ++ quoted_sizes (drop l.store-index l.stores) ≡ quoted_sizes l.stores
