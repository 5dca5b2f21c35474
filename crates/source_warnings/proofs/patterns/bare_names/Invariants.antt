use Rattle.std.proofs.Common.{◌≡◌, take}
use Rattle.source_warnings.specs.Patterns.{bare_names}
use Rattle.source_warnings.proofs.patterns.bare_names.Given as goal

abbrev pub invariant-loop-store : goal.invariant-loop-store
invariant-loop-store l = l.names ≡ bare_names l.contents l.options l.filled (take l.store-index l.stores)
