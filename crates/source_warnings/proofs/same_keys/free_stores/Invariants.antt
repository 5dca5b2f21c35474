use Rattle.std.proofs.Common.{◌≡◌, take}
use Rattle.source_warnings.specs.SameKeys.{free_stores}
use Rattle.source_warnings.proofs.same_keys.free_stores.Given as goal

abbrev pub invariant-loop-rule : goal.invariant-loop-rule
invariant-loop-rule l = l.stores.items ≡ free_stores (take l.rule-index l.rules)
