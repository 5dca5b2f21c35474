use Rattle.std.proofs.Common.{◌≡◌, drop}
use Rattle.rule_checker.specs.Cased.{codes_from, no_stores}
use Rattle.rule_checker.proofs.cased.first_codes.Given as goal

abbrev pub invariant-loop-store : goal.invariant-loop-store
invariant-loop-store l = codes_from l.before (drop l.store-index l.stores) ≡ codes_from no_stores l.stores
