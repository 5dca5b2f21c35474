use Rattle.std.proofs.Common.{◌≡◌, drop}
use Rattle.std.specs.Prelude.{find}
use Rattle.rule_model.specs.Src.{is_cased_keys}
use Rattle.rule_expand.proofs.cased_keys.cased_elements.Given as goal

abbrev pub invariant-loop-store : goal.invariant-loop-store
invariant-loop-store l = find is_cased_keys (drop l.store-index l.stores) ≡ find is_cased_keys l.stores
