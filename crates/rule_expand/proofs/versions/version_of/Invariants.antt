use Rattle.std.proofs.Common.{◌≡◌, drop}
use Rattle.std.specs.Prelude.{find}
use Rattle.compile_laws.specs.Numbers.{is_version}
use Rattle.rule_expand.proofs.versions.version_of.Given as goal

abbrev pub invariant-loop-store : goal.invariant-loop-store
invariant-loop-store l = find is_version (drop l.store-index l.stores) ≡ find is_version l.stores
