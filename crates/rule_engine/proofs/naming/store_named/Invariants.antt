use Rattle.std.proofs.Common.{◌≡◌}
use Rattle.rule_engine.proofs.OptionNames.{named_from}
use Rattle.rule_engine.proofs.naming.store_named.Given as goal

abbrev pub invariant-loop-store : goal.invariant-loop-store
invariant-loop-store l = named_from l.indexed l.name l.store ≡ named_from l.indexed l.name 0
