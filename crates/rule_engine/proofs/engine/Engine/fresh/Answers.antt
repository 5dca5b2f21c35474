use Rattle.std.proofs.Common.{arith}
use Rattle.rule_engine.proofs.Engines.{first_is_at_work, first_values}
use Rattle.rule_engine.proofs.engine.Engine.fresh.Goals as goal

pub invariant_of-result : goal.invariant_of-result
invariant_of-result c = grind (arith, first_is_at_work, first_values)

pub returns : goal.returns
returns c = grind (arith, first_is_at_work, first_values)
