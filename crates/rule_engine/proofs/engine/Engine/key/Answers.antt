use Rattle.std.proofs.Common.{arith}
use Rattle.std.proofs.lemmas.Grind.{common_steps}
use Rattle.rule_engine.proofs.engine.Engine.key.Goals as goal

pub invariant_of-self : goal.invariant_of-self
invariant_of-self c = grind (arith, common_steps)

pub returns-clause-outcome : goal.returns-clause-outcome
returns-clause-outcome c = grind (arith, common_steps)

pub returns-clause-engine : goal.returns-clause-engine
returns-clause-engine c = grind (arith, common_steps)
