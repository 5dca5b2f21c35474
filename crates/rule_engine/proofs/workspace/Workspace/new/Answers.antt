use Rattle.std.proofs.Common.{arith}
use Rattle.std.proofs.lemmas.Grind.{common_steps}
use Rattle.rule_engine.proofs.workspace.Workspace.new.Goals as goal

pub returns-clause-cache : goal.returns-clause-cache
returns-clause-cache c = grind (arith, common_steps)

pub returns-clause-options : goal.returns-clause-options
returns-clause-options c = grind (arith, common_steps)

pub returns-clause-truths : goal.returns-clause-truths
returns-clause-truths c = grind (arith, common_steps)

pub returns-clause-inserted : goal.returns-clause-inserted
returns-clause-inserted c = grind (arith, common_steps)

pub returns-clause-chosen : goal.returns-clause-chosen
returns-clause-chosen c = grind (arith, common_steps)

pub returns-clause-lines : goal.returns-clause-lines
returns-clause-lines c = grind (arith, common_steps)

pub returns-clause-places : goal.returns-clause-places
returns-clause-places c = grind (arith, common_steps)

pub overflow_cast-with_capacity : goal.overflow_cast-with_capacity
overflow_cast-with_capacity c = grind (arith, common_steps)
