use Rattle.std.proofs.Common.{arith}
use Rattle.std.proofs.lemmas.Grind.{common_steps}
use Rattle.rule_matching.proofs.store_marks.StoreMarks.mark.Goals as goal

pub invariant_of-self : goal.invariant_of-self
invariant_of-self c = grind (arith, common_steps)

pub returns-clause-marked : goal.returns-clause-marked
returns-clause-marked c = grind (arith, common_steps)

pub returns-clause-others_marked : goal.returns-clause-others_marked
returns-clause-others_marked c = grind (arith, common_steps)

pub returns-clause-room : goal.returns-clause-room
returns-clause-room c = grind (arith, common_steps)
