use Rattle.std.proofs.Common.{arith}
use Rattle.std.proofs.lemmas.Grind.{common_steps}
use Rattle.event_text.proofs.StandingTexts.{taken_from_added, taken_from_lent}
use Rattle.event_text.proofs.standing.Standing.take.Goals as goal

pub invariant_of-self : goal.invariant_of-self
invariant_of-self c = grind (arith, taken_from_added, taken_from_lent)

pub invariant_of-self-else-count-self : goal.invariant_of-self-else-count-self
invariant_of-self-else-count-self c = grind (arith, taken_from_added, taken_from_lent)

pub returns-then-count-self-clause-lent : goal.returns-then-count-self-clause-lent
returns-then-count-self-clause-lent c = grind (arith, taken_from_added, taken_from_lent)

pub returns-then-count-self-clause-text : goal.returns-then-count-self-clause-text
returns-then-count-self-clause-text c = grind (arith, taken_from_added, taken_from_lent)

pub returns-then-count-self-clause-added : goal.returns-then-count-self-clause-added
returns-then-count-self-clause-added c = grind (arith, taken_from_added, taken_from_lent)

pub returns-else-count-self-clause-lent : goal.returns-else-count-self-clause-lent
returns-else-count-self-clause-lent c = grind (arith, taken_from_added, taken_from_lent)

pub returns-else-count-self-clause-added : goal.returns-else-count-self-clause-added
returns-else-count-self-clause-added c = grind (arith, taken_from_added, taken_from_lent)

pub returns-else-count-self-clause-text : goal.returns-else-count-self-clause-text
returns-else-count-self-clause-text c = grind (arith, common_steps)
