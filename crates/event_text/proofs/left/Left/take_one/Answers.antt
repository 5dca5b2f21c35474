use Rattle.std.proofs.Common.{arith}
use Rattle.std.proofs.lemmas.Grind.{common_steps}
use Rattle.event_text.proofs.Lefts.{none_left, none_in}
use Rattle.event_text.proofs.left.Left.take_one.Goals as goal

pub returns-then-not-is_empty-clause-items : goal.returns-then-not-is_empty-clause-items
returns-then-not-is_empty-clause-items c = grind (arith, none_left, none_in)

pub returns-then-not-is_empty-clause-cache : goal.returns-then-not-is_empty-clause-cache
returns-then-not-is_empty-clause-cache c = grind (arith, none_left, none_in)

pub returns-then-not-is_empty-clause-lent : goal.returns-then-not-is_empty-clause-lent
returns-then-not-is_empty-clause-lent c = grind (arith, none_left, none_in)

pub returns-then-not-is_empty-clause-put : goal.returns-then-not-is_empty-clause-put
returns-then-not-is_empty-clause-put c = grind (arith, none_left, none_in)

pub returns-else-not-is_empty-clause-cache : goal.returns-else-not-is_empty-clause-cache
returns-else-not-is_empty-clause-cache c = grind (arith, none_left, none_in)

pub returns-else-not-is_empty-clause-lent : goal.returns-else-not-is_empty-clause-lent
returns-else-not-is_empty-clause-lent c = grind (arith, none_left, none_in)

pub returns-else-not-is_empty-clause-put : goal.returns-else-not-is_empty-clause-put
returns-else-not-is_empty-clause-put c = grind (arith, none_left, none_in)

pub returns-else-not-is_empty-clause-items : goal.returns-else-not-is_empty-clause-items
returns-else-not-is_empty-clause-items c = grind (arith, common_steps)
