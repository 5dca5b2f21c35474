use Rattle.std.proofs.Common.{arith}
use Rattle.std.proofs.lemmas.Grind.{common_steps}
use Rattle.rule_matching.proofs.store_value.StoreValueIterator.next.Goals as goal

pub returns-in_default-clause-steps : goal.returns-in_default-clause-steps
returns-in_default-clause-steps c = grind (arith, common_steps)

pub returns-in_default-text-clause-steps : goal.returns-in_default-text-clause-steps
returns-in_default-text-clause-steps c = grind (arith, common_steps)

pub returns-in-len1-up-clause-steps : goal.returns-in-len1-up-clause-steps
returns-in-len1-up-clause-steps c = grind (arith, common_steps)

pub returns-in-len1-up-text-clause-steps : goal.returns-in-len1-up-text-clause-steps
returns-in-len1-up-text-clause-steps c = grind (arith, common_steps)

pub returns-in-len1-up-text-clause-goes : goal.returns-in-len1-up-text-clause-goes
returns-in-len1-up-text-clause-goes c = grind (arith, common_steps)
