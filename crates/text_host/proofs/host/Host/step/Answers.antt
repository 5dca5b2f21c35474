use Rattle.std.proofs.Common.{arith}
use Rattle.std.proofs.lemmas.Grind.{common_steps}
use Rattle.text_host.proofs.Errors.{no_field, session_wants}
use Rattle.text_host.proofs.host.Host.step.Goals as goal

pub returns-in_default-clause-happens : goal.returns-in_default-clause-happens
returns-in_default-clause-happens c = grind (arith, no_field, session_wants)

pub returns-in_default-clause-answer : goal.returns-in_default-clause-answer
returns-in_default-clause-answer c = grind (arith, no_field, session_wants)

pub returns-in_default-clause-leaves : goal.returns-in_default-clause-leaves
returns-in_default-clause-leaves c = grind (arith, no_field, session_wants)

pub returns-in_default-clause-refused : goal.returns-in_default-clause-refused
returns-in_default-clause-refused c = grind (arith, no_field, session_wants)

pub returns-in_default-clause-no_memory : goal.returns-in_default-clause-no_memory
returns-in_default-clause-no_memory c = grind (arith, no_field, session_wants)

pub returns-in_default-clause-unchanged : goal.returns-in_default-clause-unchanged
returns-in_default-clause-unchanged c = grind (arith, no_field, session_wants)

pub returns-clause-refused : goal.returns-clause-refused
returns-clause-refused c = grind (arith, no_field, session_wants)

pub returns-clause-no_memory : goal.returns-clause-no_memory
returns-clause-no_memory c = grind (arith, no_field, session_wants)

pub returns-clause-unchanged : goal.returns-clause-unchanged
returns-clause-unchanged c = grind (arith, no_field, session_wants)

pub invariant_of-self : goal.invariant_of-self
invariant_of-self c = grind (arith, common_steps)

pub invariant_of-self-2 : goal.invariant_of-self-2
invariant_of-self-2 c = grind (arith, common_steps)
