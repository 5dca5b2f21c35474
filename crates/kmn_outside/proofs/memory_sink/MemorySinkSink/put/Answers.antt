use Rattle.std.proofs.Common.{arith}
use Rattle.std.proofs.lemmas.Grind.{common_steps}
use Rattle.kmn_outside.proofs.memory_sink.MemorySinkSink.put.Goals as goal

pub returns-then-is_err-clause-counts : goal.returns-then-is_err-clause-counts
returns-then-is_err-clause-counts c = grind (arith, common_steps)

pub returns-then-is_err-clause-takes : goal.returns-then-is_err-clause-takes
returns-then-is_err-clause-takes c = grind (arith, common_steps)

pub returns-then-is_err-clause-puts : goal.returns-then-is_err-clause-puts
returns-then-is_err-clause-puts c = grind (arith, common_steps)

pub returns-then-is_err-clause-answer : goal.returns-then-is_err-clause-answer
returns-then-is_err-clause-answer c = grind (arith, common_steps)

pub returns-then-is_err-clause-after : goal.returns-then-is_err-clause-after
returns-then-is_err-clause-after c = grind (arith, common_steps)

pub returns-then-failed-clause-counts : goal.returns-then-failed-clause-counts
returns-then-failed-clause-counts c = grind (arith, common_steps)

pub returns-then-failed-clause-takes : goal.returns-then-failed-clause-takes
returns-then-failed-clause-takes c = grind (arith, common_steps)

pub returns-then-failed-clause-puts : goal.returns-then-failed-clause-puts
returns-then-failed-clause-puts c = grind (arith, common_steps)

pub returns-then-failed-clause-answer : goal.returns-then-failed-clause-answer
returns-then-failed-clause-answer c = grind (arith, common_steps)

pub returns-then-failed-clause-after : goal.returns-then-failed-clause-after
returns-then-failed-clause-after c = grind (arith, common_steps)

pub returns-clause-counts : goal.returns-clause-counts
returns-clause-counts c = grind (arith, common_steps)

pub returns-clause-takes : goal.returns-clause-takes
returns-clause-takes c = grind (arith, common_steps)

pub returns-clause-puts : goal.returns-clause-puts
returns-clause-puts c = grind (arith, common_steps)

pub returns-clause-answer : goal.returns-clause-answer
returns-clause-answer c = grind (arith, common_steps)

pub returns-clause-after : goal.returns-clause-after
returns-clause-after c = grind (arith, common_steps)
