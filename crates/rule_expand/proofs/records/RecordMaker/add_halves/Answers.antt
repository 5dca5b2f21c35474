use Rattle.std.proofs.Common.{arith}
use Rattle.std.proofs.lemmas.Grind.{common_steps}
use Rattle.rule_expand.proofs.records.RecordMaker.add_halves.Goals as goal

pub returns-then-not-has_halves : goal.returns-then-not-has_halves
returns-then-not-has_halves c = grind (arith, common_steps)

pub returns : goal.returns
returns c = grind (arith, common_steps)
