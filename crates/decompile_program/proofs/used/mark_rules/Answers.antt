use Rattle.std.proofs.Common.{arith}
use Rattle.std.proofs.lemmas.Grind.{common_steps}
use Rattle.decompile_program.proofs.FlagLaws.{with_rules}
use Rattle.decompile_program.proofs.used.mark_rules.Goals as goal

pub loop-rule-preserved : goal.loop-rule-preserved
loop-rule-preserved c = grind (arith, common_steps, with_rules)
