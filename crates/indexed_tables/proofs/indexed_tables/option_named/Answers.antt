use Rattle.std.proofs.Common.{arith}
use Rattle.std.proofs.lemmas.Grind.{common_steps}
use Rattle.rule_model.specs.Tab.{tab}
use Rattle.indexed_tables.proofs.indexed_tables.option_named.Goals as goal

pub returns-then-has_name : goal.returns-then-has_name
unfolding tab
returns-then-has_name c = grind (arith, common_steps)

pub loop-n-preserved : goal.loop-n-preserved
unfolding tab
loop-n-preserved c = grind (arith, common_steps)
