use Rattle.std.proofs.Common.{arith}
use Rattle.std.proofs.lemmas.Grind.{common_steps}
use Rattle.rule_shadow.proofs.key_cover.add_fitting.Goals as goal

pub loop-mods-preserved : goal.loop-mods-preserved
loop-mods-preserved c = grind (arith, common_steps)

pub returns : goal.returns
returns c = grind (arith, common_steps)
