use Rattle.std.proofs.Common.{arith}
use Rattle.std.proofs.lemmas.Grind.{common_steps}
use Rattle.rule_model.specs.Tab.{tab_options}
use Rattle.kmx_decompiler.proofs.options.option_flags.Goals as goal

pub returns : goal.returns
unfolding tab_options
returns c = grind (arith, common_steps)
