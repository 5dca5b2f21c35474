use Rattle.std.proofs.Common.{arith}
use Rattle.decompile_program.proofs.OwnNames.{next_name, all_names, names_ended}
use Rattle.decompile_program.proofs.dictionary.own_keys.Goals as goal

pub returns-in_default : goal.returns-in_default
returns-in_default c = grind (arith, next_name, all_names, names_ended)

pub loop-place-preserved : goal.loop-place-preserved
loop-place-preserved c = grind (arith, next_name, all_names, names_ended)

pub returns : goal.returns
returns c = grind (arith, next_name, all_names, names_ended)
