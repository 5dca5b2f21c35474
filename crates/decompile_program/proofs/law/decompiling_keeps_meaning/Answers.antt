use Rattle.decompile_program.proofs.Whole.{decompiling_keeps_meaning}
use Rattle.decompile_program.proofs.law.decompiling_keeps_meaning.Goals as goal

pub returns : goal.returns
returns c = decompiling_keeps_meaning
