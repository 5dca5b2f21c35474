use Rattle.std.proofs.Common.{arith}
use Rattle.std.proofs.lemmas.Grind.{common_steps}
use Rattle.decompile_program.specs.Names.{named_stores}
use Rattle.decompile_program.proofs.used.named_flags.Goals as goal

pub returns : goal.returns
unfolding named_stores
returns c = grind (arith, common_steps)
