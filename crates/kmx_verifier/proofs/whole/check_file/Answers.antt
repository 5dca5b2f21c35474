use Rattle.std.proofs.Common.{arith}
use Rattle.kmx_verifier.proofs.Arrays.{arrays_stand, size_fits}
use Rattle.kmx_verifier.specs.FaultOf.{fault_of}
use Rattle.kmx_verifier.proofs.whole.check_file.Goals as goal

pub returns : goal.returns
unfolding fault_of
returns c = grind (arith, arrays_stand, size_fits)
