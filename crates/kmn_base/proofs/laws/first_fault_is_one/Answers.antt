use Rattle.kmn_base.proofs.FirstFaults.{first_fault_is_one}
use Rattle.kmn_base.proofs.laws.first_fault_is_one.Goals as goal

pub returns : goal.returns
returns c = first_fault_is_one
