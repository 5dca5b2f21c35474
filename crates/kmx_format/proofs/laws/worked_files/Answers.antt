use Rattle.kmx_format.proofs.WorkedFiles as worked
use Rattle.kmx_format.proofs.laws.worked_files.Goals as goal

pub returns : goal.returns
returns c = worked.worked_files
