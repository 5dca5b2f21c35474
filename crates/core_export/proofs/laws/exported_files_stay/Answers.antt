use Rattle.core_export.proofs.Again.{exported_files_stay}
use Rattle.core_export.proofs.laws.exported_files_stay.Goals as goal

pub returns : goal.returns
returns c = exported_files_stay
