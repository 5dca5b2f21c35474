use Rattle.core_export.proofs.Filed.{written_files_are_exported}
use Rattle.core_export.proofs.laws.written_files_are_exported.Goals as goal

pub returns : goal.returns
returns c = written_files_are_exported
