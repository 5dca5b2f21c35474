use Rattle.core_export.proofs.FromSource.{compiled_files_are_exported}
use Rattle.core_export.proofs.laws.compiled_files_are_exported.Goals as goal

pub returns : goal.returns
returns c = compiled_files_are_exported
