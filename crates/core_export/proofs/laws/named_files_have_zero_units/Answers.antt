use Rattle.core_export.proofs.Named.{named_files_have_zero_units}
use Rattle.core_export.proofs.laws.named_files_have_zero_units.Goals as goal

pub returns : goal.returns
returns c = named_files_have_zero_units
