use Rattle.core_export.proofs.Named.{exporting_keeps_meaning}
use Rattle.core_export.proofs.laws.exporting_keeps_meaning.Goals as goal

pub returns : goal.returns
returns c = exporting_keeps_meaning
