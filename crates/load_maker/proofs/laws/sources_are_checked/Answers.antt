use Rattle.load_maker.proofs.LoadChecks.{sources_are_checked}
use Rattle.load_maker.proofs.laws.sources_are_checked.Goals as goal

pub returns : goal.returns
returns c = sources_are_checked
