use Rattle.load_maker.proofs.LoadScripts.{scripts_are_read}
use Rattle.load_maker.proofs.laws.scripts_are_read.Goals as goal

pub returns : goal.returns
returns c = scripts_are_read
