use Rattle.kmn_parser.proofs.ReadPrograms.{programs_are_read}
use Rattle.kmn_parser.proofs.laws.programs_are_read.Goals as goal

pub returns : goal.returns
returns c = programs_are_read
