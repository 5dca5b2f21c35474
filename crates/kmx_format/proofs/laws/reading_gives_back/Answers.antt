use Rattle.kmx_format.proofs.FileLaw.{law}
use Rattle.kmx_format.proofs.laws.reading_gives_back.Goals as goal

pub returns : goal.returns
returns c = law
