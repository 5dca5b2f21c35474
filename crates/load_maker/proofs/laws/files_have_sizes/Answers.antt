use Rattle.load_maker.proofs.LoadFiles.{files_have_sizes}
use Rattle.load_maker.proofs.laws.files_have_sizes.Goals as goal

pub returns : goal.returns
returns c = files_have_sizes
