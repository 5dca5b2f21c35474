use Rattle.kmn_compiler.proofs.Checks.{checked_means}
use Rattle.kmn_compiler.proofs.laws.files_mean_their_source.Goals as goal

pub returns : goal.returns
returns c = checked_means
