use Rattle.kmx_verifier.proofs.FileValid.{file_valid}
use Rattle.kmx_verifier.proofs.laws.files_are_valid.Goals as goal

pub returns : goal.returns
returns c = file_valid
