use Rattle.kmx_verifier.proofs.Playing.{valid_playable}
use Rattle.kmx_verifier.proofs.laws.valid_files_can_be_played.Goals as goal

pub returns : goal.returns
returns c = valid_playable
