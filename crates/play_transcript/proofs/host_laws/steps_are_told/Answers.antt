use Rattle.play_transcript.proofs.Pieces.{steps_are_told}
use Rattle.play_transcript.proofs.host_laws.steps_are_told.Goals as goal

pub returns : goal.returns
returns c = steps_are_told
