use Rattle.load_maker.proofs.LoadPlays.{files_play}
use Rattle.load_maker.proofs.laws.files_play.Goals as goal

pub returns : goal.returns
returns c = files_play
