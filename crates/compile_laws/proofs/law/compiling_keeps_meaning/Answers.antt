use Rattle.compile_laws.proofs.Whole.{meaning_kept}
use Rattle.compile_laws.proofs.law.compiling_keeps_meaning.Goals as goal

pub returns : goal.returns
returns c = meaning_kept
