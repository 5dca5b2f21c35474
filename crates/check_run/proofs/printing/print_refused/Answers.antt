use Rattle.keyman_words.proofs.Printed.{tells_made}
use Rattle.check_run.proofs.printing.print_refused.Goals as goal

pub returns : goal.returns
returns g c = tells_made _ _ _ _ _ _ _ c.print_result.ensures c.refused_text.ensures
