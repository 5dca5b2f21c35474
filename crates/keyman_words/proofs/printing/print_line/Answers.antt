use Rattle.keyman_words.proofs.Printed.{tells_line}
use Rattle.keyman_words.proofs.printing.print_line.Goals as goal

pub returns-in-Ok : goal.returns-in-Ok
returns-in-Ok g c = tells_line c.args.status c.args.line.now g.S.Sink _ _ c.requires c.in-Ok.ensures.counts c.in-Ok.ensures.told c.in-Ok.ensures.prints
