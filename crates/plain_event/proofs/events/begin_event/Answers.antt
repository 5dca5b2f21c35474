use Rattle.std.proofs.Common.{arith}
use Rattle.plain_event.proofs.SpreadValues.{picked_options}
use Rattle.plain_event.proofs.events.begin_event.Goals as goal

pub returns : goal.returns
returns c = grind (arith, picked_options)
