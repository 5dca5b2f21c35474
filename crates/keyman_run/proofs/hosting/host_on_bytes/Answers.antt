use Rattle.keyman_run.specs.Steps.{verify_stop}
use Rattle.keyman_run.proofs.FileRuns.{as_stop}
use Rattle.keyman_run.proofs.HostRuns.{hosts_unread}
use Rattle.std.proofs.Common.{arith}
use Rattle.std.proofs.lemmas.Grind.{common_steps}
use Rattle.keyman_run.proofs.hosting.host_on_bytes.Goals as goal

pub returns-in-Err : goal.returns-in-Err
returns-in-Err g c =
    hosts_unread c.args.bytes.now c.args.keys.now c.in-Err.error g.F.Folder c.args.folder.now g.S.Sink _ _ c.print_stop.result c.in-Err.ensures
    (as_stop _ (verify_stop c.in-Err.error) g.S.Sink _ _ c.print_stop.result c.from.ensures c.print_stop.ensures)

pub returns-in-Ok : goal.returns-in-Ok
returns-in-Ok g c = grind (arith, common_steps)
