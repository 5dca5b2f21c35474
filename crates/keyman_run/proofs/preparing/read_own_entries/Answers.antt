use Rattle.std.proofs.Common.{ap}
use Rattle.rule_model.specs.Tab.{tab}
use Rattle.keyman_run.specs.Orders.{script_work}
use Rattle.keyman_run.specs.Steps.{itself}
use Rattle.keyman_run.proofs.RunLaws.{gives_as}
use Rattle.keyman_run.proofs.preparing.read_own_entries.Goals as goal

pub returns : goal.returns
returns g c =
    gives_as itself (script_work c.own_names.result.now c.args.keys.now) (script_work (tab c.args.session.now.tables).dictionary c.args.keys.now) g.F.Folder _ _ _
    (ap (λ names. script_work names c.args.keys.now) c.own_names.ensures) c.read_entries.ensures
