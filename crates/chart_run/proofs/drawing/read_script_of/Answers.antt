use Rattle.std.proofs.Common.{[], ap}
use Rattle.rule_model.specs.Tab.{tab}
use Rattle.keyman_run.specs.Orders.{script_work}
use Rattle.keyman_run.specs.Steps.{itself}
use Rattle.keyman_run.proofs.RunLaws.{gives_as, gives_value}
use Rattle.chart_run.proofs.drawing.read_script_of.Goals as goal

pub returns-in-Some : goal.returns-in-Some
returns-in-Some g c =
    rw c.in-Some.is
    (gives_as itself (script_work (tab c.args.session.now.tables).dictionary c.of.result) (script_work (tab c.args.session.now.tables).dictionary c.in-Some.keys.now) g.F.Folder _ _ _
    (ap (script_work (tab c.args.session.now.tables).dictionary) c.of.ensures) c.read_own_entries.ensures)

pub returns-in-None : goal.returns-in-None
returns-in-None g c =
    rw c.in-None.is (rw c.new.ensures (gives_value itself g.F.Folder c.args.folder.now []))
