use Rattle.std.proofs.Common.{[], ap}
use Rattle.keyman_run.specs.Steps.{itself}
use Rattle.keyman_run.proofs.RunLaws.{gives_as, gives_value}
use Rattle.chart_run.specs.Orders.{layout_work}
use Rattle.chart_run.proofs.layouts.read_layers.Goals as goal

pub returns-in-Some : goal.returns-in-Some
returns-in-Some g c =
    rw c.in-Some.is
    (gives_as itself (layout_work c.args.tables.now c.of.result) (layout_work c.args.tables.now c.in-Some.layout.now) g.F.Folder _ _ _
    (ap (layout_work c.args.tables.now) c.of.ensures) c.read_layout.ensures)

pub returns-in-None : goal.returns-in-None
returns-in-None g c =
    rw c.in-None.is (rw c.new.ensures (gives_value itself g.F.Folder c.args.folder.now []))
