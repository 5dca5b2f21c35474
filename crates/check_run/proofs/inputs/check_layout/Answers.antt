use Rattle.std.proofs.Common.{[], ap}
use Rattle.keyman_run.specs.Steps.{itself}
use Rattle.keyman_run.proofs.RunLaws.{gives_as, gives_value}
use Rattle.check_run.specs.declared.findings.LayoutFindings.TheVariants as layouts
use Rattle.check_run.specs.Orders.{named_layout_work}
use Rattle.check_run.proofs.inputs.check_layout.Goals as goal

pub returns-in-Some : goal.returns-in-Some
returns-in-Some g c =
    rw c.in-Some.is
    (gives_as itself (named_layout_work c.args.checked.now c.args.tables.now c.of.result) (named_layout_work c.args.checked.now c.args.tables.now c.in-Some.layout.now) g.F.Folder _ _ _
    (ap (named_layout_work c.args.checked.now c.args.tables.now) c.of.ensures) c.check_named_layout.ensures)

pub returns-in-None : goal.returns-in-None
returns-in-None g c =
    rw c.in-None.is (rw c.new.ensures (gives_value itself g.F.Folder c.args.folder.now (layouts.Accepted [])))
