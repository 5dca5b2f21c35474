use Rattle.check_run.proofs.FoundInputs.{layout_found}
use Rattle.check_run.proofs.inputs.check_named_layout.Goals as goal

pub returns : goal.returns
returns g c =
    layout_found c.args.checked.now c.args.tables.now c.args.layout.now g.F.Folder _ _ c.read_ids.result c.layout_findings.result c.layout_findings.ensures c.read_ids.ensures
