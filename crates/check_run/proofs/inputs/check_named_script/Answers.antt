use Rattle.std.proofs.Common.{ap}
use Rattle.rule_model.specs.Src.{src}
use Rattle.keyman_run.specs.Orders.{script_work}
use Rattle.keyman_run.specs.Steps.{itself}
use Rattle.keyman_run.proofs.RunLaws.{gives_as}
use Rattle.check_run.proofs.FoundInputs.{script_found}
use Rattle.check_run.proofs.inputs.check_named_script.Goals as goal

pub returns : goal.returns
returns g c =
    script_found c.args.checked.now c.args.tables.now c.args.keys.now g.F.Folder _ _ c.read_entries.result c.script_findings.result c.script_findings.ensures
    (gives_as itself (script_work c.key_names.result.now c.args.keys.now) (script_work (src c.args.checked.now).dictionary c.args.keys.now) g.F.Folder _ _ _
    (ap (λ names. script_work names c.args.keys.now) c.key_names.ensures) c.read_entries.ensures)
