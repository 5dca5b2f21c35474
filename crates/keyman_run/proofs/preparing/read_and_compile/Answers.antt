use Rattle.keyman_run.specs.Orders.{compiled_work, source_work, file_work}
use Rattle.keyman_run.specs.Steps.{itself}
use Rattle.keyman_run.proofs.RunLaws.{gives_behind, gives_handed, gives_stopped}
use Rattle.keyman_run.proofs.preparing.read_and_compile.Goals as goal

pub returns-in_err-checked-clause-gives : goal.returns-in_err-checked-clause-gives
returns-in_err-checked-clause-gives g c =
    gives_handed itself (compiled_work c.args.name.now) g.F.Folder _ _ c.in_err-checked.field-0.0 c.from_residual.result c.from_residual.ensures.1
    (gives_stopped itself itself (source_work c.args.name.now) (file_work c.args.name.now) g.F.Folder _ _ c.in_err-checked.field-0.0 c.in_err-checked.ensures)

pub returns-clause-gives : goal.returns-clause-gives
returns-clause-gives g c =
    gives_behind itself itself (source_work c.args.name.now) (file_work c.args.name.now) g.F.Folder _ _ _ c.in_ok-checked.checked _ c.in_ok-checked.ensures c.compile_beside.ensures.gives
