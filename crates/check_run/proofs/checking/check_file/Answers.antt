use Rattle.std.proofs.Common.{ℕ, List, Option, Ok, Err}
use Rattle.std.specs.Prelude.{option_map}
use Rattle.rule_checker.specs.Refused.{checked}
use Rattle.keyman_run.specs.Inputs.{by_line}
use Rattle.keyman_run.specs.Steps.{compile_stop, itself}
use Rattle.keyman_run.specs.Work.{given}
use Rattle.keyman_run.proofs.InputLaws.{error_stated, value_stated}
use Rattle.keyman_run.proofs.RunLaws.{gives_behind, gives_handed, gives_stopped}
use Rattle.check_run.specs.Orders.{file_check_work, program_check_work}
use Rattle.check_run.proofs.Checks.{states_given}
use Rattle.check_run.proofs.checking.check_file.Goals as goal

pub returns-in_err-checked : goal.returns-in_err-checked
returns-in_err-checked g c =
    let layout : Option (List ℕ) = option_map (λ name. name.now) c.args.layout in
    let keys : Option (List ℕ) = option_map (λ name. name.now) c.args.keys in
    gives_handed itself (file_check_work c.args.source.now layout keys c.args.bytes.now) g.F.Folder _ _ (compile_stop c.in_err-checked.field-0.0) c.from_residual.result c.from_residual.ensures.1
    (gives_stopped itself itself (given (by_line (checked c.args.bytes.now))) (program_check_work c.args.source.now layout keys c.args.bytes.now) g.F.Folder _ _ (compile_stop c.in_err-checked.field-0.0)
    (states_given (by_line (checked c.args.bytes.now)) g.F.Folder _ (Err (compile_stop c.in_err-checked.field-0.0)) (error_stated (checked c.args.bytes.now) c.in_err-checked.field-0.0 c.in_err-checked.ensures)))

pub returns : goal.returns
returns g c =
    let layout : Option (List ℕ) = option_map (λ name. name.now) c.args.layout in
    let keys : Option (List ℕ) = option_map (λ name. name.now) c.args.keys in
    gives_behind itself itself (given (by_line (checked c.args.bytes.now))) (program_check_work c.args.source.now layout keys c.args.bytes.now) g.F.Folder _ _ _ c.in_ok-checked.checked _
    (states_given (by_line (checked c.args.bytes.now)) g.F.Folder _ (Ok c.in_ok-checked.checked) (value_stated (checked c.args.bytes.now) c.in_ok-checked.checked c.in_ok-checked.ensures))
    c.check_program.ensures
