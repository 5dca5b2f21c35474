use Rattle.std.proofs.Common.{◌≡◌, ◌∙◌, ℕ, List, Option, ap}
use Rattle.std.specs.Prelude.{option_map}
use Rattle.rule_model.specs.declared.program.Program.{Program}
use Rattle.keyman_run.specs.Orders.{file_work}
use Rattle.keyman_run.specs.Steps.{itself}
use Rattle.keyman_run.specs.declared.preparing.Stop.TheVariants as stop
use Rattle.keyman_run.proofs.RunLaws.{gives_behind, gives_handed, gives_no_memory, gives_stopped}
use Rattle.check_run.specs.Orders.{compiled_check_work, findings_given, inputs_work, program_check_work, warnings_in}
use Rattle.check_run.proofs.Checks.{warnings_given}
use Rattle.check_run.proofs.checking.check_program.Goals as goal

pub returns-in_err-compiled : goal.returns-in_err-compiled
returns-in_err-compiled g c =
    let layout : Option (List ℕ) = option_map (λ name. name.now) c.args.layout in
    let keys : Option (List ℕ) = option_map (λ name. name.now) c.args.keys in
    gives_handed itself (program_check_work c.args.source.now layout keys c.args.bytes.now c.args.checked.now) g.F.Folder _ _ c.in_err-compiled.field-0.0 c.from_residual.result c.from_residual.ensures.1
    (gives_stopped itself itself (file_work c.args.source.now c.args.checked.now) (compiled_check_work layout keys c.args.bytes.now c.args.checked.now) g.F.Folder _ _ c.in_err-compiled.field-0.0 c.in_err-compiled.ensures.gives)

pub returns-in_err-inputs : goal.returns-in_err-inputs
returns-in_err-inputs g c =
    let layout : Option (List ℕ) = option_map (λ name. name.now) c.args.layout in
    let keys : Option (List ℕ) = option_map (λ name. name.now) c.args.keys in
    gives_handed itself (program_check_work c.args.source.now layout keys c.args.bytes.now c.args.checked.now) g.F.Folder _ _ c.in_err-inputs.field-0.0 c.from_residual-in_err-inputs.result c.from_residual-in_err-inputs.ensures.1
    (gives_behind itself itself (file_work c.args.source.now c.args.checked.now) (compiled_check_work layout keys c.args.bytes.now c.args.checked.now) g.F.Folder _ _ _ c.in_ok-compiled.compiled _ c.in_ok-compiled.ensures.gives
    (gives_stopped itself itself (inputs_work c.args.checked.now c.in_ok-compiled.compiled.tables layout keys) (findings_given c.args.bytes.now c.args.checked.now c.in_ok-compiled.compiled) g.F.Folder _ _ c.in_err-inputs.field-0.0 c.in_err-inputs.ensures))

pub returns-in_err-warnings : goal.returns-in_err-warnings
returns-in_err-warnings g c =
    let layout : Option (List ℕ) = option_map (λ name. name.now) c.args.layout in
    let keys : Option (List ℕ) = option_map (λ name. name.now) c.args.keys in
    gives_handed itself (program_check_work c.args.source.now layout keys c.args.bytes.now c.args.checked.now) g.F.Folder _ _ stop.Memory c.from_residual-in_err-warnings.result c.from_residual-in_err-warnings.ensures.1
    (gives_behind itself itself (file_work c.args.source.now c.args.checked.now) (compiled_check_work layout keys c.args.bytes.now c.args.checked.now) g.F.Folder _ _ _ c.in_ok-compiled.compiled _ c.in_ok-compiled.ensures.gives
    (gives_behind itself itself (inputs_work c.args.checked.now c.in_ok-compiled.compiled.tables layout keys) (findings_given c.args.bytes.now c.args.checked.now c.in_ok-compiled.compiled) g.F.Folder _ _ _ c.in_ok-inputs.inputs _ c.in_ok-inputs.ensures
    (gives_no_memory itself (findings_given c.args.bytes.now c.args.checked.now c.in_ok-compiled.compiled c.in_ok-inputs.inputs) g.F.Folder _)))

pub returns : goal.returns
returns g c =
    let layout : Option (List ℕ) = option_map (λ name. name.now) c.args.layout in
    let keys : Option (List ℕ) = option_map (λ name. name.now) c.args.keys in
    let is : c.in_ok-warnings.warnings ≡ warnings_in c.args.bytes.now c.args.checked.now c.in_ok-compiled.compiled.tables
    = c.in_ok-warnings.ensures ∙ ap (λ (program : Program). warnings_in c.args.bytes.now program c.in_ok-compiled.compiled.tables) c.program.ensures.value in
    gives_behind itself itself (file_work c.args.source.now c.args.checked.now) (compiled_check_work layout keys c.args.bytes.now c.args.checked.now) g.F.Folder _ _ _ c.in_ok-compiled.compiled _ c.in_ok-compiled.ensures.gives
    (gives_behind itself itself (inputs_work c.args.checked.now c.in_ok-compiled.compiled.tables layout keys) (findings_given c.args.bytes.now c.args.checked.now c.in_ok-compiled.compiled) g.F.Folder _ _ _ c.in_ok-inputs.inputs _ c.in_ok-inputs.ensures
    (warnings_given c.args.bytes.now c.args.checked.now c.in_ok-compiled.compiled c.in_ok-inputs.inputs g.F.Folder _ c.in_ok-warnings.warnings is))
