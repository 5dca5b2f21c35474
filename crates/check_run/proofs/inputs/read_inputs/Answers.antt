use Rattle.std.proofs.Common.{ℕ, List, Option}
use Rattle.std.specs.Prelude.{option_map}
use Rattle.keyman_run.specs.Steps.{itself}
use Rattle.keyman_run.proofs.RunLaws.{gives_behind, gives_handed, gives_stopped, gives_value}
use Rattle.check_run.specs.Orders.{after_layout_work, inputs_given, inputs_work, layout_check_work, script_check_work}
use Rattle.check_run.proofs.inputs.read_inputs.Goals as goal

pub returns-in_err-laid : goal.returns-in_err-laid
returns-in_err-laid g c =
    let layout : Option (List ℕ) = option_map (λ name. name.now) c.args.layout in
    let keys : Option (List ℕ) = option_map (λ name. name.now) c.args.keys in
    gives_handed itself (inputs_work c.args.checked.now c.args.tables.now layout keys) g.F.Folder _ _ c.in_err-laid.field-0.0 c.from_residual.result c.from_residual.ensures.1
    (gives_stopped itself itself (layout_check_work c.args.checked.now c.args.tables.now layout) (after_layout_work c.args.checked.now c.args.tables.now keys) g.F.Folder _ _ c.in_err-laid.field-0.0 c.in_err-laid.ensures)

pub returns-in_err-script : goal.returns-in_err-script
returns-in_err-script g c =
    let layout : Option (List ℕ) = option_map (λ name. name.now) c.args.layout in
    let keys : Option (List ℕ) = option_map (λ name. name.now) c.args.keys in
    gives_handed itself (inputs_work c.args.checked.now c.args.tables.now layout keys) g.F.Folder _ _ c.in_err-script.field-0.0 c.from_residual-in_err-script.result c.from_residual-in_err-script.ensures.1
    (gives_behind itself itself (layout_check_work c.args.checked.now c.args.tables.now layout) (after_layout_work c.args.checked.now c.args.tables.now keys) g.F.Folder _ _ _ c.in_ok-laid.laid _ c.in_ok-laid.ensures
    (gives_stopped itself itself (script_check_work c.args.checked.now c.args.tables.now keys) (inputs_given c.in_ok-laid.laid) g.F.Folder _ _ c.in_err-script.field-0.0 c.in_err-script.ensures))

pub returns : goal.returns
returns g c =
    let layout : Option (List ℕ) = option_map (λ name. name.now) c.args.layout in
    let keys : Option (List ℕ) = option_map (λ name. name.now) c.args.keys in
    gives_behind itself itself (layout_check_work c.args.checked.now c.args.tables.now layout) (after_layout_work c.args.checked.now c.args.tables.now keys) g.F.Folder _ _ _ c.in_ok-laid.laid _ c.in_ok-laid.ensures
    (gives_behind itself itself (script_check_work c.args.checked.now c.args.tables.now keys) (inputs_given c.in_ok-laid.laid) g.F.Folder _ _ _ c.in_ok-script.script _ c.in_ok-script.ensures
    (gives_value itself g.F.Folder _ (record { layout = c.in_ok-laid.laid; script = c.in_ok-script.script })))
