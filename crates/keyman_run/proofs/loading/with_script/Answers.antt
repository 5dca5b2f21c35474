use Rattle.std.proofs.Common.{Ok, refl}
use Rattle.play_script.specs.Entries.{entries}
use Rattle.keyman_run.specs.Inputs.{script_of}
use Rattle.keyman_run.specs.Loads.{script_job}
use Rattle.keyman_run.specs.Steps.{itself, prepared_job, script_stop}
use Rattle.keyman_run.specs.Work.Reading.{Bytes}
use Rattle.keyman_run.proofs.InputLaws.{value_stated, broken_stated}
use Rattle.keyman_run.proofs.LoadLaws.{states_behind, states_handed, states_stopped}
use Rattle.keyman_run.proofs.loading.with_script.Goals as goal

pub returns-in_err-entries-clause-states : goal.returns-in_err-entries-clause-states
returns-in_err-entries-clause-states c =
    states_handed prepared_job (script_job c.args.compiled c.args.names.now c.args.script.now) (script_stop c.in_err-entries.field-0.0) c.from_residual.result c.from_residual.ensures.1
    (states_stopped itself prepared_job (script_of c.args.names.now (Bytes c.args.script.now)) (λ entries. Ok (record { compiled = c.args.compiled; entries = entries })) (script_stop c.in_err-entries.field-0.0)
    (broken_stated (entries c.args.names.now c.args.script.now) c.in_err-entries.field-0.0 c.in_err-entries.ensures))

pub returns-clause-states : goal.returns-clause-states
returns-clause-states c =
    states_behind itself prepared_job (script_of c.args.names.now (Bytes c.args.script.now)) (λ entries. Ok (record { compiled = c.args.compiled; entries = entries })) c.in_ok-entries.entries (Ok (record { compiled = c.args.compiled; entries = c.in_ok-entries.entries }))
    (value_stated (entries c.args.names.now c.args.script.now) c.in_ok-entries.entries c.in_ok-entries.ensures) refl
