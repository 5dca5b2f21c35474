use Rattle.rule_checker.specs.Refused.{checked}
use Rattle.keyman_run.specs.Inputs.{program_of}
use Rattle.keyman_run.specs.Loads.{job_of, program_job}
use Rattle.keyman_run.specs.Steps.{compile_stop, itself, prepared_job}
use Rattle.keyman_run.specs.Work.Reading.{Bytes}
use Rattle.keyman_run.proofs.InputLaws.{value_stated, error_stated}
use Rattle.keyman_run.proofs.LoadLaws.{states_behind, states_handed, states_stopped}
use Rattle.keyman_run.proofs.loading.prepare_texts.Goals as goal

pub returns-in_err-checked-clause-states : goal.returns-in_err-checked-clause-states
returns-in_err-checked-clause-states c =
    states_handed prepared_job (job_of c.args.source.now c.args.script.now) (compile_stop c.in_err-checked.field-0.0) c.from_residual.result c.from_residual.ensures.1
    (states_stopped itself prepared_job (program_of (Bytes c.args.source.now)) (λ program. program_job program c.args.script.now) (compile_stop c.in_err-checked.field-0.0)
    (error_stated (checked c.args.source.now) c.in_err-checked.field-0.0 c.in_err-checked.ensures))

pub returns-clause-states : goal.returns-clause-states
returns-clause-states c =
    states_behind itself prepared_job (program_of (Bytes c.args.source.now)) (λ program. program_job program c.args.script.now) c.in_ok-checked.checked _
    (value_stated (checked c.args.source.now) c.in_ok-checked.checked c.in_ok-checked.ensures) c.prepare_checked.ensures.states
