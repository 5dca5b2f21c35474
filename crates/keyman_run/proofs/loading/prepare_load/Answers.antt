use Rattle.std.proofs.Common.{Err, ap, ◌∙◌}
use Rattle.keyman_run.specs.Loads.{load_job}
use Rattle.keyman_run.specs.Steps.{load_stop, prepared_job}
use Rattle.keyman_run.proofs.LoadLaws.{made_states, states_handed, unmade_states}
use Rattle.keyman_run.proofs.loading.prepare_load.Goals as goal

pub returns-in_err-load-clause-states : goal.returns-in_err-load-clause-states
returns-in_err-load-clause-states c =
    states_handed prepared_job (load_job c.args.number) (load_stop c.in_err-load.field-0.0) c.from_residual.result c.from_residual.ensures.1
    (unmade_states prepared_job c.args.number c.in_err-load.field-0.0 (λ is. c.in_err-load.ensures.range.0 (ap Err is)))

pub returns-clause-states : goal.returns-clause-states
returns-clause-states c =
    made_states prepared_job c.args.number c.as_slice.result.now c.as_slice-2.result.now c.prepare_texts.result (λ is. let never = c.in_ok-load.ensures.range.1 is in absurd (cc))
    (c.as_slice.ensures ∙ c.in_ok-load.ensures.texts.0) (c.as_slice-2.ensures ∙ c.in_ok-load.ensures.texts.1) c.prepare_texts.ensures.states
