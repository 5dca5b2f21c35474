use Rattle.std.proofs.Common.{List, ℕ, subst}
use Rattle.rule_model.specs.Src.{src}
use Rattle.keyman_run.specs.Loads.{compiled_within, program_job, script_job}
use Rattle.keyman_run.specs.Steps.{States, compile_stop, itself, prepared_job}
use Rattle.keyman_run.proofs.LoadLaws.{compiled_states, uncompiled_states, states_behind, states_handed, states_stopped}
use Rattle.keyman_run.proofs.loading.prepare_checked.Goals as goal

pub returns-in_err-compiled-clause-states : goal.returns-in_err-compiled-clause-states
returns-in_err-compiled-clause-states c =
    states_handed prepared_job (program_job c.args.checked.now c.args.script.now) (compile_stop c.in_err-compiled.field-0.0) c.from_residual.result c.from_residual.ensures.1
    (states_stopped itself prepared_job (compiled_within c.args.checked.now) (λ compiled. script_job compiled (src c.args.checked.now).dictionary c.args.script.now) (compile_stop c.in_err-compiled.field-0.0)
    (uncompiled_states c.args.checked.now c.in_err-compiled.field-0.0 c.in_err-compiled.ensures))

pub returns-clause-states : goal.returns-clause-states
returns-clause-states c =
    states_behind itself prepared_job (compiled_within c.args.checked.now) (λ compiled. script_job compiled (src c.args.checked.now).dictionary c.args.script.now) c.in_ok-compiled.compiled _
    (compiled_states c.args.checked.now c.in_ok-compiled.compiled c.in_ok-compiled.ensures)
    (subst (λ (names : List (List ℕ)). States prepared_job (script_job c.in_ok-compiled.compiled names c.args.script.now) c.with_script.result) c.key_names.ensures c.with_script.ensures.states)
