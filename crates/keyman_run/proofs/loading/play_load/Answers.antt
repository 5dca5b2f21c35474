use Rattle.std.proofs.Common.{◌≡◌, List, ℕ, Some, subst}
use Rattle.kmx_verifier.specs.FaultOf.{fault_of, IsRefusal}
use Rattle.rule_model.specs.Tab.{tab}
use Rattle.rule_model.specs.Trace.{trace}
use Rattle.rule_model.specs.Transcript.{events_of}
use Rattle.keyman_run.specs.Loads.{sums_of}
use Rattle.keyman_run.specs.Steps.{itself, verify_stop}
use Rattle.keyman_run.proofs.LoadLaws.{states_handed, unopened_states}
use Rattle.keyman_run.proofs.loading.play_load.Goals as goal

pub returns-in_err-file : goal.returns-in_err-file
returns-in_err-file c =
    let stated = sums_of (trace (tab c.args.prepared.now.compiled.tables) (events_of c.args.prepared.now.entries)) in
    states_handed itself stated (verify_stop c.in_err-file.field-0.0) c.from_residual.result c.from_residual.ensures.1
    (unopened_states itself stated c.args.prepared.now.compiled.bytes c.in_err-file.field-0.0 c.requires.file
    (subst (λ (bytes : List ℕ). IsRefusal c.in_err-file.field-0.0 (λ fault. fault_of bytes ≡ Some fault)) c.as_slice.ensures c.in_err-file.ensures))
