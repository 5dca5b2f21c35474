use Rattle.std.proofs.Common.{◌≡◌, List, ℕ, Ok, Err, Result, sym, ap}
use Rattle.rule_model.specs.Tab.{tab}
use Rattle.rule_model.specs.Trace.{trace}
use Rattle.rule_model.specs.Transcript.{events_of}
use Rattle.keyman_run.specs.declared.preparing.Stop.TheVariants as stop
use Rattle.keyman_words.specs.declared.reason.Reason.{Reason}
use Rattle.keyman_run.specs.Loads.{load_job, played_load, sums_of}
use Rattle.keyman_run.specs.Steps.{itself, prepared_job}
use Rattle.keyman_run.proofs.LoadLaws.{line_behind, play_behind, states_behind, states_handed, states_stopped}
use Rattle.keyman_run.proofs.loading.played_load.Goals as goal

pub returns-in_err-prepared : goal.returns-in_err-prepared
returns-in_err-prepared c =
    states_handed itself (played_load c.args.number) c.in_err-prepared.field-0.0 c.from_residual.result c.from_residual.ensures.1
    (states_stopped prepared_job itself (load_job c.args.number) (play_behind c.args.number) c.in_err-prepared.field-0.0 c.in_err-prepared.ensures.states)

pub returns-in_err-sums : goal.returns-in_err-sums
returns-in_err-sums c =
    states_handed itself (played_load c.args.number) c.in_err-sums.field-0.0 c.from_residual-in_err-sums.result c.from_residual-in_err-sums.ensures.1
    (states_behind {C = List ℕ} prepared_job itself (load_job c.args.number) (play_behind c.args.number) c.in_ok-prepared.prepared (Err c.in_err-sums.field-0.0) c.in_ok-prepared.ensures.states
    (states_stopped {C = List ℕ} itself itself (sums_of (trace (tab c.in_ok-prepared.prepared.compiled.tables) (events_of c.in_ok-prepared.prepared.entries))) (line_behind c.args.number c.in_ok-prepared.prepared.compiled) c.in_err-sums.field-0.0 c.in_err-sums.ensures))

pub returns-in_err-load_line : goal.returns-in_err-load_line
returns-in_err-load_line c =
    states_handed itself (played_load c.args.number) stop.Memory c.from_residual-in_err-load_line.result c.from_residual-in_err-load_line.ensures.1 tt

pub returns : goal.returns
returns c =
    let said : line_behind c.args.number c.in_ok-prepared.prepared.compiled c.in_ok-sums.sums ≡ Ok c.in_ok-load_line.field-0 =
    ap (λ (line : List ℕ). let read : Result (List ℕ) Reason = Ok line in read) (sym c.in_ok-load_line.ensures) in
    states_behind {C = List ℕ} prepared_job itself (load_job c.args.number) (play_behind c.args.number) c.in_ok-prepared.prepared (Ok c.in_ok-load_line.field-0) c.in_ok-prepared.ensures.states
    (states_behind {C = List ℕ} itself itself (sums_of (trace (tab c.in_ok-prepared.prepared.compiled.tables) (events_of c.in_ok-prepared.prepared.entries))) (line_behind c.args.number c.in_ok-prepared.prepared.compiled) c.in_ok-sums.sums (Ok c.in_ok-load_line.field-0) c.in_ok-sums.ensures
    said)
