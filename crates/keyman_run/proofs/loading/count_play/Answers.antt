use Rattle.std.proofs.Common.{◌+◌, drop, ap, arith}
use Rattle.kmx_format.specs.TablesOf.{tables_of}
use Rattle.play_session.specs.Session.{SessionState}
use Rattle.rule_model.specs.Tab.{tab}
use Rattle.rule_model.specs.Trace.{trace}
use Rattle.rule_model.specs.Transcript.{events_of}
use Rattle.keyman_run.specs.Loads.{sums_left, sums_of}
use Rattle.keyman_run.specs.Steps.{itself}
use Rattle.keyman_run.proofs.LoadLaws.{sums_begin, goes_on, states_handed, stops}
use Rattle.std.proofs.lemmas.Grind.{common_steps}
use Rattle.keyman_run.proofs.loading.count_play.Goals as goal

pub loop-entry-init : goal.loop-entry-init
loop-entry-init c =
    rw c.no_progress-progress.ensures (record {
      numbered = ap (λ (s : SessionState). s.number) c.in_ok-session.ensures;
      events = omega arith;
      put = omega arith;
      left = sums_begin c.in_ok-session.session (tables_of c.args.file.now) c.args.entries.now c.in_ok-session.ensures;
    })

pub returns-in_err-progress : goal.returns-in_err-progress
returns-in_err-progress c =
    states_handed itself (sums_of (trace (tab (tables_of c.args.file.now)) (events_of c.args.entries.now))) c.in_err-progress.field-0.0 c.from_residual-in_err-progress.result c.from_residual-in_err-progress.ensures.1
    (stops c.loop-entry.session c.loop-entry.progress c.args.entries.now _ c.loop-entry.entry-index c.loop-entry.invariant.left c.entry-item.result c.entry-item.result (omega arith) c.entry-item.is
    (λ next. sums_left c.count_entry.new.session next (drop (c.loop-entry.entry-index + 1) c.args.entries.now)) c.in_err-progress.field-0.0
    (c.in_err-progress.ensures.leads _))

pub loop-entry-preserved : goal.loop-entry-preserved
loop-entry-preserved c =
    record {
      numbered = c.in_ok-progress.ensures.numbered;
      events = omega (arith, c.in_ok-progress.ensures.counted.0, c.loop-entry.invariant.events);
      put = c.in_ok-progress.ensures.counted.1;
      left = goes_on c.loop-entry.session c.loop-entry.progress c.args.entries.now _ c.loop-entry.entry-index c.loop-entry.invariant.left c.entry-item.result c.entry-item.result (omega arith) c.entry-item.is c.count_entry.new.session c.in_ok-progress.progress
          (c.in_ok-progress.ensures.leads _);
    }

pub returns : goal.returns
returns c = grind (arith, common_steps)
