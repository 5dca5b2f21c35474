use Rattle.std.proofs.Common.{◌≡◌, ◌≤◌, ◌*◌, ◌^◌, drop}
use Rattle.rule_model.specs.Tab.{tab}
use Rattle.kmx_format.specs.TablesOf.{tables_of}
use Rattle.rule_model.specs.Trace.{trace}
use Rattle.rule_model.specs.Transcript.{events_of}
use Rattle.keyman_run.specs.Loads.{sums_left, sums_of}
use Rattle.keyman_run.proofs.loading.count_play.Given as goal

abbrev pub invariant-loop-entry : goal.invariant-loop-entry
invariant-loop-entry l =
    record {
      numbered : l.session.number ≡ l.progress.number;
      events : l.progress.events ≤ l.entry-index;
      put : l.progress.put ≤ l.progress.events * 2 ^ 32;
      left : sums_left l.session l.progress (drop l.entry-index l.entries) ≡ sums_of (trace (tab (tables_of l.file)) (events_of l.entries));
    }
