use Rattle.std.proofs.Common.{◌≡◌, drop}
use Rattle.chart_run.specs.Drawings.{state_left}
use Rattle.chart_run.proofs.playing.play_all.Given as goal

abbrev pub invariant-loop-entry : goal.invariant-loop-entry
invariant-loop-entry l = record {
  numbered : l.session.number ≡ l.number;
  tables : l.session.tables ≡ l.initial.session.tables;
  left : state_left l.session (drop l.entry-index l.entries) ≡ state_left l.initial.session l.entries;
}
