use Rattle.std.proofs.Common.{◌≡◌, ◌≤◌, drop, IsTrue}
use Rattle.rule_model.specs.Tab.{tab}
use Rattle.rule_model.specs.Trace.{trace}
use Rattle.rule_model.specs.Transcript.{events_of, transcript}
use Rattle.play_session.specs.Printed.{IsSession}
use Rattle.play_transcript.specs.Ends.{play_end}
use Rattle.play_transcript.proofs.PlayingLaws.{end_left}
use Rattle.play_transcript.proofs.PlayingLaws.{lines_left}
use Rattle.play_transcript.specs.Printing.{AppendsBut}
use Rattle.play_transcript.proofs.playing.play.Given as goal

abbrev pub invariant-loop-entry : goal.invariant-loop-entry
invariant-loop-entry g l =
    record {
      faults : g.S.Sink.faults l.out ≡ g.S.Sink.faults l.initial.out;
      told : g.S.Sink.told l.out ≡ g.S.Sink.told l.initial.out;
      session : IsSession l.session;
      number : l.session.number ≡ l.counts.number;
      events : l.counts.events ≤ l.entry-index;
      failed : l.counts.failed ≤ l.entry-index;
      end : end_left l.session l.counts (drop l.entry-index l.entries) ≡ play_end (trace (tab l.initial.session.tables) (events_of l.entries)) l.entries;
      printed : IsTrue (g.S.Sink.told l.initial.out)
          → AppendsBut (lines_left l.session l.counts (drop l.entry-index l.entries)) (g.S.Sink.written l.initial.out) (g.S.Sink.written l.out) (transcript (tab l.initial.session.tables) l.entries);
    }
