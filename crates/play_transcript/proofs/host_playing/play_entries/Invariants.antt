use Rattle.std.proofs.Common.{◌≡◌, ◌≤◌, drop, IsTrue}
use Rattle.play_transcript.specs.Printing.{AppendsBut}
use Rattle.play_transcript.specs.EachEntry.{AreSessions}
use Rattle.play_transcript.specs.HostText.{lines_left, end_left, host_text, host_end}
use Rattle.play_transcript.proofs.host_playing.play_entries.Given as goal

abbrev pub invariant-loop-entry : goal.invariant-loop-entry
invariant-loop-entry g l =
    record {
      faults : g.S.Sink.faults l.out ≡ g.S.Sink.faults l.initial.out;
      told : g.S.Sink.told l.out ≡ g.S.Sink.told l.initial.out;
      sessions : AreSessions l.play.host;
      events : l.play.events ≤ l.entry-index;
      failed : l.play.failed ≤ l.entry-index;
      end : end_left l.play (drop l.entry-index l.entries) ≡ host_end l.initial.play.host.tables l.entries;
      printed : IsTrue (g.S.Sink.told l.initial.out)
          → AppendsBut (lines_left l.play (drop l.entry-index l.entries)) (g.S.Sink.written l.initial.out) (g.S.Sink.written l.out) (host_text l.initial.play.host.tables l.entries);
    }
