use Rattle.std.proofs.Common.{◌≡◌, drop, flat_map, IsTrue}
use Rattle.play_session.specs.Printed.{change_line}
use Rattle.play_transcript.specs.Printing.{AppendsBut}
use Rattle.play_transcript.proofs.playing.put_changes.Given as goal

abbrev pub invariant-loop-change : goal.invariant-loop-change
invariant-loop-change g l =
    record {
      faults : g.S.Sink.faults l.out ≡ g.S.Sink.faults l.initial.out;
      told : g.S.Sink.told l.out ≡ g.S.Sink.told l.initial.out;
      printed : IsTrue (g.S.Sink.told l.initial.out)
          → AppendsBut (flat_map (change_line l.front l.session) (drop l.change-index l.changes)) (g.S.Sink.written l.initial.out) (g.S.Sink.written l.out) (flat_map (change_line l.front l.session) l.changes);
    }
