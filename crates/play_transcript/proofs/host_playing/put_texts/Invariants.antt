use Rattle.std.proofs.Common.{◌≡◌, ◌+◌, drop, IsTrue}
use Rattle.play_transcript.specs.Printing.{AppendsBut}
use Rattle.play_transcript.specs.HostText.{field_texts}
use Rattle.play_transcript.proofs.host_playing.put_texts.Given as goal

abbrev pub invariant-loop-session : goal.invariant-loop-session
invariant-loop-session g l =
    record {
      faults : g.S.Sink.faults l.out ≡ g.S.Sink.faults l.initial.out;
      told : g.S.Sink.told l.out ≡ g.S.Sink.told l.initial.out;
      field : l.field ≡ l.session-index;
      printed : IsTrue (g.S.Sink.told l.initial.out)
          → AppendsBut (field_texts (l.field + 1) (drop l.session-index l.host.sessions)) (g.S.Sink.written l.initial.out) (g.S.Sink.written l.out) (field_texts 1 l.host.sessions);
    }
