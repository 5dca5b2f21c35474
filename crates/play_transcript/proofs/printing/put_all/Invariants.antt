use Rattle.std.proofs.Common.{◌≡◌, length, IsTrue}
use Rattle.play_transcript.specs.Printing.{AppendsBut}
use Rattle.play_transcript.proofs.printing.put_all.Given as goal

abbrev pub invariant-loop-rest : goal.invariant-loop-rest
invariant-loop-rest g l =
    record {
      faults : g.S.Sink.faults l.out ≡ g.S.Sink.faults l.initial.out;
      told : g.S.Sink.told l.out ≡ g.S.Sink.told l.initial.out;
      printed : IsTrue (g.S.Sink.told l.initial.out) → AppendsBut l.rest (g.S.Sink.written l.initial.out) (g.S.Sink.written l.out) l.line;
    }

abbrev pub decreases-loop-rest : goal.decreases-loop-rest
decreases-loop-rest g l = length l.rest
