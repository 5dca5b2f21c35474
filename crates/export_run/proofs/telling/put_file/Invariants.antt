use Rattle.std.proofs.Common.{◌≡◌, drop, flat_map, IsTrue}
use Rattle.play_transcript.specs.Printing.{AppendsBut}
use Rattle.export_run.specs.Lines.{file_line}
use Rattle.export_run.proofs.telling.put_file.Given as goal

abbrev pub invariant-loop-construct : goal.invariant-loop-construct
invariant-loop-construct g l =
    record {
      faults : g.S.Sink.faults l.out ≡ g.S.Sink.faults l.initial.out;
      told : g.S.Sink.told l.out ≡ g.S.Sink.told l.initial.out;
      printed : IsTrue (g.S.Sink.told l.initial.out)
          → AppendsBut (flat_map file_line (drop l.construct-index l.constructs)) (g.S.Sink.written l.initial.out) (g.S.Sink.written l.out) (flat_map file_line l.constructs);
    }
