use Rattle.std.proofs.Common.{◌≡◌, drop, flat_map, IsTrue}
use Rattle.play_transcript.specs.Printing.{AppendsBut}
use Rattle.export_run.specs.Lines.{differs_line}
use Rattle.export_run.proofs.telling.put_differences.Given as goal

abbrev pub invariant-loop-difference : goal.invariant-loop-difference
invariant-loop-difference g l =
    record {
      faults : g.S.Sink.faults l.out ≡ g.S.Sink.faults l.initial.out;
      told : g.S.Sink.told l.out ≡ g.S.Sink.told l.initial.out;
      printed : IsTrue (g.S.Sink.told l.initial.out)
          → AppendsBut (flat_map differs_line (drop l.difference-index l.differences)) (g.S.Sink.written l.initial.out) (g.S.Sink.written l.out) (flat_map differs_line l.differences);
    }
