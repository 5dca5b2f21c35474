use Rattle.std.proofs.Common.{◌≡◌, ◌≤◌, drop, IsTrue}
use Rattle.rule_model.specs.Tab.{tab}
use Rattle.rule_model.specs.Trace.{trace}
use Rattle.rule_model.specs.Transcript.{events_of}
use Rattle.rule_trace.specs.Coverage.{lines_of_tables, hit_lines}
use Rattle.play_transcript.specs.Printing.{AppendsBut}
use Rattle.play_transcript.proofs.TraceLaws.{end_left}
use Rattle.play_transcript.proofs.TraceLaws.{text_left}
use Rattle.play_transcript.specs.TraceEnds.{trace_end}
use Rattle.play_transcript.specs.TraceText.{trace_text}
use Rattle.play_transcript.proofs.following.follow.Given as goal

abbrev pub invariant-loop-entry : goal.invariant-loop-entry
invariant-loop-entry g l =
    record {
      faults : g.S.Sink.faults l.out ≡ g.S.Sink.faults l.initial.out;
      told : g.S.Sink.told l.out ≡ g.S.Sink.told l.initial.out;
      tables : l.traced.session.tables ≡ l.initial.traced.session.tables;
      lines : hit_lines l.traced.coverage ≡ hit_lines l.initial.traced.coverage;
      number : l.traced.session.number ≡ l.counts.number;
      events : l.counts.events ≤ l.entry-index;
      end : end_left l.traced.session (drop l.entry-index l.entries) ≡ trace_end (trace (tab l.initial.traced.session.tables) (events_of l.entries));
      printed : IsTrue (g.S.Sink.told l.initial.out)
          → AppendsBut (text_left l.traced.session l.traced.coverage l.counts (drop l.entry-index l.entries)) (g.S.Sink.written l.initial.out) (g.S.Sink.written l.out)
          (trace_text (tab l.initial.traced.session.tables) (lines_of_tables l.initial.traced.session.tables) l.entries);
    }
