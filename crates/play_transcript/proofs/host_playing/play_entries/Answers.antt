use Rattle.std.proofs.Common.{sym, refl, rules, arith}
use Rattle.play_session.proofs.Printing.{sessions_begin, sessions_go_on}
use Rattle.play_transcript.proofs.PlayingLaws.{ends_if}
use Rattle.play_transcript.proofs.PrintingLaws.{fault_prints}
use Rattle.play_transcript.proofs.EntryLaws.{Begins, play_begins, HasGoneOn, gone_on, refused_ends, refused_prints, entry_stops, play_ends, ends_so}
use Rattle.play_transcript.proofs.host_playing.play_entries.Goals as goal

pub loop-entry-init : goal.loop-entry-init
loop-entry-init g c =
    let h : Begins c.args.play.now c.args.play.now.host.tables c.args.entries.now = play_begins c.args.play.now c.args.play.now.host.tables c.args.entries.now c.requires in
    record { faults = refl; told = refl; sessions = h.sessions; events = omega (arith, h.events); failed = omega (arith, h.failed); end = h.end; printed = λ told. h.printed _ }

pub returns-in-Refused-clause-ends : goal.returns-in-Refused-clause-ends
returns-in-Refused-clause-ends g c =
    sym (refused_ends c.loop-entry.play c.args.entries.now c.loop-entry.entry-index c.entry-item.result c.entry-item.result (omega arith) c.entry-item.is c.play_entry.new.play (search rules) _ c.loop-entry.invariant.end)

pub returns-in-Refused-clause-prints : goal.returns-in-Refused-clause-prints
returns-in-Refused-clause-prints g c = λ told.
    refused_prints c.loop-entry.play c.args.entries.now c.loop-entry.entry-index c.entry-item.result c.entry-item.result (omega arith) c.entry-item.is c.play_entry.new.play (search rules)
    _ _ _ _ (c.loop-entry.invariant.printed told) (search rules)

pub returns-in_err-play_entry-clause-prints : goal.returns-in_err-play_entry-clause-prints
returns-in_err-play_entry-clause-prints g c = λ told.
    fault_prints _ _ _ _ _ c.from_residual.ensures.1 (entry_stops c.loop-entry.play c.args.entries.now c.loop-entry.entry-index c.entry-item.result c.entry-item.result (omega arith) c.entry-item.is
    _ _ _ _ (c.loop-entry.invariant.printed told) (c.in_err-play_entry.ensures.prints (search rules)))

pub returns-clause-ends : goal.returns-clause-ends
returns-clause-ends g c =
    ends_if c.put_end.result _ _ c.put_end.ensures.ends (ends_so c.loop-entry.play c.args.entries.now c.loop-entry.entry-index _ (omega arith) c.loop-entry.invariant.end)

pub returns-clause-prints : goal.returns-clause-prints
returns-clause-prints g c = λ told.
    play_ends c.loop-entry.play c.args.entries.now c.loop-entry.entry-index _ _ _ _ _ (omega arith) (c.loop-entry.invariant.printed told) (c.put_end.ensures.prints (search rules))

pub loop-entry-preserved : goal.loop-entry-preserved
loop-entry-preserved g c =
    let h : HasGoneOn c.loop-entry.play c.args.entries.now c.loop-entry.entry-index c.entry-item.result c.entry-item.result (omega arith) c.entry-item.is c.play_entry.new.play
    = gone_on c.loop-entry.play c.args.entries.now c.loop-entry.entry-index c.entry-item.result c.entry-item.result (omega arith) c.entry-item.is sessions_begin sessions_go_on c.play_entry.new.play
    c.loop-entry.invariant.sessions (search rules) in
    record {
      faults = search rules;
      told = search rules;
      sessions = h.sessions;
      events = omega (arith, h.events, c.loop-entry.invariant.events);
      failed = omega (arith, h.failed, c.loop-entry.invariant.failed);
      end = h.end _ c.loop-entry.invariant.end;
      printed = λ told. h.printed _ _ _ _ (c.loop-entry.invariant.printed told) (search rules);
    }
