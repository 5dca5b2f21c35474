use Rattle.std.proofs.Common.{refl, sym, ◌∙◌, rules, arith}
use Rattle.play_transcript.proofs.PrintingLaws.{fault_prints}
use Rattle.play_transcript.proofs.ChosenLines.{lines_cover}
use Rattle.play_transcript.proofs.TraceLaws.{Begins, script_begins, HasGoneOn, gone_on, refused_ends, refused_prints, entry_stops, script_ends, ends_if, ends_so, still_covers}
use Rattle.play_transcript.proofs.following.follow.Goals as goal

pub loop-entry-init : goal.loop-entry-init
loop-entry-init g c =
    let h : Begins c.args.traced.now.session c.args.traced.now.coverage c.args.traced.now.session.tables c.args.entries.now
    = script_begins c.args.traced.now.session c.args.traced.now.coverage c.args.traced.now.session.tables c.args.entries.now c.requires.first c.requires.none_chosen c.requires.lines in
    rw c.no_counts-counts.ensures (record { faults = refl; told = refl; tables = refl; lines = refl; number = h.number; events = omega arith; end = h.end; printed = λ told. h.printed _ })

pub returns-in-Refused-clause-ends : goal.returns-in-Refused-clause-ends
returns-in-Refused-clause-ends g c =
    sym (refused_ends c.loop-entry.traced.session c.loop-entry.traced.coverage c.loop-entry.counts c.args.entries.now c.loop-entry.entry-index c.entry-item.result c.entry-item.result (omega arith) c.entry-item.is
    c.follow_entry.new.traced.session c.follow_entry.new.traced.coverage c.loop-entry.invariant.number (search rules) _ c.loop-entry.invariant.end)

pub returns-in-Refused-clause-prints : goal.returns-in-Refused-clause-prints
returns-in-Refused-clause-prints g c = λ told.
    refused_prints c.loop-entry.traced.session c.loop-entry.traced.coverage c.loop-entry.counts c.args.entries.now c.loop-entry.entry-index c.entry-item.result c.entry-item.result (omega arith) c.entry-item.is
    c.follow_entry.new.traced.session c.follow_entry.new.traced.coverage c.loop-entry.invariant.number (search rules) _ _ _ _ (c.loop-entry.invariant.printed told) (search rules)

pub returns-in_err-next-clause-prints : goal.returns-in_err-next-clause-prints
returns-in_err-next-clause-prints g c = λ told.
    fault_prints _ _ _ _ _ c.from_residual.ensures.1 (entry_stops c.loop-entry.traced.session c.loop-entry.traced.coverage c.loop-entry.counts c.args.entries.now c.loop-entry.entry-index c.entry-item.result c.entry-item.result (omega arith) c.entry-item.is
    _ _ _ _ (c.loop-entry.invariant.printed told) (c.in_err-next.ensures.prints (search rules)))

pub returns-clause-ends : goal.returns-clause-ends
returns-clause-ends g c =
    ends_if c.put_end.result _ _ c.put_end.ensures.ends (ends_so c.loop-entry.traced.session c.args.entries.now c.loop-entry.entry-index _ (omega arith) c.loop-entry.invariant.end)

pub returns-clause-prints : goal.returns-clause-prints
returns-clause-prints g c = λ told.
    script_ends c.loop-entry.traced.session c.loop-entry.traced.coverage c.hits.result.now c.loop-entry.counts c.args.entries.now c.loop-entry.entry-index _ _ _ _ _ (omega arith) c.hits.ensures.hits
    (c.loop-entry.invariant.printed told) (c.put_end.ensures.prints (search rules))

pub loop-entry-preserved : goal.loop-entry-preserved
loop-entry-preserved g c =
    let h : HasGoneOn c.loop-entry.traced.session c.loop-entry.traced.coverage c.loop-entry.counts c.args.entries.now c.loop-entry.entry-index c.entry-item.result c.entry-item.result (omega arith) c.entry-item.is
    c.follow_entry.new.traced.session c.follow_entry.new.traced.coverage c.in-On.next =
    gone_on c.loop-entry.traced.session c.loop-entry.traced.coverage c.loop-entry.counts c.args.entries.now c.loop-entry.entry-index c.entry-item.result c.entry-item.result (omega arith) c.entry-item.is
    c.follow_entry.new.traced.session c.follow_entry.new.traced.coverage c.in-On.next c.loop-entry.invariant.number (search rules) in
    record {
      faults = search rules;
      told = search rules;
      tables = h.tables ∙ c.loop-entry.invariant.tables;
      lines = h.lines ∙ c.loop-entry.invariant.lines;
      number = h.number;
      events = omega (arith, h.events, c.loop-entry.invariant.events);
      end = h.end _ c.loop-entry.invariant.end;
      printed = λ told. h.printed _ _ _ _ (c.loop-entry.invariant.printed told) (search rules);
    }

pub follow_entry-requires-clause-covers : goal.follow_entry-requires-clause-covers
follow_entry-requires-clause-covers g c = still_covers _ _ _ _ c.loop-entry.invariant.tables c.loop-entry.invariant.lines (lines_cover _ _ c.requires.lines)
