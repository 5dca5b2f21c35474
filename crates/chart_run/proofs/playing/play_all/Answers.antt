use Rattle.std.proofs.Common.{ℕ, ◌+◌, [], drop, arith}
use Rattle.chart_run.specs.Drawings.{state_left}
use Rattle.chart_run.proofs.Plays.{leads_handed, stops}
use Rattle.chart_run.proofs.playing.play_all.Goals as goal

pub returns-in_err-number-clause-leads : goal.returns-in_err-number-clause-leads
returns-in_err-number-clause-leads c =
    leads_handed ℕ ℕ (state_left c.args.session.now c.args.entries.now) (state_left c.perform.new.session []) (state_left c.perform.new.session []) c.in_err-number.field-0.0 c.from_residual.result c.from_residual.ensures.1
    (stops c.loop-entry.session c.args.entries.now _ c.loop-entry.entry-index c.loop-entry.invariant.left c.entry-item.result c.entry-item.result (omega arith) c.entry-item.is
    ℕ ℕ (state_left c.perform.new.session (drop (c.loop-entry.entry-index + 1) c.args.entries.now)) (state_left c.perform.new.session []) c.in_err-number.field-0.0 (c.in_err-number.ensures.leads (drop (c.loop-entry.entry-index + 1) c.args.entries.now)))
