use Rattle.std.proofs.Common.{ℕ, [], Ok}
use Rattle.chart_run.specs.Drawings.{state_left}
use Rattle.chart_run.proofs.Plays.{leads_handed, leads_behind}
use Rattle.chart_run.proofs.playing.play_through.Goals as goal

pub returns-in_err-last-clause-leads : goal.returns-in_err-last-clause-leads
returns-in_err-last-clause-leads c =
    leads_handed (Unit {0}) ℕ (state_left c.args.session.now c.args.entries.now) (state_left c.play_all.new.session []) (Ok c.play_all.new.session.state) c.in_err-last.field-0.0 c.from_residual.result c.from_residual.ensures.1
    c.in_err-last.ensures.leads

pub returns-clause-leads : goal.returns-clause-leads
returns-clause-leads c =
    leads_behind (Unit {0}) (state_left c.args.session.now c.args.entries.now) (state_left c.play_all.new.session []) (Ok c.play_all.new.session.state) c.check_room.result c.in_ok-last.ensures.leads c.check_room.ensures.leads
