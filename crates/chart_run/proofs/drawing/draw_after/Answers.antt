use Rattle.std.proofs.Common.{Ok}
use Rattle.chart_run.specs.Drawings.{drawing}
use Rattle.chart_run.proofs.Drawn.{drawing_made, drawing_stops, drawing_unmade}
use Rattle.chart_run.proofs.drawing.draw_after.Goals as goal

pub returns-in_err-play_through : goal.returns-in_err-play_through
returns-in_err-play_through c =
    drawing_stops c.args.title c.args.layers.now c.args.tables.now c.args.entries.now c.args.session c.requires.first (Unit {0}) (Ok c.play_through.new.session.state) c.in_err-play_through.field-0.0 c.from_residual.result c.from_residual.ensures.1
    c.in_err-play_through.ensures.leads

pub returns-in_err-draw_now : goal.returns-in_err-draw_now
returns-in_err-draw_now c =
    drawing_unmade (drawing c.args.title c.args.layers.now c.args.tables.now c.args.entries.now) c.from_residual-in_err-draw_now.result c.from_residual-in_err-draw_now.ensures.1

pub returns : goal.returns
returns c =
    drawing_made c.args.title c.args.layers.now c.args.tables.now c.args.entries.now c.args.session c.requires.first c.play_through.new.session c.in_ok-draw_now.field-0 c.in_ok-play_through.ensures.leads c.play_through.ensures.tables
    c.in_ok-draw_now.ensures
