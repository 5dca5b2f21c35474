use Rattle.std.proofs.Common.{List, ℕ, Option, ap, subst}
use Rattle.std.specs.Prelude.{option_map}
use Rattle.rule_model.specs.Tab.{tab}
use Rattle.rule_model.specs.declared.script.Entry.{Entry}
use Rattle.play_session.specs.Session.{SessionState}
use Rattle.touch_board.specs.declared.layers.TouchLayer.{TouchLayer}
use Rattle.keyman_run.specs.Steps.{States, itself}
use Rattle.keyman_run.proofs.RunLaws.{gives_as, gives_handed}
use Rattle.chart_run.specs.Drawings.{drawing}
use Rattle.chart_run.specs.Orders.{entries_work, tables_drawing_work}
use Rattle.chart_run.proofs.Drawn.{draws_tables, layout_stops, script_stops}
use Rattle.chart_run.proofs.drawing.draw_session.Goals as goal

pub returns-in_err-entries : goal.returns-in_err-entries
returns-in_err-entries g c =
    let keys : Option (List ℕ) = option_map (λ name. name.now) c.args.keys in
    let layout : Option (List ℕ) = option_map (λ name. name.now) c.args.layout in
    gives_handed itself (tables_drawing_work c.args.title keys layout c.args.tables.now) g.F.Folder _ _ c.in_err-entries.field-0.0 c.from_residual.result c.from_residual.ensures.1
    (script_stops c.args.title keys layout c.args.tables.now g.F.Folder c.args.folder.now c.args.folder.now _ c.in_err-entries.field-0.0
    (gives_as itself (entries_work (tab c.args.session.tables).dictionary keys) (entries_work (tab c.args.tables.now).dictionary keys) g.F.Folder _ _ _
    (ap (λ (session : SessionState). entries_work (tab session.tables).dictionary keys) c.requires.first) c.in_err-entries.ensures))

pub returns-in_err-layers : goal.returns-in_err-layers
returns-in_err-layers g c =
    let keys : Option (List ℕ) = option_map (λ name. name.now) c.args.keys in
    let layout : Option (List ℕ) = option_map (λ name. name.now) c.args.layout in
    gives_handed itself (tables_drawing_work c.args.title keys layout c.args.tables.now) g.F.Folder _ _ c.in_err-layers.field-0.0 c.from_residual-in_err-layers.result c.from_residual-in_err-layers.ensures.1
    (layout_stops c.args.title keys layout c.args.tables.now g.F.Folder c.args.folder.now _ _ c.in_ok-entries.entries c.in_err-layers.field-0.0
    (gives_as itself (entries_work (tab c.args.session.tables).dictionary keys) (entries_work (tab c.args.tables.now).dictionary keys) g.F.Folder _ _ _
    (ap (λ (session : SessionState). entries_work (tab session.tables).dictionary keys) c.requires.first) c.in_ok-entries.ensures)
    c.in_err-layers.ensures)

pub returns : goal.returns
returns g c =
    let keys : Option (List ℕ) = option_map (λ name. name.now) c.args.keys in
    let layout : Option (List ℕ) = option_map (λ name. name.now) c.args.layout in
    draws_tables c.args.title keys layout c.args.tables.now g.F.Folder c.args.folder.now _ _ c.in_ok-entries.entries c.in_ok-layers.layers c.draw_after.result
    (gives_as itself (entries_work (tab c.args.session.tables).dictionary keys) (entries_work (tab c.args.tables.now).dictionary keys) g.F.Folder _ _ _
    (ap (λ (session : SessionState). entries_work (tab session.tables).dictionary keys) c.requires.first) c.in_ok-entries.ensures)
    c.in_ok-layers.ensures
    (subst (λ (layers : List TouchLayer). States itself (drawing c.args.title layers c.args.tables.now c.in_ok-entries.entries) c.draw_after.result) c.as_slice-drawn.ensures
    (subst (λ (entries : List Entry). States itself (drawing c.args.title c.as_slice-drawn.result.now c.args.tables.now entries) c.draw_after.result) c.as_slice-played.ensures c.draw_after.ensures))
