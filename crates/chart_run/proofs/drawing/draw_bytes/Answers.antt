use Rattle.std.proofs.Common.{List, ℕ, Option}
use Rattle.std.specs.Prelude.{option_map}
use Rattle.keyman_run.specs.Steps.{itself, verify_stop}
use Rattle.keyman_run.specs.declared.preparing.Stop.TheVariants as stop
use Rattle.keyman_run.proofs.RunLaws.{gives_handed, gives_no_memory}
use Rattle.chart_run.specs.Orders.{bytes_drawing_work}
use Rattle.chart_run.proofs.Drawn.{unread_drawing, draws_file}
use Rattle.chart_run.proofs.drawing.draw_bytes.Goals as goal

pub returns-in_err-file : goal.returns-in_err-file
returns-in_err-file g c =
    let keys : Option (List ℕ) = option_map (λ name. name.now) c.args.keys in
    let layout : Option (List ℕ) = option_map (λ name. name.now) c.args.layout in
    gives_handed itself (bytes_drawing_work c.args.title keys layout c.args.bytes.now) g.F.Folder _ _ (verify_stop c.in_err-file.field-0.0) c.from_residual.result c.from_residual.ensures.1
    (unread_drawing c.args.title keys layout c.args.bytes.now c.in_err-file.field-0.0 g.F.Folder c.args.folder.now c.in_err-file.ensures)

pub returns-in_err-tables : goal.returns-in_err-tables
returns-in_err-tables g c =
    let keys : Option (List ℕ) = option_map (λ name. name.now) c.args.keys in
    let layout : Option (List ℕ) = option_map (λ name. name.now) c.args.layout in
    gives_handed itself (bytes_drawing_work c.args.title keys layout c.args.bytes.now) g.F.Folder _ _ stop.Memory c.from_residual-in_err-tables.result c.from_residual-in_err-tables.ensures.1
    (gives_no_memory itself (bytes_drawing_work c.args.title keys layout c.args.bytes.now) g.F.Folder c.args.folder.now)

pub returns-in_err-session : goal.returns-in_err-session
returns-in_err-session g c =
    let keys : Option (List ℕ) = option_map (λ name. name.now) c.args.keys in
    let layout : Option (List ℕ) = option_map (λ name. name.now) c.args.layout in
    gives_handed itself (bytes_drawing_work c.args.title keys layout c.args.bytes.now) g.F.Folder _ _ stop.Memory c.from_residual-in_err-session.result c.from_residual-in_err-session.ensures.1
    (gives_no_memory itself (bytes_drawing_work c.args.title keys layout c.args.bytes.now) g.F.Folder c.args.folder.now)

pub returns : goal.returns
returns g c =
    let keys : Option (List ℕ) = option_map (λ name. name.now) c.args.keys in
    let layout : Option (List ℕ) = option_map (λ name. name.now) c.args.layout in
    draws_file c.args.title keys layout c.args.bytes.now c.in_ok-file.file g.F.Folder c.args.folder.now _ c.in_ok-file.ensures.0 c.in_ok-file.ensures.1 c.in_ok-tables.tables c.draw_session.result
    c.in_ok-tables.ensures.value c.draw_session.ensures
