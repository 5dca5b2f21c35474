use Rattle.std.proofs.Common.{List, ℕ, Option, ap}
use Rattle.std.specs.Prelude.{option_map}
use Rattle.keyman_run.specs.Orders.{bytes_work}
use Rattle.keyman_run.specs.Steps.{itself}
use Rattle.keyman_run.specs.declared.preparing.Stop.TheVariants as stop
use Rattle.keyman_run.proofs.RunLaws.{gives_as, gives_behind, gives_handed, gives_no_memory, gives_stopped}
use Rattle.chart_run.specs.Drawings.{title_of}
use Rattle.chart_run.specs.Orders.{bytes_drawing_work, drawing_work}
use Rattle.chart_run.proofs.drawing.read_drawing.Goals as goal

pub returns-in_err-title : goal.returns-in_err-title
returns-in_err-title g c =
    let keys : Option (List ℕ) = option_map (λ name. name.now) c.args.keys in
    let layout : Option (List ℕ) = option_map (λ name. name.now) c.args.layout in
    gives_handed itself (drawing_work c.args.file.now keys layout) g.F.Folder _ _ stop.Memory c.from_residual.result c.from_residual.ensures.1
    (gives_no_memory itself (drawing_work c.args.file.now keys layout) g.F.Folder c.args.folder.now)

pub returns-in_err-bytes : goal.returns-in_err-bytes
returns-in_err-bytes g c =
    let keys : Option (List ℕ) = option_map (λ name. name.now) c.args.keys in
    let layout : Option (List ℕ) = option_map (λ name. name.now) c.args.layout in
    gives_handed itself (drawing_work c.args.file.now keys layout) g.F.Folder _ _ c.in_err-bytes.field-0.0 c.from_residual-in_err-bytes.result c.from_residual-in_err-bytes.ensures.1
    (gives_stopped itself itself (bytes_work c.args.file.now) (bytes_drawing_work (title_of c.args.file.now keys) keys layout) g.F.Folder _ _ c.in_err-bytes.field-0.0
    (gives_as itself (bytes_work c.of.result) (bytes_work c.args.file.now) g.F.Folder _ _ _ (ap bytes_work c.of.ensures) c.in_err-bytes.ensures))

pub returns : goal.returns
returns g c =
    let keys : Option (List ℕ) = option_map (λ name. name.now) c.args.keys in
    let layout : Option (List ℕ) = option_map (λ name. name.now) c.args.layout in
    gives_behind itself itself (bytes_work c.args.file.now) (bytes_drawing_work (title_of c.args.file.now keys) keys layout) g.F.Folder _ _ _ c.in_ok-bytes.bytes _
    (gives_as itself (bytes_work c.of.result) (bytes_work c.args.file.now) g.F.Folder _ _ _ (ap bytes_work c.of.ensures) c.in_ok-bytes.ensures)
    (gives_as itself (bytes_drawing_work c.in_ok-title.title keys layout c.as_slice.result.now) (bytes_drawing_work (title_of c.args.file.now keys) keys layout c.in_ok-bytes.bytes) g.F.Folder _ _ _
    (λ i. bytes_drawing_work (c.in_ok-title.ensures i) keys layout (c.as_slice.ensures i)) c.draw_bytes.ensures)
