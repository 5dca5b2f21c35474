use Rattle.std.proofs.Common.{List, ℕ, length}
use Rattle.std.specs.Prelude.{option_map}
use Rattle.keyman_words.specs.declared.status.Status.TheVariants as status
use Rattle.keyman_words.proofs.Printed.{tells_made}
use Rattle.keyman_words.specs.Tells.{write_status}
use Rattle.keyman_run.specs.Endings.{Ending}
use Rattle.keyman_run.specs.Steps.{itself}
use Rattle.keyman_run.specs.Work.{Work}
use Rattle.keyman_run.specs.Work.Work.{Give}
use Rattle.keyman_run.proofs.RunLaws.{does_behind, does_written, does_unwritten, does_stopped}
use Rattle.chart_run.specs.Drawings.{drawn_line}
use Rattle.chart_run.specs.Orders.{chart_ending, drawing_work}
use Rattle.chart_run.proofs.running.draw.Goals as goal

-- the work that follows the drawing
abbrev rest : List ℕ → List ℕ → Work Ending
rest picture text = Give (chart_ending picture text)

pub returns-in-Ok-write : goal.returns-in-Ok-write
returns-in-Ok-write g c =
    does_behind itself (drawing_work c.args.file.now (option_map (λ name. name.now) c.args.keys) (option_map (λ name. name.now) c.args.layout)) (rest c.args.picture.now) g.F.Folder _ _ _ c.in-Ok.text g.S.Sink _ _ c.print_result.result c.in-Ok.ensures
    (does_written status.Done (drawn_line (length c.in-Ok.text)) c.args.picture.now c.in-Ok.text c.as_slice.result.now g.F.Folder _ _ g.S.Sink _ _ c.print_result.result _
    c.as_slice.ensures c.in-Ok-write.ensures.counts c.in-Ok-write.ensures.told c.in-Ok-write.ensures.writes (tells_made _ _ _ _ _ _ _ c.print_result.ensures c.drawn_line.ensures))

pub returns-in-Ok : goal.returns-in-Ok
returns-in-Ok g c =
    rw c.write_status.ensures
    (does_behind itself (drawing_work c.args.file.now (option_map (λ name. name.now) c.args.keys) (option_map (λ name. name.now) c.args.layout)) (rest c.args.picture.now) g.F.Folder _ _ _ c.in-Ok.text g.S.Sink _ _ (write_status c.in-Err-write.error) c.in-Ok.ensures
    (does_unwritten status.Done (drawn_line (length c.in-Ok.text)) c.args.picture.now c.in-Ok.text c.as_slice.result.now g.F.Folder _ _ g.S.Sink _ c.in-Err-write.error
    c.in-Err-write.ensures.counts c.in-Err-write.ensures.told c.in-Err-write.ensures.writes))

pub returns : goal.returns
returns g c =
    does_stopped itself (drawing_work c.args.file.now (option_map (λ name. name.now) c.args.keys) (option_map (λ name. name.now) c.args.layout)) (rest c.args.picture.now) g.F.Folder _ _ c.in-Err.stop g.S.Sink _ _ c.print_stop.result c.in-Err.ensures c.print_stop.ensures
