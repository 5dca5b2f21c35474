use Rattle.std.proofs.Common.{◌≡◌, [], Some, None, ap, sym, rules}
use Rattle.kmn_compiler.specs.Picture.{picture_name}
use Rattle.keyman_run.specs.Orders.{picture_work}
use Rattle.keyman_run.specs.Steps.{itself}
use Rattle.keyman_run.specs.declared.preparing.Stop.TheVariants as stop
use Rattle.keyman_run.proofs.RunLaws.{gives_as, gives_handed, gives_no_memory, gives_value}
use Rattle.keyman_run.proofs.preparing.read_picture.Goals as goal

pub returns-in-Some : goal.returns-in-Some
returns-in-Some g c =
    let is : picture_name c.args.checked.now ≡ Some c.of.result = search rules in
    gives_as itself (picture_work c.args.source.now (Some c.of.result)) (picture_work c.args.source.now (picture_name c.args.checked.now)) g.F.Folder _ _ _
    (ap (picture_work c.args.source.now) (sym is)) c.read_named_picture.ensures

pub returns-in-None : goal.returns-in-None
returns-in-None g c =
    let is : picture_name c.args.checked.now ≡ None = search rules in
    rw c.new.ensures
    (gives_as itself (picture_work c.args.source.now None) (picture_work c.args.source.now (picture_name c.args.checked.now)) g.F.Folder _ _ _
    (ap (picture_work c.args.source.now) (sym is)) (gives_value itself g.F.Folder c.args.folder.now []))

pub returns-in_err-name : goal.returns-in_err-name
returns-in_err-name g c =
    gives_handed itself (picture_work c.args.source.now (picture_name c.args.checked.now)) g.F.Folder _ _ stop.Memory c.from_residual.result c.from_residual.ensures.1
    (gives_no_memory itself (picture_work c.args.source.now (picture_name c.args.checked.now)) g.F.Folder c.args.folder.now)
