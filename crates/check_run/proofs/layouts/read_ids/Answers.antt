use Rattle.std.proofs.Common.{◌≡◌, Ok, Err, refl, rules}
use Rattle.kmn_base.specs.declared.codes.Code.TheVariants.{T7}
use Rattle.kmn_base.specs.declared.limits.TheConstants.{TEXT_BYTES}
use Rattle.touch_layout.specs.Faults.{fault, whole_layout}
use Rattle.keyman_words.specs.declared.reason.Reason.TheVariants as reason
use Rattle.keyman_run.specs.Steps.{itself, layout_stop}
use Rattle.keyman_run.specs.declared.preparing.Stop.TheVariants as stop
use Rattle.keyman_run.proofs.InputLaws.{IsStopped, gives_stop, gives_whole, given_concludes}
use Rattle.keyman_run.proofs.RunLaws.{gives_handed}
use Rattle.check_run.specs.Inputs.{ids_in}
use Rattle.check_run.specs.Orders.{ids_work}
use Rattle.check_run.proofs.LayoutIds.{ids_stated, broken_stated}
use Rattle.check_run.proofs.layouts.read_ids.Goals as goal

pub returns-in_err-layout : goal.returns-in_err-layout
returns-in_err-layout g c =
    let is : IsStopped (reason.Layout (fault T7 whole_layout)) c.read.result (Err c.in_err-layout.field-0.0) = search rules in
    gives_stop itself c.args.name.now TEXT_BYTES _ _ (reason.Layout (fault T7 whole_layout)) g.F.Folder c.args.folder.now _ c.read.result c.in_err-layout.field-0.0 c.from_residual.result is c.from_residual.ensures.1
    (given_concludes (ids_in c.args.tables.now)) refl c.read.ensures.counts c.read.ensures.told c.read.ensures.reads

pub returns-in_err-check_layout : goal.returns-in_err-check_layout
returns-in_err-check_layout g c =
    let is : c.read.result ≡ Ok c.in_ok-layout.layout = search rules in
    gives_handed itself (ids_work c.args.tables.now c.args.name.now) g.F.Folder _ _ (layout_stop c.in_err-check_layout.field-0.0) c.from_residual-in_err-check_layout.result c.from_residual-in_err-check_layout.ensures.1
    (gives_whole itself c.args.name.now TEXT_BYTES _ _ g.F.Folder c.args.folder.now _ c.read.result c.in_ok-layout.layout _ is (given_concludes (ids_in c.args.tables.now)) c.read.ensures.counts c.read.ensures.told c.read.ensures.reads
    (broken_stated c.as_slice-bytes.result.now c.in_ok-layout.layout c.args.tables.now c.in_err-check_layout.field-0.0 c.as_slice-bytes.ensures c.in_err-check_layout.ensures.refused))

pub returns-in_err-layout_ids : goal.returns-in_err-layout_ids
returns-in_err-layout_ids g c =
    let is : c.read.result ≡ Ok c.in_ok-layout.layout = search rules in
    gives_handed itself (ids_work c.args.tables.now c.args.name.now) g.F.Folder _ _ stop.Memory c.from_residual-in_err-layout_ids.result c.from_residual-in_err-layout_ids.ensures.1
    (gives_whole itself c.args.name.now TEXT_BYTES _ _ g.F.Folder c.args.folder.now _ c.read.result c.in_ok-layout.layout (Err stop.Memory) is (given_concludes (ids_in c.args.tables.now)) c.read.ensures.counts c.read.ensures.told c.read.ensures.reads tt)

pub returns : goal.returns
returns g c =
    let is : c.read.result ≡ Ok c.in_ok-layout.layout = search rules in
    gives_whole itself c.args.name.now TEXT_BYTES _ _ g.F.Folder c.args.folder.now _ c.read.result c.in_ok-layout.layout _ is (given_concludes (ids_in c.args.tables.now)) c.read.ensures.counts c.read.ensures.told c.read.ensures.reads
    (ids_stated c.as_slice-bytes.result.now c.in_ok-layout.layout c.args.tables.now c.in_ok-layout_ids.field-0 c.as_slice-bytes.ensures c.in_ok-check_layout.ensures.count.0 c.in_ok-layout_ids.ensures)
