use Rattle.std.proofs.Common.{◌≡◌, Ok, Err, refl, rules}
use Rattle.kmn_base.specs.declared.codes.Code.TheVariants.{T7}
use Rattle.kmn_base.specs.declared.limits.TheConstants.{TEXT_BYTES}
use Rattle.touch_layout.specs.Faults.{fault, whole_layout}
use Rattle.keyman_words.specs.declared.reason.Reason.TheVariants as reason
use Rattle.keyman_run.specs.Inputs.{keys_of}
use Rattle.keyman_run.specs.Orders.{keys_work}
use Rattle.keyman_run.specs.Steps.{itself, layout_stop}
use Rattle.keyman_run.proofs.InputLaws.{IsStopped, gives_stop, gives_whole, given_concludes}
use Rattle.keyman_run.proofs.LayoutLaws.{sound_stated, broken_layout}
use Rattle.keyman_run.proofs.RunLaws.{gives_handed}
use Rattle.keyman_run.proofs.layouts.read_keys.Goals as goal

pub returns-in_err-layout : goal.returns-in_err-layout
returns-in_err-layout g c =
    let is : IsStopped (reason.Layout (fault T7 whole_layout)) c.read.result (Err c.in_err-layout.field-0.0) = search rules in
    gives_stop itself c.args.name.now TEXT_BYTES _ _ (reason.Layout (fault T7 whole_layout)) g.F.Folder c.args.folder.now _ c.read.result c.in_err-layout.field-0.0 c.from_residual.result is c.from_residual.ensures.1
    (given_concludes (keys_of c.args.tables.now)) refl c.read.ensures.counts c.read.ensures.told c.read.ensures.reads

pub returns-in_err-check_layout : goal.returns-in_err-check_layout
returns-in_err-check_layout g c =
    let is : c.read.result ≡ Ok c.in_ok-layout.layout = search rules in
    gives_handed itself (keys_work c.args.tables.now c.args.name.now) g.F.Folder _ _ (layout_stop c.in_err-check_layout.field-0.0) c.from_residual-in_err-check_layout.result c.from_residual-in_err-check_layout.ensures.1
    (gives_whole itself c.args.name.now TEXT_BYTES _ _ g.F.Folder c.args.folder.now _ c.read.result c.in_ok-layout.layout _ is (given_concludes (keys_of c.args.tables.now)) c.read.ensures.counts c.read.ensures.told c.read.ensures.reads
    (broken_layout c.as_slice.result.now c.in_ok-layout.layout c.args.tables.now c.in_err-check_layout.field-0.0 c.as_slice.ensures c.in_err-check_layout.ensures.refused))

pub returns : goal.returns
returns g c =
    let is : c.read.result ≡ Ok c.in_ok-layout.layout = search rules in
    gives_whole itself c.args.name.now TEXT_BYTES _ _ g.F.Folder c.args.folder.now _ c.read.result c.in_ok-layout.layout _ is (given_concludes (keys_of c.args.tables.now)) c.read.ensures.counts c.read.ensures.told c.read.ensures.reads
    (sound_stated c.as_slice.result.now c.in_ok-layout.layout c.args.tables.now c.in_ok-check_layout.field-0 c.as_slice.ensures c.in_ok-check_layout.ensures.count)
