use Rattle.std.proofs.Common.{◌≡◌, ◌+◌, List, ℕ, Some, refl, ap, rules}
use Rattle.kmn_base.specs.declared.codes.Code.TheVariants.{C24}
use Rattle.kmn_base.specs.declared.limits.TheConstants.{PICTURE_BYTES}
use Rattle.keyman_run.specs.declared.preparing.Stop.TheVariants as stop
use Rattle.keyman_words.specs.declared.reason.Reason.TheVariants as reason
use Rattle.keyman_words.specs.Beside.{beside}
use Rattle.keyman_run.specs.Inputs.{picture_of}
use Rattle.keyman_run.specs.Orders.{picture_work}
use Rattle.keyman_run.specs.Steps.{itself}
use Rattle.keyman_run.specs.Work.{Work, given}
use Rattle.keyman_run.specs.Work.Work.{Read}
use Rattle.keyman_run.proofs.InputLaws.{IsStopped, gives_bytes, given_concludes}
use Rattle.keyman_run.proofs.RunLaws.{gives_as, gives_handed, gives_no_memory}
use Rattle.keyman_run.proofs.preparing.read_named_picture.Goals as goal

-- the work of reading the picture of a whole name
abbrev picture_read : List ℕ → Work (List ℕ)
picture_read name = Read name PICTURE_BYTES (λ reading. given (picture_of reading))

pub returns-in_err-name : goal.returns-in_err-name
returns-in_err-name g c =
    gives_handed itself (picture_work c.args.source.now (Some c.args.picture.now)) g.F.Folder _ _ stop.Memory c.from_residual.result c.from_residual.ensures.1
    (gives_no_memory itself (picture_work c.args.source.now (Some c.args.picture.now)) g.F.Folder c.args.folder.now)

pub returns : goal.returns
returns g c =
    let is : c.of.result ≡ beside c.args.source.now c.args.picture.now = search rules in
    let stopped : IsStopped (reason.Size C24 (PICTURE_BYTES + 1)) c.read.result c.map_err.result = search rules in
    gives_as itself (picture_read c.of.result) (picture_work c.args.source.now (Some c.args.picture.now)) g.F.Folder _ _ _ (ap picture_read is)
    (gives_bytes c.of.result PICTURE_BYTES _ _ (reason.Size C24 (PICTURE_BYTES + 1)) g.F.Folder c.args.folder.now _ c.read.result c.map_err.result (given_concludes picture_of) (λ bytes. refl) refl stopped c.read.ensures.counts c.read.ensures.told c.read.ensures.reads)
