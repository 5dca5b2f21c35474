use Rattle.std.proofs.Common.{refl, rules}
use Rattle.kmn_base.specs.declared.codes.Code.TheVariants.{V15}
use Rattle.kmn_base.specs.declared.limits.TheConstants.{FILE_BYTES}
use Rattle.keyman_words.specs.declared.reason.Reason.{Reason}
use Rattle.keyman_words.specs.declared.reason.Reason.TheVariants as reason
use Rattle.keyman_run.specs.Inputs.{bytes_of}
use Rattle.keyman_run.proofs.InputLaws.{IsStopped, gives_bytes, given_concludes}
use Rattle.keyman_run.proofs.preparing.read_file.Goals as goal

pub returns : goal.returns
returns g c =
    let long : Reason = reason.File (record { code = V15; at = 0; unit = 0 }) in
    let is : IsStopped long c.read.result c.map_err.result = search rules in
    gives_bytes c.args.name.now FILE_BYTES _ _ long g.F.Folder c.args.folder.now _ c.read.result c.map_err.result (given_concludes bytes_of) (λ bytes. refl) refl is c.read.ensures.counts c.read.ensures.told c.read.ensures.reads
