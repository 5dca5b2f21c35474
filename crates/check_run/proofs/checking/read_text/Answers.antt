use Rattle.std.proofs.Common.{refl, rules}
use Rattle.kmn_base.specs.declared.codes.Code.TheVariants.{L05}
use Rattle.kmn_base.specs.declared.limits.TheConstants.{TEXT_BYTES}
use Rattle.keyman_run.specs.Steps.{at_line_one}
use Rattle.keyman_run.proofs.InputLaws.{IsStopped, gives_bytes, given_concludes}
use Rattle.check_run.specs.Orders.{bytes_in}
use Rattle.check_run.proofs.checking.read_text.Goals as goal

pub returns : goal.returns
returns g c =
    let is : IsStopped (at_line_one L05) c.read.result c.map_err.result = search rules in
    gives_bytes c.args.source.now TEXT_BYTES _ _ (at_line_one L05) g.F.Folder c.args.folder.now _ c.read.result c.map_err.result (given_concludes bytes_in) (λ bytes. refl) refl is c.read.ensures.counts c.read.ensures.told c.read.ensures.reads
