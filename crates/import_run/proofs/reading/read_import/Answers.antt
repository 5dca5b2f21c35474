use Rattle.std.proofs.Common.{◌≡◌, List, ℕ, Ok, Err, refl, rules, subst}
use Rattle.kmn_base.specs.Answers.{Answers}
use Rattle.kmn_base.specs.declared.codes.Code.TheVariants.{L05}
use Rattle.kmn_import.specs.Import.{imported}
use Rattle.keyman_run.specs.Steps.{itself, compile_stop, at_line_one}
use Rattle.keyman_run.proofs.InputLaws.{IsStopped, gives_stop, gives_whole, given_concludes, value_stated, error_stated}
use Rattle.keyman_run.proofs.RunLaws.{gives_handed}
use Rattle.import_run.specs.Orders.{import_of, source_work}
use Rattle.import_run.specs.declared.reading.TheConstants.{WIDE_TEXT_BYTES}
use Rattle.import_run.proofs.reading.read_import.Goals as goal

pub returns-in_err-bytes : goal.returns-in_err-bytes
returns-in_err-bytes g c =
    let is : IsStopped (at_line_one L05) c.read.result (Err c.in_err-bytes.field-0.0) = search rules in
    gives_stop itself c.args.source.now WIDE_TEXT_BYTES _ _ (at_line_one L05) g.F.Folder c.args.folder.now _ c.read.result c.in_err-bytes.field-0.0 c.from_residual.result is c.from_residual.ensures.1
    (given_concludes import_of) refl c.read.ensures.counts c.read.ensures.told c.read.ensures.reads

pub returns-in_err-import : goal.returns-in_err-import
returns-in_err-import g c =
    let is : c.read.result ≡ Ok c.in_ok-bytes.bytes = search rules in
    gives_handed itself (source_work c.args.source.now) g.F.Folder _ _ (compile_stop c.in_err-import.field-0.0) c.from_residual-in_err-import.result c.from_residual-in_err-import.ensures.1
    (gives_whole itself c.args.source.now WIDE_TEXT_BYTES _ _ g.F.Folder c.args.folder.now _ c.read.result c.in_ok-bytes.bytes _ is (given_concludes import_of) c.read.ensures.counts c.read.ensures.told c.read.ensures.reads
    (error_stated (imported c.in_ok-bytes.bytes) c.in_err-import.field-0.0 (subst (λ (bytes : List ℕ). Answers (imported bytes) (Err c.in_err-import.field-0.0)) c.as_slice.ensures c.in_err-import.ensures)))

pub returns : goal.returns
returns g c =
    let is : c.read.result ≡ Ok c.in_ok-bytes.bytes = search rules in
    gives_whole itself c.args.source.now WIDE_TEXT_BYTES _ _ g.F.Folder c.args.folder.now _ c.read.result c.in_ok-bytes.bytes _ is (given_concludes import_of) c.read.ensures.counts c.read.ensures.told c.read.ensures.reads
    (value_stated (imported c.in_ok-bytes.bytes) c.in_ok-import.field-0 (subst (λ (bytes : List ℕ). imported bytes ≡ Ok c.in_ok-import.field-0) c.as_slice.ensures c.in_ok-import.ensures))
