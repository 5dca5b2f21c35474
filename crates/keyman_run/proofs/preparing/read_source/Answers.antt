use Rattle.std.proofs.Common.{◌≡◌, List, ℕ, Ok, Err, refl, rules, subst}
use Rattle.kmn_base.specs.Answers.{Answers}
use Rattle.kmn_base.specs.declared.codes.Code.TheVariants.{L05}
use Rattle.kmn_base.specs.declared.limits.TheConstants.{TEXT_BYTES}
use Rattle.rule_checker.specs.Refused.{checked}
use Rattle.keyman_run.specs.Inputs.{program_of}
use Rattle.keyman_run.specs.Orders.{source_work}
use Rattle.keyman_run.specs.Steps.{itself, compile_stop, at_line_one}
use Rattle.keyman_run.proofs.InputLaws.{IsStopped, gives_stop, gives_whole, given_concludes, value_stated, error_stated}
use Rattle.keyman_run.proofs.RunLaws.{gives_handed}
use Rattle.keyman_run.proofs.preparing.read_source.Goals as goal

pub returns-in_err-source : goal.returns-in_err-source
returns-in_err-source g c =
    let is : IsStopped (at_line_one L05) c.read.result (Err c.in_err-source.field-0.0) = search rules in
    gives_stop itself c.args.name.now TEXT_BYTES _ _ (at_line_one L05) g.F.Folder c.args.folder.now _ c.read.result c.in_err-source.field-0.0 c.from_residual.result is c.from_residual.ensures.1
    (given_concludes program_of) refl c.read.ensures.counts c.read.ensures.told c.read.ensures.reads

pub returns-in_err-front : goal.returns-in_err-front
returns-in_err-front g c =
    let is : c.read.result ≡ Ok c.in_ok-source.source = search rules in
    gives_handed itself (source_work c.args.name.now) g.F.Folder _ _ (compile_stop c.in_err-front.field-0.0) c.from_residual-in_err-front.result c.from_residual-in_err-front.ensures.1
    (gives_whole itself c.args.name.now TEXT_BYTES _ _ g.F.Folder c.args.folder.now _ c.read.result c.in_ok-source.source _ is (given_concludes program_of) c.read.ensures.counts c.read.ensures.told c.read.ensures.reads
    (error_stated (checked c.in_ok-source.source) c.in_err-front.field-0.0 (subst (λ (source : List ℕ). Answers (checked source) (Err c.in_err-front.field-0.0)) c.as_slice.ensures c.in_err-front.ensures)))

pub returns : goal.returns
returns g c =
    let is : c.read.result ≡ Ok c.in_ok-source.source = search rules in
    gives_whole itself c.args.name.now TEXT_BYTES _ _ g.F.Folder c.args.folder.now _ c.read.result c.in_ok-source.source _ is (given_concludes program_of) c.read.ensures.counts c.read.ensures.told c.read.ensures.reads
    (value_stated (checked c.in_ok-source.source) c.in_ok-front.field-0 (subst (λ (source : List ℕ). checked source ≡ Ok c.in_ok-front.field-0) c.as_slice.ensures c.in_ok-front.ensures))
