use Rattle.std.proofs.Common.{◌≡◌, List, ℕ, Ok, Err, refl, rules, subst}
use Rattle.kmn_base.specs.declared.codes.Code.TheVariants.{P06}
use Rattle.kmn_base.specs.declared.limits.TheConstants.{TEXT_BYTES}
use Rattle.play_script.specs.Answers.{Answers}
use Rattle.text_host.specs.HostEntries.{host_entries}
use Rattle.keyman_run.specs.Inputs.{host_script_of}
use Rattle.keyman_run.specs.Orders.{host_script_work}
use Rattle.keyman_run.specs.Steps.{itself, at_line_one, script_stop}
use Rattle.keyman_run.proofs.InputLaws.{IsStopped, gives_stop, gives_whole, given_concludes, value_stated, broken_stated}
use Rattle.keyman_run.proofs.RunLaws.{gives_handed}
use Rattle.keyman_run.proofs.hosting.read_host_entries.Goals as goal

pub returns-in_err-script : goal.returns-in_err-script
returns-in_err-script g c =
    let is : IsStopped (at_line_one P06) c.read.result (Err c.in_err-script.field-0.0) = search rules in
    gives_stop itself c.args.keys.now TEXT_BYTES _ _ (at_line_one P06) g.F.Folder c.args.folder.now _ c.read.result c.in_err-script.field-0.0 c.from_residual.result is c.from_residual.ensures.1
    (given_concludes (host_script_of c.args.names.now)) refl c.read.ensures.counts c.read.ensures.told c.read.ensures.reads

pub returns-in_err-read_host : goal.returns-in_err-read_host
returns-in_err-read_host g c =
    let is : c.read.result ≡ Ok c.in_ok-script.script = search rules in
    gives_handed itself (host_script_work c.args.names.now c.args.keys.now) g.F.Folder _ _ (script_stop c.in_err-read_host.field-0.0) c.from_residual-in_err-read_host.result c.from_residual-in_err-read_host.ensures.1
    (gives_whole itself c.args.keys.now TEXT_BYTES _ _ g.F.Folder c.args.folder.now _ c.read.result c.in_ok-script.script _ is (given_concludes (host_script_of c.args.names.now)) c.read.ensures.counts c.read.ensures.told c.read.ensures.reads
    (broken_stated (host_entries c.args.names.now c.in_ok-script.script) c.in_err-read_host.field-0.0
    (subst (λ (script : List ℕ). Answers (host_entries c.args.names.now script) (Err c.in_err-read_host.field-0.0)) c.as_slice.ensures c.in_err-read_host.ensures)))

pub returns : goal.returns
returns g c =
    let is : c.read.result ≡ Ok c.in_ok-script.script = search rules in
    gives_whole itself c.args.keys.now TEXT_BYTES _ _ g.F.Folder c.args.folder.now _ c.read.result c.in_ok-script.script _ is (given_concludes (host_script_of c.args.names.now)) c.read.ensures.counts c.read.ensures.told c.read.ensures.reads
    (value_stated (host_entries c.args.names.now c.in_ok-script.script) c.in_ok-read_host.field-0
    (subst (λ (script : List ℕ). host_entries c.args.names.now script ≡ Ok c.in_ok-read_host.field-0) c.as_slice.ensures c.in_ok-read_host.ensures))
