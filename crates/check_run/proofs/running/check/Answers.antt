use Rattle.std.proofs.Common.{◌≡◌, ℕ, List, Option, ap, rules}
use Rattle.std.specs.Prelude.{option_map}
use Rattle.keyman_run.specs.Steps.{itself}
use Rattle.keyman_run.proofs.RunLaws.{gives_as}
use Rattle.check_run.specs.Orders.{findings_work}
use Rattle.check_run.proofs.Endings.{checks_printed, checks_stopped}
use Rattle.check_run.proofs.running.check.Goals as goal

pub returns-in-Ok : goal.returns-in-Ok
returns-in-Ok g c =
    let layout : Option (List ℕ) = option_map (λ name. name.now) c.args.layout in
    let keys : Option (List ℕ) = option_map (λ name. name.now) c.args.keys in
    let is : c.of.result ≡ c.args.source.now = search rules in
    checks_printed c.as_slice.result.now c.args.source.now layout keys g.F.Folder _ _ g.S.Sink _ _ c.print_findings.result c.as_slice.ensures c.in-Ok.findings
    (gives_as itself (findings_work c.of.result layout keys) (findings_work c.args.source.now layout keys) g.F.Folder _ _ _ (ap (λ (name : List ℕ). findings_work name layout keys) is) c.in-Ok.ensures) c.print_findings.ensures

pub returns-in-Err : goal.returns-in-Err
returns-in-Err g c =
    let layout : Option (List ℕ) = option_map (λ name. name.now) c.args.layout in
    let keys : Option (List ℕ) = option_map (λ name. name.now) c.args.keys in
    let is : c.of.result ≡ c.args.source.now = search rules in
    checks_stopped c.as_slice-in-Err.result.now c.args.source.now layout keys g.F.Folder _ _ g.S.Sink _ _ c.print_stopped.result c.as_slice-in-Err.ensures c.in-Err.stop
    (gives_as itself (findings_work c.of.result layout keys) (findings_work c.args.source.now layout keys) g.F.Folder _ _ _ (ap (λ (name : List ℕ). findings_work name layout keys) is) c.in-Err.ensures) c.print_stopped.ensures
