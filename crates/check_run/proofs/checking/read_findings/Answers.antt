use Rattle.std.proofs.Common.{List, ℕ, Option, subst}
use Rattle.std.specs.Prelude.{option_map}
use Rattle.keyman_run.specs.Steps.{Gives, itself}
use Rattle.keyman_run.proofs.RunLaws.{gives_behind, gives_handed, gives_stopped}
use Rattle.check_run.specs.Orders.{bytes_check_work, findings_work, text_work}
use Rattle.check_run.proofs.checking.read_findings.Goals as goal

pub returns-in_err-bytes : goal.returns-in_err-bytes
returns-in_err-bytes g c =
    let layout : Option (List ℕ) = option_map (λ name. name.now) c.args.layout in
    let keys : Option (List ℕ) = option_map (λ name. name.now) c.args.keys in
    gives_handed itself (findings_work c.args.source.now layout keys) g.F.Folder _ _ c.in_err-bytes.field-0.0 c.from_residual.result c.from_residual.ensures.1
    (gives_stopped itself itself (text_work c.args.source.now) (bytes_check_work c.args.source.now layout keys) g.F.Folder _ _ c.in_err-bytes.field-0.0 c.in_err-bytes.ensures)

pub returns : goal.returns
returns g c =
    let layout : Option (List ℕ) = option_map (λ name. name.now) c.args.layout in
    let keys : Option (List ℕ) = option_map (λ name. name.now) c.args.keys in
    gives_behind itself itself (text_work c.args.source.now) (bytes_check_work c.args.source.now layout keys) g.F.Folder _ _ _ c.in_ok-bytes.bytes _ c.in_ok-bytes.ensures
    (subst (λ (bytes : List ℕ). Gives itself (bytes_check_work c.args.source.now layout keys bytes) g.F.Folder c.read_text.new.folder c.find.new.folder c.find.result) c.as_slice.ensures c.find.ensures)
