use Rattle.std.proofs.Common.{◌<◌, ℕ, List, Option, length, subst}
use Rattle.std.specs.Prelude.{option_map}
use Rattle.kmn_base.specs.declared.refusals.Refusal.{Refusal}
use Rattle.keyman_run.specs.Steps.{itself}
use Rattle.keyman_run.specs.declared.preparing.Stop.TheVariants as stop
use Rattle.keyman_run.proofs.RunLaws.{gives_handed, gives_no_memory}
use Rattle.check_run.specs.Orders.{bytes_check_work}
use Rattle.check_run.proofs.Checks.{checks_file, refuses_lines}
use Rattle.check_run.proofs.checking.find.Goals as goal

pub returns-in_err-refusals : goal.returns-in_err-refusals
returns-in_err-refusals g c =
    let layout : Option (List ℕ) = option_map (λ name. name.now) c.args.layout in
    let keys : Option (List ℕ) = option_map (λ name. name.now) c.args.keys in
    gives_handed itself (bytes_check_work c.args.source.now layout keys c.args.bytes.now) g.F.Folder _ _ stop.Memory c.from_residual.result c.from_residual.ensures.1
    (gives_no_memory itself (bytes_check_work c.args.source.now layout keys c.args.bytes.now) g.F.Folder c.args.folder.now)

pub returns-in-empty : goal.returns-in-empty
returns-in-empty g c =
    let layout : Option (List ℕ) = option_map (λ name. name.now) c.args.layout in
    let keys : Option (List ℕ) = option_map (λ name. name.now) c.args.keys in
    let few : length c.in_ok-refusals.refusals < 1 = subst (λ (list : List Refusal). length list < 1) c.as_slice.ensures c.in-empty.len_below in
    checks_file c.args.source.now layout keys c.args.bytes.now g.F.Folder _ c.in_ok-refusals.refusals c.in_ok-refusals.ensures _ c.check_file.result few c.check_file.ensures

pub returns-in_err-refused_lines-in-len1-up : goal.returns-in_err-refused_lines-in-len1-up
returns-in_err-refused_lines-in-len1-up g c =
    let layout : Option (List ℕ) = option_map (λ name. name.now) c.args.layout in
    let keys : Option (List ℕ) = option_map (λ name. name.now) c.args.keys in
    gives_handed itself (bytes_check_work c.args.source.now layout keys c.args.bytes.now) g.F.Folder _ _ stop.Memory c.from_residual-in_err-refused_lines-in-len1-up.result c.from_residual-in_err-refused_lines-in-len1-up.ensures.1
    (gives_no_memory itself (bytes_check_work c.args.source.now layout keys c.args.bytes.now) g.F.Folder c.args.folder.now)

pub returns : goal.returns
returns g c =
    let layout : Option (List ℕ) = option_map (λ name. name.now) c.args.layout in
    let keys : Option (List ℕ) = option_map (λ name. name.now) c.args.keys in
    refuses_lines c.args.source.now layout keys c.args.bytes.now g.F.Folder _ c.in_ok-refusals.refusals c.in_ok-refusals.ensures c.as_slice.result.now _
    c.in_ok-refused_lines-in-len1-up.field-0 c.as_slice.ensures c.in-len1-up.len_at_least c.in_ok-refused_lines-in-len1-up.ensures
