use Rattle.std.proofs.Common.{◌∙◌, ap}
use Rattle.rule_model.specs.Tab.{tab}
use Rattle.kmx_format.specs.TablesOf.{tables_of}
use Rattle.play_session.specs.Session.{SessionState}
use Rattle.keyman_run.specs.Orders.{host_script_work}
use Rattle.keyman_run.specs.Steps.{itself}
use Rattle.keyman_run.specs.declared.preparing.Stop.TheVariants as stop
use Rattle.keyman_run.proofs.RunLaws.{gives_as, gives_handed, gives_no_memory}
use Rattle.keyman_run.proofs.hosting.read_for_file.Goals as goal

pub returns-in_err-session : goal.returns-in_err-session
returns-in_err-session g c =
    gives_handed itself (host_script_work (tab (tables_of c.args.file.now)).dictionary c.args.keys.now) g.F.Folder _ _ stop.Memory c.from_residual.result c.from_residual.ensures.1
    (gives_no_memory itself (host_script_work (tab (tables_of c.args.file.now)).dictionary c.args.keys.now) g.F.Folder c.args.folder.now)

pub returns : goal.returns
returns g c =
    gives_as itself (host_script_work c.own_names.result.now c.args.keys.now) (host_script_work (tab (tables_of c.args.file.now)).dictionary c.args.keys.now) g.F.Folder _ _ _
    (ap (λ names. host_script_work names c.args.keys.now) c.own_names.ensures
    ∙ ap (λ (session : SessionState). host_script_work (tab session.tables).dictionary c.args.keys.now) c.in_ok-session.ensures) c.read_host_entries.ensures
