use Rattle.std.proofs.Common.{List}
use Rattle.rule_model.specs.Tab.{tab}
use Rattle.rule_model.specs.declared.tables.Tables.{Tables}
use Rattle.kmx_format.specs.TablesOf.{tables_of}
use Rattle.text_host.specs.declared.entries.HostEntry.{HostEntry}
use Rattle.keyman_run.specs.Endings.{Ending, host_ending}
use Rattle.keyman_run.specs.Orders.{host_script_work}
use Rattle.keyman_run.specs.Steps.{itself}
use Rattle.keyman_run.specs.Work.{Work}
use Rattle.keyman_run.specs.Work.Work.{Give}
use Rattle.keyman_run.proofs.HostRuns.{hosts_entries}
use Rattle.keyman_run.proofs.RunLaws.{does_behind, does_stopped}
use Rattle.keyman_run.proofs.hosting.host_on_valid.Goals as goal

-- the work that follows the script
abbrev rest : Tables → List HostEntry → Work Ending
rest tables entries = Give (host_ending tables entries)

pub returns-in-Ok : goal.returns-in-Ok
returns-in-Ok g c =
    let tables : Tables = tables_of c.args.file.now in
    does_behind itself (host_script_work (tab tables).dictionary c.args.keys.now) (rest tables) g.F.Folder _ _ _ c.in-Ok.entries g.S.Sink _ _ c.print_host_play.result c.in-Ok.ensures
    (hosts_entries tables c.as_slice.result.now c.in-Ok.entries g.F.Folder _ g.S.Sink _ _ c.print_host_play.result c.as_slice.ensures c.print_host_play.ensures)

pub returns-in-Err : goal.returns-in-Err
returns-in-Err g c =
    let tables : Tables = tables_of c.args.file.now in
    does_stopped itself (host_script_work (tab tables).dictionary c.args.keys.now) (rest tables) g.F.Folder _ _ c.in-Err.stop g.S.Sink _ _ c.print_stop.result c.in-Err.ensures c.print_stop.ensures
