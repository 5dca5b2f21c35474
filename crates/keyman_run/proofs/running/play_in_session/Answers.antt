use Rattle.std.proofs.Common.{List}
use Rattle.rule_model.specs.Keyboard.{Keyboard}
use Rattle.rule_model.specs.Tab.{tab}
use Rattle.rule_model.specs.declared.script.Entry.{Entry}
use Rattle.keyman_run.specs.Endings.{Ending, play_ending}
use Rattle.keyman_run.specs.Orders.{script_work}
use Rattle.keyman_run.specs.Steps.{itself}
use Rattle.keyman_run.specs.Work.{Work}
use Rattle.keyman_run.specs.Work.Work.{Give}
use Rattle.keyman_run.proofs.FileRuns.{plays_entries}
use Rattle.keyman_run.proofs.RunLaws.{does_behind, does_stopped}
use Rattle.keyman_run.proofs.running.play_in_session.Goals as goal

-- the work that follows the script
abbrev rest : Keyboard → List Entry → Work Ending
rest kb entries = Give (play_ending kb entries)

pub returns-in-Ok : goal.returns-in-Ok
returns-in-Ok g c =
    let kb : Keyboard = tab c.args.session.tables in
    does_behind itself (script_work kb.dictionary c.args.keys.now) (rest kb) g.F.Folder _ _ _ c.in-Ok.entries g.S.Sink _ _ c.print_play.result c.in-Ok.ensures
    (plays_entries kb c.as_slice.result.now c.in-Ok.entries g.F.Folder _ g.S.Sink _ _ c.print_play.result c.as_slice.ensures c.print_play.ensures)

pub returns-in-Err : goal.returns-in-Err
returns-in-Err g c =
    let kb : Keyboard = tab c.args.session.tables in
    does_stopped itself (script_work kb.dictionary c.args.keys.now) (rest kb) g.F.Folder _ _ c.in-Err.stop g.S.Sink _ _ c.print_stop.result c.in-Err.ensures c.print_stop.ensures
