use Rattle.std.proofs.Common.{ap, subst}
use Rattle.rule_model.specs.declared.tables.Tables.{Tables}
use Rattle.play_session.specs.Session.{SessionState}
use Rattle.keyman_run.specs.Orders.{tables_play_work}
use Rattle.keyman_run.specs.Run.{Does}
use Rattle.keyman_run.proofs.running.play_on_valid.Goals as goal

pub returns-in-Ok : goal.returns-in-Ok
returns-in-Ok g c =
    subst (λ (tables : Tables). Does {F = g.row.F.Denot} {S = g.row.S.Denot} (tables_play_work tables c.args.keys.now) g.F.Folder c.args.folder.now c.play_in_session.new.folder
    g.S.Sink c.args.out.now c.play_in_session.new.out c.play_in_session.result)
    (ap (λ (session : SessionState). session.tables) c.in-Ok.ensures) c.play_in_session.ensures
