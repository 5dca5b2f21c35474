use Rattle.std.proofs.Common.{refl, subst}
use Rattle.rule_engine.specs.Engine.{EngineState}
use Rattle.play_session.specs.Session.{SessionState, TellsPress}
use Rattle.play_session.proofs.session.Session.engine.Goals as goal

pub returns-clause-press : goal.returns-clause-press
returns-clause-press c =
    let engine : EngineState = c.self.inside.engine in
    subst (λ (session : SessionState). TellsPress session engine) c.self.view_is
    (record { typed = c.self.inside.typed; inserted = refl; chosen = refl })
