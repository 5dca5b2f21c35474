use Rattle.std.proofs.Common.{subst}
use Rattle.rule_engine.specs.Engine.{EngineState}
use Rattle.rule_engine.specs.Event.{OthersHoldThemselves}
use Rattle.rule_engine.proofs.engine.Engine.options.Goals as goal

pub returns-clause-others : goal.returns-clause-others
returns-clause-others c =
    subst (λ (e : EngineState). OthersHoldThemselves e.tables c.self.inside.workspace.options) c.self.view_is c.self.invariant.others
